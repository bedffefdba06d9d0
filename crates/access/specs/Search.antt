-- What the search for the owner tells a store: it goes on from what was found, or it comes too late and misspeculates.
-- Assumes nothing.
use Rattle.std.specs.Prelude.{◌≡◌, Bool, false, cond, ℕ, Option, Some, None, Result, Ok, Err}
use Rattle.rules.specs.declared.Held.{Held}
use Rattle.rules.specs.declared.Machine.{Machine}
use Rattle.rules.specs.Store.{misspeculates}
use Rattle.access.specs.declared.stores.Late.{Late}

-- the search of a store that acts with number a
abbrev pub searched : ℕ → Option Held → Result (Option Held) Late
searched a (Some h) = cond (misspeculates a h.line) (Err (record {})) (Ok (Some h))
searched a None = Ok None

-- a plain store acts with LCVID
abbrev pub ActsAs : Machine → Bool → ℕ → Type 0
ActsAs μ vid a = vid ≡ false → a ≡ μ.lcvid
