-- What a load or store is refused for before its rule is tried, as the code answers it.
-- Assumes nothing.
use Rattle.std.specs.Prelude.{cond, ◌&&◌, ℕ, ltb, leb, Result, Ok, Err}
use Rattle.rules.specs.declared.Reason.{Reason}
use Rattle.rules.specs.declared.Reason.TheVariants.{NotSound, NoSuchCache, AddressTooLarge, VidTooLarge, VidPast}
use Rattle.rules.specs.Step.{has_vid}

-- the tests of `checked` in rules/specs/Step, in its order
unfoldable pub judged : ℕ → ℕ → ℕ → ℕ → ℕ → Result (Unit {0}) Reason
judged count lc c v at =
    cond (leb 64 lc) (Err NotSound)
    (cond (leb count c) (Err NoSuchCache)
    (cond (ltb 63 at) (Err AddressTooLarge)
    (cond (leb 64 v) (Err VidTooLarge)
    (cond (has_vid v && leb v lc) (Err VidPast)
    (Ok tt)))))
