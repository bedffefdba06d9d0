-- A machine whose caches are changed one by one, and that is else as it was; and one such change.
-- Assumes nothing.
use mathlib.Core.Path.{◌≡◌}
use mathlib.Core.List.{List}
use Prim.Native.Nat.{ℕ}
use Rattle.rules.specs.declared.Cache.{Cache}
use Rattle.rules.specs.declared.Machine.{Machine}
use Rattle.rules.specs.Machine.{with_caches}
use Rattle.moves.specs.declared.changes.Change.{Change}
use Rattle.moves.specs.Change.{changed_cache}

-- a machine that differs from μ in its caches alone, with other caches
pub turn : (μ ν : Machine) {js ks ls : List Cache} → ls ≡ ks → ν ≡ with_caches μ js → with_caches ν ls ≡ with_caches μ ks
turn μ ν e g = rw (g, e)

-- a cache that is changed, by what its number comes to
pub changed_as : (ch : Change) (n m : ℕ) (k h : Cache) → h ≡ changed_cache ch n k → n ≡ m → h ≡ changed_cache ch m k
changed_as ch n m k h c e = rw (← e) c
