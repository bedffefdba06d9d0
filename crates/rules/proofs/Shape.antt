-- What the language keeps of a machine's arrays: four caches of sixteen lines, and 64 words.
-- Assumes nothing.
use mathlib.Core.Path.{◌≡◌}
use mathlib.Core.List.{List, [], ◌∷◌}
use Prim.Native.Nat.{ℕ, zero, suc, ◌<◌, ◌≤◌}
use native.Mathlib.Nat.{le_of_suc-le-suc, not-suc-le-zero}
use native.Mathlib.Omega.{arith}
use lib.ListN.{length, get_or, get_or-eq_default}
use mir.Val.{Val}
use denote.Laws.{Is}
use denote.Shadow.{shadow}
use denote.Array.{each}
use denote.Struct.Declared.{row}
use Rattle.rules.specs.declared.Cache.{Cache}
use Rattle.rules.specs.declared.Machine.{Machine}
use Rattle.rules.specs.Machine.{no_cache}
use Rattle.rules.specs.contracts.Cache as C
use Rattle.rules.specs.contracts.Machine as X

pub lines_16 : (k : Cache) (vs : List Val) → Is (row C.the_type) k vs → length k.lines ≡ 16
lines_16 k vs p = p.1.1.0.1.0.1

caches_4 : (μ : Machine) (vs : List Val) → Is (row X.the_type) μ vs → length μ.caches ≡ 4
caches_4 μ vs p = p.1.1.0.1.0.1

memory_64 : (μ : Machine) (vs : List Val) → Is (row X.the_type) μ vs → length μ.memory ≡ 64
memory_64 μ vs p = p.1.1.1.1.1.0.1.0.1

all_16 : (ks : List Cache) (us : List Val) → shadow (each (C.the_row).Denot (C.the_row).own_val ks us) → (c : ℕ) → c < length ks → length (get_or ks c no_cache).lines ≡ 16
all_16 [] us p c h = absurd (not-suc-le-zero h)
all_16 (k ∷ ks) [] p c h = absurd p
all_16 (k ∷ ks) (u ∷ us) p zero h = lines_16 k _ p.0
all_16 (k ∷ ks) (u ∷ us) p (suc c) h = all_16 ks us p.1 c (le_of_suc-le-suc h)

pub record Shape (μ : Machine) : Type 0 where
  pub four : length μ.caches ≡ 4
  pub sixteen : (c : ℕ) → c < 4 → length (get_or μ.caches c no_cache).lines ≡ 16
  pub words : length μ.memory ≡ 64

pub shape : (μ : Machine) (vs : List Val) → Is (row X.the_type) μ vs → Shape μ
shape μ vs p = record {
  four = caches_4 μ vs p;
  sixteen = λ c h. all_16 μ.caches _ p.1.1.0.1.1 c (let e = caches_4 μ vs p in omega arith);
  words = memory_64 μ vs p;
}

module _ (μ : Machine) (s : Shape μ) (c : ℕ) where
  -- past the last cache there are no lines
  pub no_cache_lem : 4 ≤ c → get_or μ.caches c no_cache ≡ no_cache
  no_cache_lem h = get_or-eq_default μ.caches no_cache (omega (arith, s.four))

  -- past the last slot of a cache there is no line
  pub no_slot : (i : ℕ) → c < 4 → 16 ≤ i → length (get_or μ.caches c no_cache).lines ≤ i
  no_slot i h j = omega (arith, s.sixteen c h)
