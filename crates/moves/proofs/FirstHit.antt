-- The rules' two searches over a list, by what stands at the places before the first hit.
-- Assumes nothing.
use mathlib.Core.Path.{◌≡◌, refl}
use mathlib.Core.Bool.{Bool, true, false}
use mathlib.Core.List.{List, [], ◌∷◌}
use Prim.Native.Nat.{ℕ, zero, suc, ◌<◌, ◌≤◌, zero-le, suc-le-suc}
use native.Mathlib.Nat.{le_of_suc-le-suc, not-suc-le-zero}
use lib.ListN.{length, get_or}
use Rattle.std.specs.Prelude.{Option, Some, None}
use Rattle.rules.specs.declared.Pos.{Pos}
use Rattle.rules.specs.Lists.{first_at, first_found}

module _ {A : Type 0} where
  -- every element before place i came to b
  abbrev pub Before : {B : Type 0} → (ℕ → A → B) → B → List A → A → ℕ → Type 0
  Before k b l d i = (j : ℕ) → j < i → k j (get_or l j d) ≡ b

  first : {B : Type 0} (k : ℕ → A → B) (b : B) (x : A) (l : List A) (d : A) (i : ℕ) → Before k b (x ∷ l) d (suc i) → k 0 x ≡ b
  first k b x l d i n = n 0 (suc-le-suc zero-le)

  rest : {B : Type 0} (k : ℕ → A → B) (b : B) (x : A) (l : List A) (d : A) (i : ℕ) → Before k b (x ∷ l) d (suc i) → Before (λ j. k (suc j)) b l d i
  rest k b x l d i n j q = n (suc j) (suc-le-suc q)

  -- ---- the first place whose element passes

  -- at place i
  pub first_here : (k : ℕ → A → Bool) (l : List A) (d : A) (i : ℕ) → Before k false l d i → i < length l → k i (get_or l i d) ≡ true → first_at k l ≡ Some i
  unfolding first_at
  first_here k [] d i n h e = absurd (not-suc-le-zero h)
  first_here k (x ∷ l) d zero n h e = rw e
  first_here k (x ∷ l) d (suc i) n h e = rw (first k false x l d i n, first_here (λ j. k (suc j)) l d i (rest k false x l d i n) (le_of_suc-le-suc h) e)

  -- nowhere
  pub first_full : (k : ℕ → A → Bool) (l : List A) (d : A) (i : ℕ) → Before k false l d i → length l ≤ i → first_at k l ≡ None
  unfolding first_at
  first_full k [] d i n h = refl
  first_full k (x ∷ l) d zero n h = absurd (not-suc-le-zero h)
  first_full k (x ∷ l) d (suc i) n h = rw (first k false x l d i n, first_full (λ j. k (suc j)) l d i (rest k false x l d i n) (le_of_suc-le-suc h))

  -- ---- what the first element that finds something finds

  -- at place i
  pub found_here : (k : ℕ → A → Option Pos) (l : List A) (d : A) (i : ℕ) {p : Pos} → Before k None l d i → i < length l → k i (get_or l i d) ≡ Some p → first_found k l ≡ Some p
  unfolding first_found
  found_here k [] d i n h e = absurd (not-suc-le-zero h)
  found_here k (x ∷ l) d zero n h e = rw e
  found_here k (x ∷ l) d (suc i) n h e = rw (first k None x l d i n) (found_here (λ j. k (suc j)) l d i (rest k None x l d i n) (le_of_suc-le-suc h) e)

  -- nowhere
  pub found_nowhere : (k : ℕ → A → Option Pos) (l : List A) (d : A) (i : ℕ) → Before k None l d i → length l ≤ i → first_found k l ≡ None
  unfolding first_found
  found_nowhere k [] d i n h = refl
  found_nowhere k (x ∷ l) d zero n h = absurd (not-suc-le-zero h)
  found_nowhere k (x ∷ l) d (suc i) n h = rw (first k None x l d i n) (found_nowhere (λ j. k (suc j)) l d i (rest k None x l d i n) (le_of_suc-le-suc h))
