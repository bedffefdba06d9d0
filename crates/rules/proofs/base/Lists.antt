-- Lists by their places: what a change, a test of all and a search come to at each place.
-- Assumes nothing.
use mathlib.Core.Path.{◌≡◌, refl, sym, ap, subst}
use mathlib.Core.Bool.{Bool, true, false, cond}
use mathlib.Core.List.{List, [], ◌∷◌}
use Prim.Native.Nat.{ℕ, zero, suc, ◌<◌, zero-le, suc-le-suc}
use native.Mathlib.Nat.{le_of_suc-le-suc, not-suc-le-zero}
use lib.ListN.{length, get_or}
use Rattle.std.specs.Prelude.{Option, Some, None}
use Rattle.rules.specs.declared.Pos.{Pos}
use Rattle.rules.specs.Lists.{one_on, or_else, map_at, all_at, first_at, first_found}
use Rattle.std.specs.Cmp.Derive.{both_true}
use Rattle.std.proofs.lemmas.Bool.{and_parts}

-- what a search among n elements found: it passes; or none passes
abbrev FoundBy : (ℕ → Bool) → ℕ → Option ℕ → Type 0
FoundBy t n (Some i) = (i < n) × (t i ≡ true)
FoundBy t n None = (i : ℕ) → i < n → t i ≡ false

-- what a search in each of n elements found: one finds it; or none finds anything
abbrev FoundIn : (ℕ → Option Pos) → ℕ → Option Pos → Type 0
FoundIn k n (Some p) = (i : ℕ) × (i < n) × (k i ≡ Some p)
FoundIn k n None = (i : ℕ) → i < n → k i ≡ None

module _ {A : Type 0} where
  pub length_map : (k : ℕ → A → A) (l : List A) → length (map_at k l) ≡ length l
  unfolding map_at
  length_map k [] = refl
  length_map k (x ∷ l) = ap suc (length_map (λ i. k (suc i)) l)

  -- a change that leaves the default alone
  pub get_d_map : (k : ℕ → A → A) (l : List A) (d : A) → ((i : ℕ) → k i d ≡ d) → (n : ℕ) → get_or (map_at k l) n d ≡ k n (get_or l n d)
  unfolding map_at
  get_d_map k [] d h n = sym (h n)
  get_d_map k (x ∷ l) d h zero = refl
  get_d_map k (x ∷ l) d h (suc n) = get_d_map (λ i. k (suc i)) l d (λ i. h (suc i)) n

  -- a test of all that the default passes
  pub all_at_lem : (k : ℕ → A → Bool) (l : List A) (d : A) → ((i : ℕ) → k i d ≡ true) → all_at k l ≡ true → (n : ℕ) → k n (get_or l n d) ≡ true
  unfolding all_at
  all_at_lem k [] d h t n = h n
  all_at_lem k (x ∷ l) d h t zero = (and_parts (k 0 x) (all_at (λ i. k (suc i)) l) t).0
  all_at_lem k (x ∷ l) d h t (suc n) = all_at_lem (λ i. k (suc i)) l d (λ i. h (suc i)) ((and_parts (k 0 x) (all_at (λ i. k (suc i)) l) t).1) n

  pub all_of : (k : ℕ → A → Bool) (l : List A) (d : A) → ((n : ℕ) → n < length l → k n (get_or l n d) ≡ true) → all_at k l ≡ true
  unfolding all_at
  all_of k [] d h = refl
  all_of k (x ∷ l) d h = both_true (h 0 (suc-le-suc zero-le)) (all_of (λ i. k (suc i)) l d (λ n q. h (suc n) (suc-le-suc q)))

  -- the first place that passes: it passes; and where there is none, none passes
  first_by : (k : ℕ → A → Bool) (l : List A) (d : A) → FoundBy (λ i. k i (get_or l i d)) (length l) (first_at k l)
  unfolding first_at
  first_by k [] d = λ i h. absurd (not-suc-le-zero h)
  first_by k (x ∷ l) d = go (k 0 x) refl (first_at (λ i. k (suc i)) l) (first_by (λ i. k (suc i)) l d)
    where
      go : (b : Bool) → k 0 x ≡ b → (r : Option ℕ) → FoundBy (λ i. k (suc i) (get_or l i d)) (length l) r → FoundBy (λ i. k i (get_or (x ∷ l) i d)) (suc (length l)) (cond b (Some 0) (one_on r))
      go true e r h = (suc-le-suc zero-le, e)
      go false e (Some i) h = (suc-le-suc h.0, h.1)
      go false e None h = none
        where
          none : (i : ℕ) → i < suc (length l) → k i (get_or (x ∷ l) i d) ≡ false
          none zero q = e
          none (suc i) q = h i (le_of_suc-le-suc q)

  pub first_some : (k : ℕ → A → Bool) (l : List A) (d : A) (n : ℕ) → first_at k l ≡ Some n → (n < length l) × (k n (get_or l n d) ≡ true)
  first_some k l d n e = subst (FoundBy (λ i. k i (get_or l i d)) (length l)) e (first_by k l d)

  pub first_none : (k : ℕ → A → Bool) (l : List A) (d : A) → first_at k l ≡ None → (n : ℕ) → n < length l → k n (get_or l n d) ≡ false
  first_none k l d e = subst (FoundBy (λ i. k i (get_or l i d)) (length l)) e (first_by k l d)

  found_by : (k : ℕ → A → Option Pos) (l : List A) (d : A) → FoundIn (λ i. k i (get_or l i d)) (length l) (first_found k l)
  unfolding first_found
  found_by k [] d = λ i h. absurd (not-suc-le-zero h)
  found_by k (x ∷ l) d = go (k 0 x) refl (first_found (λ i. k (suc i)) l) (found_by (λ i. k (suc i)) l d)
    where
      go : (b : Option Pos) → k 0 x ≡ b → (r : Option Pos) → FoundIn (λ i. k (suc i) (get_or l i d)) (length l) r → FoundIn (λ i. k i (get_or (x ∷ l) i d)) (suc (length l)) (or_else b r)
      go (Some p) e r h = (0, suc-le-suc zero-le, e)
      go None e (Some p) (i, h, f) = (suc i, suc-le-suc h, f)
      go None e None h = none
        where
          none : (i : ℕ) → i < suc (length l) → k i (get_or (x ∷ l) i d) ≡ None
          none zero q = e
          none (suc i) q = h i (le_of_suc-le-suc q)

  pub found_some : (k : ℕ → A → Option Pos) (l : List A) (d : A) (p : Pos) → first_found k l ≡ Some p → (i : ℕ) × (i < length l) × (k i (get_or l i d) ≡ Some p)
  found_some k l d p e = subst (FoundIn (λ i. k i (get_or l i d)) (length l)) e (found_by k l d)

  pub found_none : (k : ℕ → A → Option Pos) (l : List A) (d : A) → first_found k l ≡ None → (i : ℕ) → i < length l → k i (get_or l i d) ≡ None
  found_none k l d e = subst (FoundIn (λ i. k i (get_or l i d)) (length l)) e (found_by k l d)
