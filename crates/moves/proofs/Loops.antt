-- A loop over a list that changes each element in its place ends with the list changed at every place.
-- Assumes nothing.
use mathlib.Core.Path.{◌≡◌, refl, sym, ◌∙◌, ap}
use mathlib.Core.List.{List, [], ◌∷◌}
use Prim.Native.Nat.{ℕ, zero, suc, ◌<◌, ◌≤◌, ◌+◌}
use native.Mathlib.Nat.{le_of_suc-le-suc, not-suc-le-zero}
use native.Mathlib.Numerals.{add-one}
use lib.ListN.{length, get_or, set}
use lib.Seq.{set-get_or}
use Rattle.rules.specs.Lists.{map_at}

module _ {A : Type 0} where
  -- the first n elements changed, by their place
  abbrev pub map_first : (ℕ → A → A) → ℕ → List A → List A
  map_first k zero l = l
  map_first k (suc n) [] = []
  map_first k (suc n) (x ∷ l) = k 0 x ∷ map_first (λ i. k (suc i)) n l

  one_more : (k : ℕ → A → A) (l : List A) (d : A) (i : ℕ) → i < length l → set (map_first k i l) i (k i (get_or (map_first k i l) i d)) ≡ map_first k (suc i) l
  one_more k [] d i h = absurd (not-suc-le-zero h)
  one_more k (x ∷ l) d zero h = refl
  one_more k (x ∷ l) d (suc i) h = ap (λ (ys : List A). k 0 x ∷ ys) (one_more (λ j. k (suc j)) l d i (le_of_suc-le-suc h))

  -- a turn of the loop
  pub map_turn : (k : ℕ → A → A) (l : List A) (d : A) (i : ℕ) {ys : List A} {y : A} → i < length l → ys ≡ map_first k i l → y ≡ k i (get_or ys i d) → set ys i y ≡ map_first k (i + 1) l
  map_turn k l d i h e f = rw (f, e, add-one i) (one_more k l d i h)

  -- a turn that leaves the element as it is, where the change would too
  pub map_stays : (k : ℕ → A → A) (l : List A) (d : A) (i : ℕ) {ys : List A} → i < length l → ys ≡ map_first k i l → k i (get_or ys i d) ≡ get_or ys i d → ys ≡ map_first k (i + 1) l
  map_stays k l d i {ys} h e f = sym (set-get_or ys i d) ∙ map_turn k l d i h e (sym f)

  -- its end
  pub map_done : (k : ℕ → A → A) (l : List A) (i : ℕ) → length l ≤ i → map_first k i l ≡ map_at k l
  unfolding map_at
  map_done k [] zero h = refl
  map_done k [] (suc i) h = refl
  map_done k (x ∷ l) zero h = absurd (not-suc-le-zero h)
  map_done k (x ∷ l) (suc i) h = ap (λ (ys : List A). k 0 x ∷ ys) (map_done (λ j. k (suc j)) l i (le_of_suc-le-suc h))
