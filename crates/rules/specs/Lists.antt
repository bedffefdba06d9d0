-- Lists by their places: change each element, test each, find the first.
-- Assumes nothing.
use Rattle.std.specs.Prelude.{Bool, true, cond, ◌&&◌, List, [], ◌∷◌, ℕ, suc, Option, Some, None}
use Rattle.rules.specs.declared.Pos.{Pos}

abbrev pub one_on : Option ℕ → Option ℕ
one_on (Some i) = Some (suc i)
one_on None = None

abbrev pub or_else : Option Pos → Option Pos → Option Pos
or_else (Some p) r = Some p
or_else None r = r

module _ {A : Type 0} where
  -- every element changed, by its place
  unfoldable pub map_at : (ℕ → A → A) → List A → List A
  map_at k [] = []
  map_at k (x ∷ l) = k 0 x ∷ map_at (λ i. k (suc i)) l

  -- every element passes
  unfoldable pub all_at : (ℕ → A → Bool) → List A → Bool
  all_at k [] = true
  all_at k (x ∷ l) = k 0 x && all_at (λ i. k (suc i)) l

  -- the first place whose element passes
  unfoldable pub first_at : (ℕ → A → Bool) → List A → Option ℕ
  first_at k [] = None
  first_at k (x ∷ l) = cond (k 0 x) (Some 0) (one_on (first_at (λ i. k (suc i)) l))

  -- what the first element that finds something finds
  unfoldable pub first_found : (ℕ → A → Option Pos) → List A → Option Pos
  first_found k [] = None
  first_found k (x ∷ l) = or_else (k 0 x) (first_found (λ i. k (suc i)) l)
