-- The first element that passes a test: std's `position` finds the place that the rules' search finds.
-- Assumes nothing.
use mathlib.Core.Path.{◌≡◌, refl, ap, ◌∙◌}
use mathlib.Core.Bool.{Bool, true, false, cond}
use mathlib.Core.List.{List, [], ◌∷◌}
use Prim.Native.Nat.{ℕ, ◌+◌}
use native.Mathlib.Omega.{arith}
use Rattle.std.specs.Prelude.{Option, Some, None}
use Rattle.std.specs.List.{position, position_from}
use Rattle.std.proofs.lemmas.Iterator.Adapters.{position_from-zero}
use Rattle.rules.specs.Lists.{first_at, one_on}

module _ {A : Type 0} (t : A → Bool) where
  -- a place, counted from i on
  abbrev from : ℕ → Option ℕ → Option ℕ
  from i (Some n) = Some (i + n)
  from i None = None

  from_next : (i : ℕ) (r : Option ℕ) → from (i + 1) r ≡ from i (one_on r)
  from_next i (Some n) = ap (λ (k : ℕ). Some k) (omega arith)
  from_next i None = refl

  from_0 : (r : Option ℕ) → from 0 r ≡ r
  from_0 (Some n) = ap (λ (k : ℕ). Some k) (omega arith)
  from_0 None = refl

  from_is : (i : ℕ) (l : List A) → position_from t i l ≡ from i (first_at (λ s x. t x) l)
  unfolding first_at
  from_is i [] = refl
  from_is i (x ∷ l) = go (t x) (from_is (i + 1) l)
    where
      go : (b : Bool) → position_from t (i + 1) l ≡ from (i + 1) (first_at (λ s x. t x) l) → cond b (Some i) (position_from t (i + 1) l) ≡ from i (cond b (Some 0) (one_on (first_at (λ s x. t x) l)))
      go true e = ap (λ (k : ℕ). Some k) (omega arith)
      go false e = e ∙ from_next i _

  pub position_is : (l : List A) → position t l ≡ first_at (λ s x. t x) l
  position_is l = position_from-zero t l ∙ (from_is 0 l ∙ from_0 _)
