-- A test of every number below a bound, and of some number below it: what each decides, and one number more.
-- Assumes nothing.
use mathlib.Core.Path.{◌≡◌, refl, ◌∙◌}
use mathlib.Core.Logic.{⊎_elim}
use mathlib.Core.Bool.{Bool, true, ◌&&◌, or-true, and_comm, false≢true}
use Prim.Native.Nat.{ℕ, zero, suc, ◌+◌, ◌≤◌, ◌<◌}
use native.Mathlib.Nat.{not-suc-le-zero, eq-or-lt_of_le, le_of_suc-le-suc}
use native.Mathlib.Numerals.{add-one}
use native.Mathlib.Omega.{arith}
use Rattle.std.specs.List.{list_all, range_with_len}
use Rattle.std.specs.Cmp.Derive.{both_true}
use Rattle.std.proofs.lemmas.Bool.{and_parts}
use Rattle.rules.proofs.base.Bools.{by_test}
use Rattle.rules.proofs.base.Tests.{Decides}
use Rattle.sound.specs.Numbered.{all_below, any_below}

module _ (f : ℕ → Bool) where
  all_says : (n : ℕ) → all_below n f ≡ true → (i : ℕ) → i < n → f i ≡ true
  unfolding all_below
  all_says zero e i h = absurd (not-suc-le-zero h)
  all_says (suc n) e i h =
      ⊎_elim (λ (q : i ≡ n). rw q ((and_parts (all_below n f) (f n) e).1)) (λ (l : i < n). all_says n ((and_parts (all_below n f) (f n) e).0) i l)
      (eq-or-lt_of_le (le_of_suc-le-suc h))

  all_when : (n : ℕ) → ((i : ℕ) → i < n → f i ≡ true) → all_below n f ≡ true
  unfolding all_below
  all_when zero p = refl
  all_when (suc n) p = both_true (all_when n (λ i h. p i (omega arith))) (p n (omega arith))

  any_says : (n : ℕ) → any_below n f ≡ true → (i : ℕ) × (i < n) × (f i ≡ true)
  unfolding any_below
  any_says zero e = absurd (false≢true e)
  any_says (suc n) e =
      by_test (any_below n f) (λ t. let (i, h, p) = any_says n t in (i, omega arith, p))
      (λ t. (n, omega arith, simp t at e))

  any_when : (n i : ℕ) → i < n → f i ≡ true → any_below n f ≡ true
  unfolding any_below
  any_when zero i h p = absurd (not-suc-le-zero h)
  any_when (suc n) i h p =
      ⊎_elim (λ (q : i ≡ n). rw (rw q at p) (or-true (any_below n f))) (λ (l : i < n). let t = any_when n i l p in rw t) (eq-or-lt_of_le (le_of_suc-le-suc h))

  pub all_test : (n : ℕ) → Decides (all_below n f) ((i : ℕ) → i < n → f i ≡ true)
  all_test n = record { says = all_says n; when = all_when n }

  pub any_test : (n : ℕ) → Decides (any_below n f) ((i : ℕ) × (i < n) × (f i ≡ true))
  any_test n = record { says = any_says n; when = λ (i, h, p). any_when n i h p }

  -- one number more
  pub all_none : true ≡ all_below 0 f
  unfolding all_below
  all_none = refl

  pub all_more : (i : ℕ) (a t : Bool) → a ≡ all_below i f → t ≡ f i → (t && a) ≡ all_below (i + 1) f
  unfolding all_below
  all_more i a t e g = and_comm t a ∙ rw (add-one i, e, g)

  -- ---- the same of a range, as `all` asks it

  range_says : (a n : ℕ) → list_all f (range_with_len a n) ≡ true → (i : ℕ) → a ≤ i → i < a + n → f i ≡ true
  range_says a zero e i p q = absurd (omega arith)
  range_says a (suc n) e i p q =
      ⊎_elim (λ (z : a ≡ i). rw (← z) ((and_parts (f a) (list_all f (range_with_len (a + 1) n)) e).0))
      (λ (z : a < i). range_says (a + 1) n ((and_parts (f a) (list_all f (range_with_len (a + 1) n)) e).1) i (omega arith) (omega arith)) (eq-or-lt_of_le p)

  range_when : (a n : ℕ) → ((i : ℕ) → a ≤ i → i < a + n → f i ≡ true) → list_all f (range_with_len a n) ≡ true
  range_when a zero p = refl
  range_when a (suc n) p = both_true (p a (omega arith) (omega arith)) (range_when (a + 1) n (λ i h q. p i (omega arith) (omega arith)))

  pub range_test : (n : ℕ) → Decides (list_all f (range_with_len 0 n)) ((i : ℕ) → i < n → f i ≡ true)
  range_test n = record {
    says = λ e i h. range_says 0 n e i (omega arith) (omega arith);
    when = λ p. range_when 0 n (λ i h q. p i (omega arith));
  }
