-- A test and the proposition that it decides.
-- Assumes nothing.
use mathlib.Core.Path.{◌≡◌}
use mathlib.Core.Logic.{◌⊎◌, inl, inr}
use mathlib.Core.Bool.{Bool, true, ◌&&◌, ◌||◌, not}
use Prim.Native.Nat.{ℕ, ◌≤◌, ◌<◌}
use lib.Dec.{ltb, leb, eqb}
use borrow.Author.Tests.{ltb-true, lt-ltb, leb-true, le-leb, eqb-true, eq-eqb}
use Rattle.rules.specs.declared.Pos.{Pos}
use Rattle.rules.specs.Data.{Data, same_data}
use Rattle.rules.specs.HouseTest.{imp, same_pos}
use Rattle.std.specs.Cmp.Derive.{both_true}
use Rattle.std.proofs.lemmas.Bool.{both_ways, and_parts}
use Rattle.rules.proofs.base.Bools.{by_test}

pub record Decides (b : Bool) (P : Type 0) : Type 0 where
  pub says : b ≡ true → P
  pub when : P → b ≡ true

pub is_test : (b : Bool) → Decides b (b ≡ true)
is_test b = record { says = λ h. h; when = λ h. h }

pub le_test : (a b : ℕ) → Decides (leb a b) (a ≤ b)
le_test a b = record { says = leb-true a b; when = le-leb a b }

pub lt_test : (a b : ℕ) → Decides (ltb a b) (a < b)
lt_test a b = record { says = ltb-true a b; when = lt-ltb a b }

pub eq_test : (a b : ℕ) → Decides (eqb a b) (a ≡ b)
eq_test a b = record { says = eqb-true a b; when = eq-eqb a b }

module _ {a b : Bool} {P Q : Type 0} (p : Decides a P) (q : Decides b Q) where
  pub and_test : Decides (a && b) (P × Q)
  and_test = record { says = λ h. (p.says ((and_parts a b h).0), q.says ((and_parts a b h).1)); when = λ h. both_true (p.when h.0) (q.when h.1) }

  pub or_test : Decides (a || b) (P ⊎ Q)
  or_test = record { says = λ h. by_test a (λ t. inl (p.says t)) (λ t. inr (q.says (simp t at h))); when = or_when }
    where
      or_when : P ⊎ Q → (a || b) ≡ true
      or_when (inl x) = rw (p.when x)
      or_when (inr y) = by_test a (λ t. rw t) (λ t. rw t (q.when y))

  pub imp_test : Decides (imp a b) (P → Q)
  imp_test = record {
    says = λ h x. q.says (simp (p.when x) at h);
    when = λ h. by_test a (λ t. rw t (q.when (h (p.says t)))) (λ t. rw t);
  }

pub not_test : {a : Bool} {P : Type 0} → Decides a P → Decides (not a) (P → ⊥)
not_test {a} p = record { says = λ h x. both_ways (not a) (rw (p.when x)) h; when = λ h. by_test a (λ t. absurd (h (p.says t))) (λ t. rw t) }

-- the same proposition in other words
pub as_test : {a : Bool} {P Q : Type 0} → Decides a P → (P → Q) → (Q → P) → Decides a Q
as_test p f g = record { says = λ h. f (p.says h); when = λ h. p.when (g h) }

pub pos_test : (p q : Pos) → Decides (same_pos p q) (p ≡ q)
pos_test p q =
    as_test (and_test (eq_test p.cache q.cache) (eq_test p.slot q.slot)) (λ h. λ i. record { cache = h.0 i; slot = h.1 i })
    (λ e. (λ i. (e i).cache, λ i. (e i).slot))

pub data_test : (d e : Data) → Decides (same_data d e) (d ≡ e)
unfolding same_data
data_test d e = eq_test d e
