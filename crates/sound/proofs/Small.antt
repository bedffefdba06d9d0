-- Where a slot fits, its address and its VIDs are small.
-- Assumes nothing.
use Rattle.std.proofs.Common.{◌≡◌, refl, true, ◌&&◌, ◌||◌, not, ℕ, ◌≤◌, ◌<◌, arith}
use Rattle.std.proofs.Math.Dec.{ltb}
use Rattle.std.specs.Cmp.Derive.{both_true}
use Rattle.std.proofs.lemmas.Bool.{ltb-true, and_parts, not_from_false}
use Rattle.rules.specs.declared.Line.{Line}
use Rattle.rules.specs.declared.Machine.{Machine}
use Rattle.rules.specs.declared.Pos.{Pos}
use Rattle.rules.specs.declared.State.{State}
use Rattle.rules.specs.States.{is_i, is_so, is_ss, plain, top}
use Rattle.rules.specs.House.{LineRules}
use Rattle.rules.specs.HouseTest.{line_fits, slot_fits}
use Rattle.rules.proofs.base.Bools.{by_test}
use Rattle.rules.proofs.base.States.{state_rule}
use Rattle.rules.proofs.machines.HouseTest.{line_test}
use Rattle.sound.specs.Numbered.{all_below, pos_of, line_no, slot_no}
use Rattle.sound.proofs.Below.{all_test}

high : (N : ℕ) (l : Line) → LineRules N l → l.h ≤ N
high N l r =
    by_test (is_i l.state) (λ t. rw (r.blank t) (omega arith))
    (λ i. by_test (plain l.state) (λ t. omega (arith, (r.flat t).1))
    (λ p. by_test (is_so l.state) (λ t. omega (arith, (r.closed t).1))
    (λ o. by_test (is_ss l.state) (λ t. omega (arith, (r.shared t).1))
    (λ s. omega (arith, (r.newest (rest l.state (both_true (not_from_false _ i) (both_true (not_from_false _ p) (both_true (not_from_false _ o) (not_from_false _ s)))))).1)))))
  where
    rest : (s : State) → (not (is_i s) && (not (plain s) && (not (is_so s) && not (is_ss s)))) ≡ true → top s ≡ true
    rest = state_rule (λ s. not (is_i s) && (not (plain s) && (not (is_so s) && not (is_ss s)))) top refl

pub record Small (l : Line) : Type 0 where
  pub address : l.address < 64
  pub h : l.h < 65

pub fits_small : (μ : Machine) (p : Pos) (l : Line) → slot_fits μ p l ≡ true → Small l
unfolding slot_fits
fits_small μ p l f =
    let fit = (and_parts (ltb p.cache μ.count || is_i l.state) (ltb l.address 64 && line_fits 64 l) f).1 in
    let (here, line) = and_parts (ltb l.address 64) (line_fits 64 l) fit in
    record {
      address = ltb-true l.address 64 here;
      h = omega (arith, high 64 l ((line_test 64 l).says line));
    }

-- where every slot does
pub small : (μ : Machine) → all_below 64 (slot_no μ) ≡ true → (j : ℕ) → j < 64 → Small (line_no μ j)
small μ e j h = fits_small μ (pos_of j) (line_no μ j) ((all_test (slot_no μ) 64).says e j h)
