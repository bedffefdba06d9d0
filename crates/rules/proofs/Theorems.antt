-- What the project promises of the rules, in one place: each statement, and its proof in a line. The words are those of specs/.
-- Assumes nothing.
use mathlib.Core.Path.{◌≡◌, refl, sym, ◌∙◌, ap}
use mathlib.Core.Logic.{◌⊎◌, inl, inr}
use mathlib.Core.Bool.{true, ◌&&◌}
use Prim.Native.Nat.{ℕ, ◌≤◌}
use native.Mathlib.Omega.{arith}
use lib.Dec.{leb}
use lib.ListN.{length, get_or, replicate}
use borrow.Author.Tests.{leb-true}
use Rattle.rules.specs.declared.Machine.{Machine}
use Rattle.rules.specs.declared.Pos.{Pos}
use Rattle.rules.specs.declared.Op.{Op}
use Rattle.rules.specs.declared.Op.TheVariants.{Load, Store}
use Rattle.rules.specs.declared.Reason.{Reason}
use Rattle.rules.specs.declared.Answer.TheVariants.{Value, Refused}
use Rattle.rules.specs.declared.Answered.{Answered}
use Rattle.rules.specs.declared.Reason.TheVariants.{NoRoom}
use Rattle.rules.specs.Answer.{number_of}
use Rattle.rules.specs.Data.{Data, no_data, read, line_of, word_of}
use Rattle.rules.specs.States.{spec}
use Rattle.rules.specs.Line.{is_owner}
use Rattle.rules.specs.Machine.{at, vids, fresh, make_of}
use Rattle.rules.specs.House.{Sized, Lives, One, House}
use Rattle.rules.specs.HouseTest.{is_sound}
use Rattle.rules.specs.Step.{acts_with, has_vid, rule_of, step_of}
use Rattle.rules.specs.Load.{load_of}
use Rattle.rules.specs.Store.{store_of, new_data}
use Rattle.rules.specs.Flights.{Demand3}
use mathlib.Core.List.{List}
use Rattle.std.proofs.lemmas.Bool.{and_parts}
use Rattle.rules.proofs.base.Bools.{by_test}
use Rattle.rules.proofs.base.Tests.{Decides}
use Rattle.rules.proofs.base.Lines.{live_test}
use Rattle.rules.proofs.history.Agree.{serializable}
use Rattle.rules.proofs.machines.Sound.{SoundMachine}
use Rattle.rules.proofs.machines.View.{owner_one}
use Rattle.rules.proofs.machines.StepLaw.{last_of, word_view, word_marked, LawOf, load_outcome, step_ok}
use Rattle.rules.proofs.machines.LoadLaw.{LoadOutcome, returns, no_room}
use Rattle.rules.proofs.machines.Admitted.{Admitted, passes_3, passes_4, passes_6, passes_7, admitted, step_refusing}
use Rattle.rules.proofs.machines.Fresh.{fresh_sound, fresh_view}
use Rattle.rules.proofs.machines.House.{house_sound, sound_house, sound_sized, house_decides}

-- a contract `result ≡ definition` leaves one possible result
pub one_result : {A : Type 0} {definition r s : A} → r ≡ definition → s ≡ definition → r ≡ s
one_result p q = p ∙ sym q

-- making a machine gives a sound one, of its sizes, refused or not
pub make_sound : (n : ℕ) (words : List Data) → length words ≡ 64 → House (make_of n words).machine × Sized (make_of n words).machine
unfolding make_of
make_sound n words all = by_test (leb 1 n && leb n 4)
    (λ i. rw i (both (fresh_sound n words (leb-true 1 n ((and_parts (leb 1 n) (leb n 4) i).0)) (leb-true n 4 ((and_parts (leb 1 n) (leb n 4) i).1)) all)))
    (λ i. rw i (both (fresh_sound 1 (replicate 64 no_data) (omega arith) (omega arith) refl)))
  where
    both : {μ : Machine} → SoundMachine (vids μ) μ → House μ × Sized μ
    both t = (sound_house t, sound_sized t)

-- the test that code computes decides the house rules in document 01's words: refusal 2 is given exactly when a machine is not sound
pub house : (μ : Machine) → Sized μ → Decides (is_sound μ) (House μ)
house = house_decides

-- every step from a sound machine gives a sound machine, of the same sizes
pub step_sound : (μ : Machine) → Sized μ → House μ → (op : Op) → House (step_of μ op).machine × Sized (step_of μ op).machine
step_sound μ z h op = let t = (step_ok (house_sound z h) op).sound in (sound_house t, sound_sized t)

-- and keeps the laws of what is seen, for its kind and its answer
pub step_lawful : (μ : Machine) → Sized μ → House μ → (op : Op) → LawOf (vids μ) μ (step_of μ op).machine op (step_of μ op).answer
step_lawful μ z h op = (step_ok (house_sound z h) op).law

-- on a sound machine the rule without the test of the house rules is the step
pub rule_is_step : (μ : Machine) → Sized μ → House μ → (op : Op) → step_of μ op ≡ rule_of μ op
unfolding step_of
rule_is_step μ z h op = rw ((house μ z).when h)

-- so a load or store that no check refuses is its rule
pub load_is_rule : (μ : Machine) → Sized μ → House μ → (c v at : ℕ) → Admitted μ c v at → step_of μ (Load c v at) ≡ load_of μ (has_vid v) c (acts_with μ.lcvid v) (line_of at) (word_of at)
unfolding rule_of
load_is_rule μ z h c v at A = rule_is_step μ z h (Load c v at) ∙ admitted A h.last _

pub store_is_rule : (μ : Machine) → Sized μ → House μ → (c v at w : ℕ) → Admitted μ c v at
    → step_of μ (Store c v at w) ≡ store_of μ (has_vid v) c (acts_with μ.lcvid v) (line_of at) (new_data μ (acts_with μ.lcvid v) (line_of at) (word_of at) w)
unfolding rule_of
store_is_rule μ z h c v at w A = rule_is_step μ z h (Store c v at w) ∙ admitted A h.last _

-- a load that no check refuses returns what its number sees, or there is no room for the line that it would place
pub load_returns : (μ : Machine) → Sized μ → House μ → (c v at : ℕ) → Admitted μ c v at
    → ((step_of μ (Load c v at)).answer ≡ Value (word_view μ at (acts_with μ.lcvid v))) ⊎ ((step_of μ (Load c v at)).answer ≡ Refused NoRoom)
load_returns μ z h c v at A = rw (load_is_rule μ z h c v at A) (go _ (load_outcome (house_sound z h) c v at (passes_3 A) (passes_4 A) (passes_6 A) (passes_7 A)))
  where
    go : (r : Answered) → LoadOutcome (vids μ) μ (acts_with μ.lcvid v) (line_of at) (word_of at) r
        → (r.answer ≡ Value (word_view μ at (acts_with μ.lcvid v))) ⊎ (r.answer ≡ Refused NoRoom)
    go r (returns d ν e K m) = inl (ap (λ (d : Data). Value (read d (word_of at))) e)
    go r no_room = inr refl

-- a refused step has a number up to 11, whatever the machine: the later ones are of texts, lines and buffers
pub refused_number : (μ : Machine) (op : Op) (k : Reason) → (step_of μ op).answer ≡ Refused k → number_of k ≤ 11
refused_number μ op = (step_refusing μ op).number

-- and hands the machine back unchanged
pub refused_unchanged : (μ : Machine) (op : Op) (k : Reason) → (step_of μ op).answer ≡ Refused k → (step_of μ op).machine ≡ μ
refused_unchanged μ op = (step_refusing μ op).same

-- for every address and every number from LCVID up there is exactly one owner where a speculative line lives
pub owner_exactly_one : (μ : Machine) → Sized μ → House μ → (x a : ℕ) → μ.lcvid ≤ a → (p : Pos) → Lives μ x spec p → One (λ o. is_owner x a (at μ o) ≡ true)
owner_exactly_one μ z h x a up p l = owner_one (house_sound z h).lines x a up p (record { alive = (live_test μ.lcvid (at μ p)).says l.alive; at = l.here }) l.kind

-- demand 3
pub demand_3 : Demand3
unfolding Demand3
demand_3 n words some few all ops =
    serializable Machine line_of last_of word_view word_marked (SoundMachine 64) 64 (λ at. read (get_or words (line_of at) no_data) (word_of at))
    (λ μ op. (step_of μ op).answer) (λ μ op. (step_of μ op).machine) (λ μ s. s.lines.small) (λ μ s op. (step_ok s op).sound) (λ μ s op. (step_ok s op).law)
    (fresh n words) (fresh_sound n words some few all) (unfold fresh in refl) (λ at a. ap (λ (d : Data). read d (word_of at)) (fresh_view n words some few all (line_of at) a)) ops
