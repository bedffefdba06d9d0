-- Loads and stores that no check refuses: the step is the rule, and a load returns what its number sees, or there is no room. Refused steps change nothing, and their numbers.
-- Assumes nothing.
use mathlib.Core.Path.{◌≡◌, refl, sym, ◌∙◌, ap}
use mathlib.Core.Logic.{◌⊎◌, inl, inr}
use mathlib.Core.Bool.{Bool, true, false, ◌&&◌, not, true≢false}
use Prim.Native.Nat.{ℕ, suc, ◌≤◌, ◌<◌}
use native.Mathlib.Omega.{arith}
use lib.Dec.{ltb, leb, eqb}
use borrow.Author.Tests.{lt-leb, le-ltb}
use Rattle.rules.specs.declared.Machine.{Machine}
use Rattle.rules.specs.declared.Pos.{Pos}
use Rattle.rules.specs.declared.Op.{Op}
use Rattle.rules.specs.declared.Op.TheVariants.{Load, Store, Commit, Abort, Reset, Evict}
use Rattle.rules.specs.declared.Answer.{Answer}
use Rattle.rules.specs.declared.Answer.TheVariants.{Value, Done, Misspec, Overflow, Refused}
use Rattle.rules.specs.declared.Reason.{Reason}
use Rattle.rules.specs.declared.Reason.TheVariants.{NoRoom, SlotEmpty}
use Rattle.rules.specs.declared.Answered.{Answered}
use Rattle.rules.specs.Answer.{number_of}
use Rattle.rules.specs.Data.{Data, last_address, line_of, word_of}
use Rattle.rules.specs.States.{is_i}
use Rattle.rules.specs.Machine.{pos, at, vids, gives}
use Rattle.rules.specs.Load.{load_of}
use Rattle.rules.specs.Store.{store_of, new_data}
use Rattle.rules.specs.Reset.{unsettled}
use Rattle.rules.specs.Evict.{evict_of}
use Rattle.rules.specs.HouseTest.{is_sound}
use Rattle.rules.specs.Step.{refuse, acts_with, has_vid, checked, rule_of, step_of}
use Rattle.std.proofs.lemmas.Bool.{and_right}
use Rattle.rules.proofs.machines.Branches.{load_cases, store_cases, evict_cases}

-- ---- no refusal under 3 to 7

pub record Admitted (μ : Machine) (c v at : ℕ) : Type 0 where
  pub in_use : c < μ.count
  pub low : at ≤ last_address
  pub small : v < vids μ
  pub fresh : (v ≡ 0) ⊎ (μ.lcvid < v)

-- the checks, as they come to
module _ {μ : Machine} {c v at : ℕ} (A : Admitted μ c v at) where
  pub passes_3 : leb μ.count c ≡ false
  passes_3 = lt-leb μ.count c A.in_use

  pub passes_4 : ltb last_address at ≡ false
  passes_4 = le-ltb last_address at A.low

  pub passes_6 : leb (vids μ) v ≡ false
  passes_6 = lt-leb (vids μ) v A.small

  pub passes_7 : (has_vid v && leb v μ.lcvid) ≡ false
  passes_7 = go A.fresh
    where
      go : (v ≡ 0) ⊎ (μ.lcvid < v) → (has_vid v && leb v μ.lcvid) ≡ false
      go (inl e) = rw e refl
      go (inr l) = and_right (has_vid v) _ (lt-leb v μ.lcvid l)

  pub admitted : μ.lcvid < vids μ → (r : Answered) → checked μ c v at r ≡ r
  unfolding checked
  admitted i r = rw (lt-leb (vids μ) μ.lcvid i, passes_3, passes_4, passes_6, passes_7)

-- ---- a refused step has a number up to 11 and hands the machine back unchanged, whatever the machine

is_refused : Answer → Bool
is_refused (Value w) = false
is_refused Done = false
is_refused Misspec = false
is_refused Overflow = false
is_refused (Refused r) = true

pub record Refusing (μ : Machine) (r : Answered) : Type 0 where
  pub number : (k : Reason) → r.answer ≡ Refused k → number_of k ≤ 11
  pub same : (k : Reason) → r.answer ≡ Refused k → r.machine ≡ μ

module _ (μ : Machine) where
  -- an answer that is no refusal says nothing of the machine
  taken : (r : Answer) (ν : Machine) → is_refused r ≡ false → Refusing μ (gives r ν)
  taken r ν i = record { number = λ k e. absurd (none k e); same = λ k e. absurd (none k e) }
    where
      none : (k : Reason) → r ≡ Refused k → ⊥
      none k e = true≢false (unfold is_refused in sym (ap is_refused e) ∙ i)

  given_back : (k : Reason) → number_of k ≤ 11 → Refusing μ (gives (Refused k) μ)
  given_back k l = record { number = λ j e. let same : k ≡ j = cc in rw (← same) l; same = λ j e. refl }

  refuses : (b : Bool) (k : Reason) (r : Answered) → number_of k ≤ 11 → Refusing μ r → Refusing μ (refuse b k μ r)
  refuses true k r l h = given_back k l
  refuses false k r l h = h

  checks : (c v at : ℕ) (r : Answered) → Refusing μ r → Refusing μ (checked μ c v at r)
  unfolding checked
  checks c v at r h =
      refuses (leb (vids μ) μ.lcvid) _ _ (omega arith) (refuses (leb μ.count c) _ _ (omega arith)
      (refuses (ltb last_address at) _ _ (omega arith) (refuses (leb (vids μ) v) _ _ (omega arith) (refuses (has_vid v && leb v μ.lcvid) _ r (omega arith) h))))

  load_refusing : (vid : Bool) (c a x i : ℕ) → Refusing μ (load_of μ vid c a x i)
  load_refusing vid c a x i = load_cases (Refusing μ) μ vid c a x i (unfold is_refused in record {
    owner = λ o is. taken _ _ refl;
    share = λ q is. taken _ _ refl;
    copy = λ o is w e s. taken _ _ refl;
    first = λ v w e s. taken _ _ refl;
    held = λ v w q is. taken _ _ refl;
    shared = λ v w z q is e s. taken _ _ refl;
    fetched = λ v w z e s. taken _ _ refl;
    full = given_back NoRoom (omega arith);
  })

  store_refusing : (vid : Bool) (c a x : ℕ) (d : Data) → Refusing μ (store_of μ vid c a x d)
  store_refusing vid c a x d = store_cases (Refusing μ) μ vid c a x d (unfold is_refused in record {
    misspec = λ o is. taken _ _ refl;
    over = λ v o is w z e s. taken _ _ refl;
    split = λ v o is w z e s. taken _ _ refl;
    first = λ v w e f s t. taken _ _ refl;
    plain_owned = λ v o is w e s. taken _ _ refl;
    plain_unowned = λ v w e s. taken _ _ refl;
    full = given_back NoRoom (omega arith);
  })

  evict_refusing : (p : Pos) → is_i (at μ p).state ≡ false → Refusing μ (evict_of μ p)
  evict_refusing p some = evict_cases (Refusing μ) μ p some (unfold is_refused in record {
    dead_line = λ d. taken _ _ refl;
    spare_line = λ a c. taken _ _ refl;
    dirty_line = λ a c. taken _ _ refl;
    settled = λ a t h. taken _ _ refl;
    over = taken _ _ refl;
  })

  rule_refusing : (op : Op) → Refusing μ (rule_of μ op)
  unfolding rule_of is_refused
  rule_refusing (Load c v at) = checks c v at _ (load_refusing (has_vid v) c (acts_with μ.lcvid v) (line_of at) (word_of at))
  rule_refusing (Store c v at w) = checks c v at _ (store_refusing (has_vid v) c (acts_with μ.lcvid v) (line_of at) (new_data μ (acts_with μ.lcvid v) (line_of at) (word_of at) w))
  rule_refusing (Commit v) = refuses (leb (vids μ) v) _ _ (omega arith) (refuses (not (eqb v (suc μ.lcvid))) _ _ (omega arith) (taken Done _ refl))
  rule_refusing Abort = taken Done _ refl
  rule_refusing Reset = refuses (unsettled μ) _ _ (omega arith) (taken Done _ refl)
  rule_refusing (Evict c s) = refuses (leb μ.count c) _ _ (omega arith) (refuses (ltb 15 s) _ _ (omega arith) (some (is_i (at μ (pos c s)).state) refl))
    where
      some : (b : Bool) → is_i (at μ (pos c s)).state ≡ b → Refusing μ (refuse b SlotEmpty μ (evict_of μ (pos c s)))
      some true e = given_back SlotEmpty (omega arith)
      some false e = evict_refusing (pos c s) e

  pub step_refusing : (op : Op) → Refusing μ (step_of μ op)
  unfolding step_of
  step_refusing op = refuses (not (is_sound μ)) _ (rule_of μ op) (omega arith) (rule_refusing op)
