-- Every step from a sound machine gives a sound machine, and keeps the laws of what is seen, word by word.
-- Assumes nothing.
use mathlib.Core.Path.{◌≡◌, refl, sym, ◌∙◌, ap, subst}
use mathlib.Core.Logic.{◌≢◌, ◌⊎◌, inl, inr}
use mathlib.Core.Bool.{Bool, true, false, ◌&&◌, not, true≢false, false≢true}
use Prim.Native.Nat.{ℕ, zero, suc, ◌≤◌, ◌<◌}
use native.Mathlib.Omega.{arith}
use native.Mathlib.Decide.{dec_le, ℕ_discrete}
use lib.Dec.{ltb, leb, eqb}
use lib.ListN.{length}
use borrow.Author.Tests.{ltb-false, leb-false, eqb-true, ne_eqb, not-false}
use Rattle.rules.specs.declared.Machine.{Machine}
use Rattle.rules.specs.declared.Op.{Op}
use Rattle.rules.specs.declared.Op.TheVariants.{Load, Store, Commit, Abort, Reset, Evict}
use Rattle.rules.specs.declared.Answer.{Answer}
use Rattle.rules.specs.declared.Answer.TheVariants.{Done, Misspec, Overflow, Refused}
use Rattle.rules.specs.declared.Reason.{Reason}
use Rattle.rules.specs.declared.Answered.{Answered}
use Rattle.rules.specs.Data.{Data, read, line_of, word_of, last_address}
use Rattle.rules.specs.States.{is_i}
use Rattle.rules.specs.Machine.{pos, at, vids, gives, with_lcvid}
use Rattle.rules.specs.Abort.{abort_of}
use Rattle.rules.specs.Load.{view, load_of}
use Rattle.rules.specs.Store.{store_of, new_data}
use Rattle.rules.specs.Commit.{commit_of}
use Rattle.rules.specs.Reset.{reset_of, unsettled}
use Rattle.rules.specs.Evict.{evict_of}
use Rattle.rules.specs.HouseTest.{is_sound}
use Rattle.rules.specs.Step.{refuse, acts_with, has_vid, checked, rule_of, step_of}
use Rattle.rules.proofs.base.Bools.{by_test}
use Rattle.rules.proofs.base.Words.{read_same, read_other, word_small, line_small, word_apart}
use Rattle.rules.proofs.history.Laws.{Loads, Stores, Aborts, Law}
use Rattle.rules.proofs.machines.Sound.{Frame, SoundMachine}
use Rattle.rules.proofs.machines.View.{Marked}
use Rattle.rules.proofs.machines.Local.{Keeps, Writes}
use Rattle.rules.proofs.machines.LoadLaw.{LoadOutcome, returns, no_room as load-no-room, load_law}
use Rattle.rules.proofs.machines.StoreLaw.{StoreOutcome, wrote, misspeculated, no_room as store-no-room, store_law}
use Rattle.rules.proofs.machines.EvictLaw.{EvictOutcome, emptied, overflowed, evict_law}
use Rattle.rules.proofs.machines.Settle.{commit_sound, commit_view, commit_keeps, commit_made, abort_last, abort_sound, abort_view, abort_clear, settled_high, reset_sound, reset_view, reset_clear}
use Rattle.rules.proofs.machines.Frame.{Framed, load_framed, store_framed, evict_framed, abort_framed, reset_framed, commit_framed}

-- ---- a machine seen from outside, word by word; a word is marked as its line is

abbrev pub last_of : Machine → ℕ
last_of μ = μ.lcvid

abbrev pub word_view : Machine → ℕ → ℕ → ℕ
word_view μ at a = read (view μ (line_of at) a) (word_of at)

abbrev pub word_marked : Machine → ℕ → ℕ → Type 0
word_marked μ at b = Marked μ (line_of at) b

abbrev pub LawOf : ℕ → Machine → Machine → Op → Answer → Type 0
LawOf N = Law Machine line_of last_of word_view word_marked N

word_same : {d e : Data} (i : ℕ) → d ≡ e → read d i ≡ read e i
word_same i e = ap (λ (d : Data). read d i) e

module _ {N : ℕ} {μ ν : Machine} where
  loads_word : (a at : ℕ) (d : Data) → a < N → μ.lcvid ≤ a → d ≡ view μ (line_of at) a → Keeps N μ ν a (line_of at) → (μ.lcvid < a → Marked ν (line_of at) a)
      → Loads Machine line_of last_of word_view word_marked N μ ν a at (read d (word_of at))
  loads_word a at d small up seen K new = record {
    small = small;
    up = up;
    seen = word_same (word_of at) seen;
    last = K.last;
    same = λ y b i. word_same (word_of y) (K.same (line_of y) b (rw K.last at i));
    keeps = λ y b i. K.keeps (line_of y) b (rw K.last at i);
    marks = new;
    made = λ y b i. K.made (line_of y) b (rw K.last at i);
  }

  stores_word : (a at w : ℕ) → a < N → μ.lcvid ≤ a → Writes N μ ν a (line_of at) (new_data μ a (line_of at) (word_of at) w) → Stores Machine line_of last_of word_view word_marked N μ ν a at w
  unfolding new_data
  stores_word a at w small up W = record {
    small = small;
    up = up;
    last = W.last;
    above = W.above;
    set = λ b i. word_same (word_of at) (W.set b i) ∙ read_same (view μ (line_of at) a) (word_of at) w (word_small at);
    before = λ b i j. word_same (word_of at) (W.before b i j);
    others = λ y b n i. others y b n i (ℕ_discrete (line_of y) (line_of at)) (dec_le a b);
    keeps = λ y b i. W.keeps (line_of y) b (rw W.last at i);
    marks = W.marks;
    made = λ y b i. W.made (line_of y) b (rw W.last at i);
  }
    where
      -- another word of the line: from a up the line was what a saw
      others : (y b : ℕ) → y ≢ at → μ.lcvid ≤ b → Dec (line_of y ≡ line_of at) → Dec (a ≤ b) → word_view ν y b ≡ word_view μ y b
      others y b n i (no e) d = word_same (word_of y) (W.others (line_of y) b e i)
      others y b n i (yes e) (no d) = rw e (word_same (word_of y) (W.before b i (omega arith)))
      others y b n i (yes e) (yes d) =
          rw e (word_same (word_of y) (W.set b d) ∙ read_other (view μ (line_of at) a) (word_of at) (word_of y) w (word_small at) (word_small y) (word_apart y at n e) ∙
          word_same (word_of y) (sym (W.flat b d)))

-- ---- a step's outcome: sound again, and lawful

pub record StepOk (μ : Machine) (op : Op) (r : Answered) : Type 0 where
  pub sound : SoundMachine (vids μ) r.machine
  pub law : LawOf (vids μ) μ r.machine op r.answer

module _ {μ : Machine} (s : SoundMachine (vids μ) μ) where
  framed : Framed μ.count μ
  framed = record { frame = s.frame; count = refl }

  refused : (op : Op) (k : Reason) → StepOk μ op (gives (Refused k) μ)
  refused op k = record { sound = s; law = refl }

  -- a test that refuses, or what the rest of the step comes to
  unless : (b : Bool) (k : Reason) (op : Op) (r : Answered) → (b ≡ false → StepOk μ op r) → StepOk μ op (refuse b k μ r)
  unless true k op r h = refused op k
  unless false k op r h = h refl

  aborts : Aborts Machine line_of last_of word_view word_marked μ (abort_of μ)
  aborts = record { last = abort_last s.lines; back = λ y a i. word_same (word_of y) (abort_view s.lines (line_of y) a i); clear = λ y. abort_clear s.lines (line_of y) }

  aborted : (op : Op) → (r : Answer) → LawOf (vids μ) μ (abort_of μ) op r → StepOk μ op (gives r (abort_of μ))
  aborted op r l = record { sound = record { lines = abort_sound s.lines; frame = (abort_framed framed).frame }; law = l }

  -- ---- load and store

  module _ (c v at : ℕ) (in_use : leb μ.count c ≡ false) (low : ltb last_address at ≡ false) (small : leb (vids μ) v ≡ false) (fresh : (has_vid v && leb v μ.lcvid) ≡ false) where
    abbrev a : ℕ
    a = acts_with μ.lcvid v

    abbrev x : ℕ
    x = line_of at

    asks : c < μ.count
    asks = leb-false μ.count c in_use

    in_range : c < length μ.caches
    in_range = omega (arith, asks, s.frame.caches, s.frame.few)

    low_x : x < 64
    low_x = line_small at (ltb-false last_address at low)

    small_a : a < vids μ
    small_a = go v (leb-false (vids μ) v small)
      where
        go : (v : ℕ) → v < vids μ → acts_with μ.lcvid v < vids μ
        go zero h = s.lines.small
        go (suc v) h = h

    with_vid : has_vid v ≡ true → μ.lcvid < a
    with_vid = go v fresh
      where
        go : (v : ℕ) → (has_vid v && leb v μ.lcvid) ≡ false → has_vid v ≡ true → μ.lcvid < acts_with μ.lcvid v
        go zero h i = absurd (false≢true i)
        go (suc v) h i = leb-false (suc v) μ.lcvid (rw i at h)

    plainly : has_vid v ≡ false → a ≡ μ.lcvid
    plainly = go v
      where
        go : (v : ℕ) → has_vid v ≡ false → acts_with μ.lcvid v ≡ μ.lcvid
        go zero i = refl
        go (suc v) i = absurd (true≢false (sym (rw (ne_eqb (suc v) 0 (omega arith)) refl) ∙ i))

    up : μ.lcvid ≤ a
    up = by_test (has_vid v) (λ i. omega (arith, with_vid i)) (λ i. omega (arith, plainly i))

    pub load_outcome : LoadOutcome (vids μ) μ a x (word_of at) (load_of μ (has_vid v) c a x (word_of at))
    load_outcome = load_law s.lines (has_vid v) c a x (word_of at) in_range small_a with_vid plainly

    load_ok : StepOk μ (Load c v at) (load_of μ (has_vid v) c a x (word_of at))
    load_ok = turn (load_of μ (has_vid v) c a x (word_of at)) load_outcome (load_framed framed c x asks low_x (has_vid v) a (word_of at)).frame
      where
        turn : (r : Answered) → LoadOutcome (vids μ) μ a x (word_of at) r → Frame r.machine → StepOk μ (Load c v at) r
        turn r (returns d ν e K m) f = record { sound = record { lines = K.sound; frame = f }; law = loads_word a at d small_a up e K m }
        turn r load-no-room f = record { sound = s; law = refl }

    store_ok : (w : ℕ) → StepOk μ (Store c v at w) (store_of μ (has_vid v) c a x (new_data μ a x (word_of at) w))
    store_ok w =
        turn (store_of μ (has_vid v) c a x d) (store_law s.lines (has_vid v) c a x d in_range small_a with_vid plainly)
        (store_framed framed c x asks low_x (has_vid v) a d).frame
      where
        d : Data
        d = new_data μ a x (word_of at) w

        turn : (r : Answered) → StoreOutcome (vids μ) μ a x d r → Frame r.machine → StepOk μ (Store c v at w) r
        turn r (wrote ν W) f = record { sound = record { lines = W.sound; frame = f }; law = stores_word a at w small_a up W }
        turn r misspeculated f = aborted (Store c v at w) Misspec aborts
        turn r store-no-room f = record { sound = s; law = refl }

  -- a load or store, with its refusals
  checked_ok : (op : Op) (c v at : ℕ) (r : Answered)
      → (leb μ.count c ≡ false → ltb last_address at ≡ false → leb (vids μ) v ≡ false → (has_vid v && leb v μ.lcvid) ≡ false → StepOk μ op r) → StepOk μ op (checked μ c v at r)
  unfolding checked
  checked_ok op c v at r h =
      unless (leb (vids μ) μ.lcvid) _ op _ (λ h0. unless (leb μ.count c) _ op _
      (λ h1. unless (ltb last_address at) _ op _ (λ h2. unless (leb (vids μ) v) _ op _ (λ h3. unless (has_vid v && leb v μ.lcvid) _ op r (λ h4. h h1 h2 h3 h4)))))

  -- ---- the others

  commit_ok : (v : ℕ) → leb (vids μ) v ≡ false → not (eqb v (suc μ.lcvid)) ≡ false → StepOk μ (Commit v) (gives Done (commit_of μ v))
  commit_ok v h1 h2 = subst (λ (n : ℕ). StepOk μ (Commit n) (gives Done (commit_of μ n))) (sym e) (record {
    sound = record { lines = commit_sound s.lines small; frame = (commit_framed framed (suc μ.lcvid)).frame };
    law = record {
      last = unfold commit_of with_lcvid in refl;
      next = refl;
      same = λ y b i. word_same (word_of y) (commit_view s.lines small (line_of y) b (unfold commit_of with_lcvid in i));
      keeps = λ y b i. commit_keeps s.lines small (line_of y) b;
      made = λ y b i. commit_made s.lines small (line_of y) b;
    };
  })
    where
      e : v ≡ suc μ.lcvid
      e = eqb-true v (suc μ.lcvid) (not-false (eqb v (suc μ.lcvid)) h2)

      small : suc μ.lcvid < vids μ
      small = omega (arith, e, leb-false (vids μ) v h1)

  reset_ok : unsettled μ ≡ false → StepOk μ Reset (gives Done (reset_of μ))
  reset_ok q = record {
    sound = record { lines = reset_sound s.lines q; frame = (reset_framed framed).frame };
    law = record {
      last = unfold reset_of with_lcvid in refl;
      settled = λ y b (p, h, (t, l)). omega (arith, settled_high s.lines q p t);
      back = λ y a. word_same (word_of y) (reset_view s.lines q (line_of y) a);
      clear = λ y. reset_clear s.lines q (line_of y);
    };
  }

  evict_ok : (c t : ℕ) → is_i (at μ (pos c t)).state ≡ false → StepOk μ (Evict c t) (evict_of μ (pos c t))
  evict_ok c t some =
      turn (evict_of μ (pos c t)) (evict_law s.lines (pos c t) some (omega (arith, s.frame.addresses (pos c t), s.frame.words)))
      (evict_framed framed (pos c t) some).frame
    where
      old : {b : ℕ} {P Q : Type 0} → μ.lcvid < b → P ⊎ (Q × (b ≤ μ.lcvid)) → P
      old i (inl m) = m
      old i (inr (e, l)) = absurd (omega arith)

      turn : (r : Answered) → EvictOutcome (vids μ) μ (at μ (pos c t)).address r → Frame r.machine → StepOk μ (Evict c t) r
      turn r (emptied ν K) f = record {
        sound = record { lines = K.sound; frame = f };
        law = record {
          last = K.last;
          same = λ y b i. word_same (word_of y) (K.same (line_of y) b (rw K.last at i));
          keeps = λ y b i. K.keeps (line_of y) b (rw K.last at i);
          made = λ y b i k. old (rw K.last at i) (K.made (line_of y) b (rw K.last at i) k);
        };
      }
      turn r overflowed f = aborted (Evict c t) Overflow aborts

  -- ---- any step

  pub rule_ok : (op : Op) → StepOk μ op (rule_of μ op)
  unfolding rule_of
  rule_ok (Load c v at) = checked_ok (Load c v at) c v at _ (load_ok c v at)
  rule_ok (Store c v at w) = checked_ok (Store c v at w) c v at _ (λ h1 h2 h3 h4. store_ok c v at h1 h2 h3 h4 w)
  rule_ok (Commit v) = unless (leb (vids μ) v) _ (Commit v) _ (λ h1. unless (not (eqb v (suc μ.lcvid))) _ (Commit v) _ (λ h2. commit_ok v h1 h2))
  rule_ok Abort = aborted Abort Done aborts
  rule_ok Reset = unless (unsettled μ) _ Reset _ reset_ok
  rule_ok (Evict c t) =
      unless (leb μ.count c) _ (Evict c t) _ (λ h1. unless (ltb 15 t) _ (Evict c t) _
      (λ h2. unless (is_i (at μ (pos c t)).state) _ (Evict c t) _ (λ h3. evict_ok c t h3)))

  pub step_ok : (op : Op) → StepOk μ op (step_of μ op)
  unfolding step_of
  step_ok op = unless (not (is_sound μ)) _ op (rule_of μ op) (λ h. rule_ok op)
