-- One turn of the definition: what the lines from a place on are, by what stands there; and how many turns are enough.
-- Assumes nothing.
use mathlib.Core.Path.{◌≡◌, refl, sym, ◌∙◌, ap}
use mathlib.Core.List.{List, [], ◌∷◌}
use Prim.Native.Nat.{ℕ, zero, suc, ◌+◌, ◌-◌, ◌≤◌, ◌<◌}
use native.Mathlib.Nat.{not-suc-le-zero}
use native.Mathlib.Omega.{arith}
use borrow.Author.Tests.{le-leb}
use lib.ListN.{length}
use Rattle.std.specs.Prelude.{Option, Some, None, Result, Ok, Err}
use Rattle.rules.specs.declared.Machine.{Machine}
use Rattle.rules.specs.declared.Op.{Op}
use Rattle.rules.specs.declared.Reason.{Reason}
use Rattle.rules.specs.declared.Answer.{Answer}
use Rattle.rules.specs.declared.Answer.TheVariants.{Refused}
use Rattle.rules.specs.declared.Answered.{Answered}
use Rattle.rules.specs.House.{House, Sized}
use Rattle.rules.specs.Step.{rule_of, step_of}
use Rattle.rules.proofs.Theorems.{step_sound, rule_is_step}
use Rattle.report.specs.Report.{line_text, Writes}
use Rattle.trace.specs.declared.Broken.{Broken}
use Rattle.trace.specs.declared.Step.{Step}
use Rattle.trace.specs.Trace.{read_at}
use Rattle.trace.specs.declared.reader.Reader.{Reader}
use Rattle.trace.specs.Reader.{Gives}
use Rattle.trace.proofs.FromReader.{gave_step, gave_broken, gave_none}
use Rattle.trace.proofs.Lengths.{step_long, broken_inside}
use Rattle.play.specs.Play.{step_line, unreadable, on_read, lines_from}

-- on a sound machine the rule gives the step, and a sound machine again
pub stepped : {μ : Machine} → House μ × Sized μ → (op : Op) {r : Answered} → r ≡ rule_of μ op → r ≡ step_of μ op
stepped {μ} (h, z) op e = e ∙ sym (rule_is_step μ z h op)

pub stepped_sound : {μ : Machine} → House μ × Sized μ → (op : Op) {r : Answered} → r ≡ rule_of μ op → House r.machine × Sized r.machine
stepped_sound {μ} (h, z) op e = rw (stepped (h, z) op e) (step_sound μ z h op)

-- a written line, by what its number and its LCVID come to
pub reckoned : (n m l k : ℕ) (a : Answer) {end : ℕ} {before after : List ℕ} {r : Result ℕ Reason}
    → Writes (line_text n a l) end before r after → n ≡ m → l ≡ k → Writes (line_text m a k) end before r after
reckoned n m l k a w e f = rw (← e, ← f) w

module _ (s : List ℕ) (at n : ℕ) (μ : Machine) (k : ℕ) where
  -- the lines where a step stands, by its answer
  abbrev after : Answered → ℕ → List (List ℕ)
  after r next = step_line n r ∷ lines_from (k - 1) s next (n + 1) r.machine

  abbrev broken : Broken → List ℕ
  broken b = line_text n (Refused (unreadable b)) μ.lcvid

  -- no turn is left
  pub no_turn : k ≤ 0 → lines_from k s at n μ ≡ []
  no_turn h = let e : k ≡ 0 = omega arith in rw e (unfold lines_from in refl)

  -- nothing more stands there
  pub turn_ends : read_at s at ≡ Ok None → lines_from k s at n μ ≡ []
  turn_ends e = go k
    where
      go : (k : ℕ) → lines_from k s at n μ ≡ []
      go zero = unfold lines_from in refl
      go (suc k) = unfold lines_from in rw e

  module _ (h : 0 < k) where
    turn : lines_from k s at n μ ≡ on_read (read_at s at) (λ t. after (step_of μ t.op) t.next) broken
    turn = go k h
      where
        go : (k : ℕ) → 0 < k
            → lines_from k s at n μ ≡ on_read (read_at s at) (λ t. step_line n (step_of μ t.op) ∷ lines_from (k - 1) s t.next (n + 1) (step_of μ t.op).machine) broken
        go zero h = absurd (not-suc-le-zero h)
        go (suc k) h = let e : suc k - 1 ≡ k = omega arith in rw e (unfold lines_from in refl)

    pub turn_breaks : {b : Broken} → read_at s at ≡ Err b → lines_from k s at n μ ≡ broken b ∷ []
    turn_breaks e = turn ∙ rw e

    pub turn_steps : {t : Step} → read_at s at ≡ Ok (Some t) → {r : Answered} → r ≡ step_of μ t.op → lines_from k s at n μ ≡ after r t.next
    turn_steps e f = turn ∙ rw (e, f)

-- ---- a turn by what the reader gives, n steps being done

module _ (s : List ℕ) (n : ℕ) (μ : Machine) {r u : Reader} (same : r.text.now ≡ s) (few : n ≤ r.at) where
  -- a step: its line, and then those of the steps behind it
  pub gives_step : {x : Result Op Broken} {op : Op} → Gives r (Some x) u → x ≡ Ok op → {d : Answered} → d ≡ step_of μ op
      → (lines_from (length s - n) s r.at (n + 1) μ ≡ step_line (n + 1) d ∷ lines_from (length s - (n + 1)) s u.at (n + 1 + 1) d.machine) × (n + 1 ≤ u.at)
  gives_step g is e =
      let read = gave_step same g is in
      let long = step_long s r.at _ read in
      let left : length s - (n + 1) ≡ length s - n - 1 = omega arith in
      (rw left (turn_steps s r.at (n + 1) μ (length s - n) (omega arith) read e), omega arith)

  -- a line that is unreadable: the last
  pub gives_broken : {x : Result Op Broken} {b : Broken} → Gives r (Some x) u → x ≡ Err b
      → lines_from (length s - n) s r.at (n + 1) μ ≡ line_text (n + 1) (Refused (unreadable b)) μ.lcvid ∷ []
  gives_broken g is =
      let read = gave_broken same g is in
      let inside = broken_inside s r.at _ read in
      turn_breaks s r.at (n + 1) μ (length s - n) (omega arith) read

  -- nothing more
  pub gives_none : Gives r None u → lines_from (length s - n) s r.at (n + 1) μ ≡ []
  gives_none g = turn_ends s r.at (n + 1) μ (length s - n) (gave_none same g)

-- ---- how many turns are enough

module _ (s : List ℕ) where
  -- past the end there is no step, so no turn has a line
  all_read : (k at n : ℕ) (μ : Machine) → length s ≤ at → lines_from k s at n μ ≡ []
  all_read k at n μ h = turn_ends s at n μ k (unfold read_at in rw (le-leb (length s) at h))

  enough_after : (k j at n : ℕ) (μ : Machine) → length s ≤ at + suc k
      → ((at n : ℕ) (μ : Machine) → length s ≤ at + k → lines_from (k + j) s at n μ ≡ lines_from k s at n μ)
      → (r : Result (Option Step) Broken) → read_at s at ≡ r
      → on_read r (λ t. step_line n (step_of μ t.op) ∷ lines_from (k + j) s t.next (n + 1) (step_of μ t.op).machine) (broken s at n μ k)
      ≡ on_read r (λ t. step_line n (step_of μ t.op) ∷ lines_from k s t.next (n + 1) (step_of μ t.op).machine) (broken s at n μ k)
  enough_after k j at n μ h rest (Ok (Some t)) e =
      ap (λ (more : List (List ℕ)). step_line n (step_of μ t.op) ∷ more) (rest t.next (n + 1) (step_of μ t.op).machine (omega (arith, h, (step_long s at t e).0)))
  enough_after k j at n μ h rest (Ok None) e = refl
  enough_after k j at n μ h rest (Err b) e = refl

  -- as many turns as bytes are left: more change nothing
  pub turns_enough : (k j at n : ℕ) (μ : Machine) → length s ≤ at + k → lines_from (k + j) s at n μ ≡ lines_from k s at n μ
  unfolding lines_from
  turns_enough zero j at n μ h = all_read (zero + j) at n μ (omega (arith, h))
  turns_enough (suc k) j at n μ h =
      let e : suc k + j ≡ suc (k + j) = omega arith in
      rw e (enough_after k j at n μ h (turns_enough k j) (read_at s at) refl)
