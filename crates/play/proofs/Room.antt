-- Every report fits into 131,072 bytes: a step's line has at least 34 bytes, and its report line at most 58; the report line of an unreadable one has no more.
-- Assumes nothing.
use mathlib.Core.Path.{◌≡◌, refl, ap}
use mathlib.Core.Bool.{◌&&◌}
use mathlib.Core.List.{List, [], ◌∷◌}
use Prim.Native.Nat.{ℕ, zero, suc, ◌+◌, ◌-◌, ◌*◌, ◌^◌, ◌≤◌, ◌<◌}
use native.Mathlib.Omega.{arith}
use borrow.Author.Tests.{ltb-false}
use lib.Dec.{ltb, leb}
use lib.ListN.{length, replicate, length-append, length-replicate}
use Rattle.std.specs.Prelude.{Option, Some, None, Result, Ok, Err}
use Rattle.rules.specs.declared.Fault.{Fault}
use Rattle.rules.specs.declared.Machine.{Machine}
use Rattle.rules.specs.declared.Op.{Op}
use Rattle.rules.specs.declared.Reason.{Reason}
use Rattle.rules.specs.declared.Reason.TheVariants.{CacheCount, Unreadable, TextTooLong}
use Rattle.rules.specs.declared.Answer.{Answer}
use Rattle.rules.specs.declared.Answer.TheVariants.{Value, Refused}
use Rattle.rules.specs.Answer.{number_of, data_of}
use Rattle.rules.specs.Data.{no_data}
use Rattle.rules.specs.Text.{last_digits, decimal}
use Rattle.rules.specs.House.{House, Sized}
use Rattle.rules.specs.Machine.{make_of}
use Rattle.rules.specs.Step.{step_of}
use Rattle.rules.proofs.base.Bools.{by_test}
use Rattle.rules.proofs.Theorems.{make_sound, step_sound, refused_number}
use Rattle.report.proofs.Digits.{decimal_below}
use Rattle.report.specs.Report.{col_key, if_unreadable, letter_text, column_text, answer_text, end_text, line_text}
use Rattle.trace.specs.declared.Broken.{Broken}
use Rattle.trace.specs.declared.Caches.{Caches}
use Rattle.trace.specs.declared.Step.{Step}
use Rattle.trace.specs.Trace.{first_of, read_at}
use Rattle.trace.proofs.lines.Decimal.{few_digits}
use Rattle.trace.proofs.Lengths.{first_long, step_long, first_column, step_column}
use Rattle.play.specs.Play.{longest, unreadable, on_read, on_made, on_first, made, refused_first, step_line, lines_from, report_of}
use Rattle.play.specs.Buffer.{joined}

-- ---- a line

two_digits : (r : Reason) → number_of r < 10 ^ 2
two_digits CacheCount = omega arith
two_digits r = omega arith

-- a text that only an unreadable line has is short where the line's is
only_short : (r : Reason) (text : Fault → ℕ → List ℕ) (k : ℕ) → ((f : Fault) (column : ℕ) → r ≡ Unreadable f column → length (text f column) ≤ k) → length (if_unreadable r text) ≤ k
only_short (Unreadable f column) text k h = h f column refl
only_short r text k h = omega arith

-- where an answer has a column, it has at most three digits
abbrev Near : Answer → Type 0
Near r = (f : Fault) (column : ℕ) → r ≡ Refused (Unreadable f column) → column < 10 ^ 3

-- the answer, the data and what stands behind the LCVID: 25 bytes for a value, 20 for an unreadable line
parts_short : (r : Answer) → Near r → length (answer_text r) + length (decimal (data_of r)) + length (end_text r) ≤ 25
unfolding last_digits
parts_short (Value w) near = omega (arith, few_digits 20 w)
parts_short (Refused r) near = simp length-append (omega (arith, decimal_below 2 (number_of r) (omega arith) (two_digits r) (omega (arith, two_digits r)), letter, column))
  where
    letter : length (letter_text r) ≤ 1
    letter = only_short r _ 1 (λ f c e. omega arith)

    column : length (column_text r) ≤ 8
    column = only_short r _ 8 (λ f c e. omega (arith, length-append col_key (decimal c), decimal_below 3 c (omega arith) (near f c (ap Refused e)) (omega (arith, near f c (ap Refused e)))))
parts_short r near = omega arith

pub line_short : (n : ℕ) (r : Answer) (lc : ℕ) → n < 10 ^ 4 → lc < 10 ^ 2 → Near r → length (line_text n r lc) ≤ 58
unfolding line_text
line_short n r lc small low near = simp length-append (omega (arith, decimal_below 4 n (omega arith) small (omega arith), parts_short r near, decimal_below 2 lc (omega arith) low (omega arith)))

-- the column of an unreadable line
near_unreadable : (f : Fault) (column : ℕ) → column < 10 ^ 3 → Near (Refused (Unreadable f column))
near_unreadable f column h g c e = let same : column ≡ c = cc in rw (← same) h

-- a number up to 11 is no unreadable line's
near_step : (μ : Machine) (op : Op) → Near (step_of μ op).answer
near_step μ op f c e = absurd (omega (arith, refused_number μ op (Unreadable f c) e))

-- making a machine is refused for the count of caches alone
near_made : (n : ℕ) → Near (made n).answer
unfolding make_of
near_made n f c e = by_test (leb 1 n && leb n 4)
    (λ i. let d = rw i at e in cc)
    (λ i. let d = rw i at e in cc)

-- a report that ends with its first line, or where a machine was made
refused_short : (r : Reason) → Near (Refused r) → length (joined (refused_first r)) ≤ 131072
unfolding joined
refused_short r near = omega (arith, length-append (line_text 0 (Refused r) 0) [], line_short 0 (Refused r) 0 (omega arith) (omega arith) near)

made_short : (r : Answer) (lines : List (List ℕ)) → Near r → length (joined lines) ≤ 131072 → length (joined (on_made r lines)) ≤ 131072
made_short (Refused r) lines near h = refused_short r near
made_short r lines near h = h

-- ---- the lines of the steps

module _ (s : List ℕ) (fits : length s ≤ longest) where
  -- what is left of the text pays for the lines to come, and for one that is unreadable
  abbrev Paid : ℕ → List (List ℕ) → Type 0
  Paid at lines = 34 * length (joined lines) ≤ 58 * (length s - at) + 58 * 34

  module _ (at n : ℕ) (μ : Machine) (z : House μ × Sized μ) (inside : at ≤ length s) (early : 34 * n ≤ at + 34) where
    short : (r : Answer) (lc : ℕ) → lc < 64 → Near r → length (line_text n r lc) ≤ 58
    short r lc low near = line_short n r lc (omega (arith, early, inside, fits)) (omega (arith, low)) near

    turn_short : (k : ℕ) → ((at n : ℕ) (μ : Machine) → House μ × Sized μ → at ≤ length s → 34 * n ≤ at + 34 → Paid at (lines_from k s at n μ))
        → (r : Result (Option Step) Broken) → read_at s at ≡ r
        → Paid at (on_read r (λ t. step_line n (step_of μ t.op) ∷ lines_from k s t.next (n + 1) (step_of μ t.op).machine) (λ b. line_text n (Refused (unreadable b)) μ.lcvid))
    unfolding joined
    turn_short k rest (Ok (Some t)) e =
        let r = step_of μ t.op in
        let after = step_sound μ z.1 z.0 t.op in
        let l = step_long s at t e in
        let more = rest t.next (n + 1) r.machine after l.1 (omega (arith, early, l.0)) in
        let line = short r.answer r.machine.lcvid after.0.last (near_step μ t.op) in
        omega (arith, length-append (step_line n r) (joined (lines_from k s t.next (n + 1) r.machine)), line, more, l.0, l.1)
    turn_short k rest (Ok None) e = omega arith
    turn_short k rest (Err b) e =
        let r = Refused (unreadable b) in
        let near = near_unreadable b.fault b.column (omega (arith, step_column s at b e)) in
        omega (arith, length-append (line_text n r μ.lcvid) [], short r μ.lcvid z.0.last near)

  lines_short : (k at n : ℕ) (μ : Machine) → House μ × Sized μ → at ≤ length s → 34 * n ≤ at + 34 → Paid at (lines_from k s at n μ)
  unfolding lines_from joined
  lines_short zero at n μ z inside early = omega arith
  lines_short (suc k) at n μ z inside early = turn_short at n μ z inside early k (lines_short k) (read_at s at) refl

  -- ---- the report

  first_short : (r : Result Caches Broken) → first_of s ≡ r → length (joined (on_first s r)) ≤ 131072
  first_short (Ok c) e =
      let l = first_long s c e in
      let paid = lines_short (length s) c.next 1 (made c.count).machine (make_sound c.count (replicate 64 no_data) (length-replicate 64 no_data)) l.1 (omega arith) in
      made_short (made c.count).answer (lines_from (length s) s c.next 1 (made c.count).machine) (near_made c.count) (omega (arith, paid, fits))
  first_short (Err b) e = refused_short (unreadable b) (near_unreadable b.fault b.column (omega (arith, first_column s b e)))

-- the report of every text fits into the program's buffer
pub report_fits : (s : List ℕ) → length (joined (report_of s)) ≤ 131072
unfolding report_of
report_fits s = by_test (ltb longest (length s))
    (λ i. rw i (refused_short TextTooLong (λ f c e. cc)))
    (λ i. rw i (first_short s (ltb-false longest (length s) i) (first_of s) refl))
