-- How long a line is that is read, that it lies within the text, and how far on a line that is unreadable can break.
-- Assumes nothing.
use Rattle.std.proofs.Common.{Some, Ok, Err, ◌<◌, ◌-◌}
use mathlib.Core.Path.{◌≡◌, ◌∙◌, ap}
use mathlib.Core.List.{List, [], ◌∷◌, ◌++◌, append-nil}
use Prim.Native.Nat.{ℕ, ◌+◌, ◌≤◌}
use native.Mathlib.Omega.{arith}
use lib.ListN.{length, drop, length-append, length-drop}
use Rattle.rules.specs.declared.Fault.{Fault}
use Rattle.rules.specs.declared.Op.{Op}
use Rattle.rules.specs.declared.Op.TheVariants.{Load, Store, Commit, Abort, Reset, Evict}
use Rattle.rules.specs.Text.{lf, decimal}
use Rattle.trace.specs.declared.Broken.{Broken}
use Rattle.trace.specs.declared.Caches.{Caches}
use Rattle.trace.specs.declared.Step.{Step}
use Rattle.trace.specs.declared.Kind.{Kind}
use Rattle.trace.specs.declared.Kind.TheVariants.{AskLoad, AskStore, AskCommit, AskAbort, AskReset, AskEvict}
use borrow.Author.Tests.{lt-leb}
use Rattle.trace.specs.declared.numbers.Wrong.{Wrong}
use Rattle.trace.specs.Numbers.{Parsed, ◌>>=◌}
use Rattle.trace.specs.Trace.{Field, broken_at, op_text, fields_of, line_at, first_at, first_of, kind_at, step_of, line_of, read_at}
use Rattle.trace.proofs.lines.GoodLines.{Keyed}
use Rattle.trace.proofs.lines.LineReading.{LineReading, line_reading}
use Rattle.trace.proofs.lines.WrittenLines.{step_keyed}
use Rattle.trace.specs.Columns.{GoodFirst, GoodStep, Breaks}
use Rattle.trace.specs.Written.{first_text, written_line, step_text}
use Rattle.trace.proofs.lines.Stands.{Stands}
use Rattle.trace.proofs.lines.Decimal.{differ, one_digit, some_digit, few_digits}
use Rattle.trace.proofs.lines.Readings.{StepReading, step_reading}
use Rattle.trace.proofs.ReadsBack.{only_first, only_written, only_after}
use Rattle.trace.proofs.Columns.{first_breaks, step_breaks}

-- a text that stands at a place within ends within
stands_within : (s : List ℕ) (at : ℕ) (text : List ℕ) (next : ℕ) → at ≤ length s → Stands s at text next → next ≤ length s
stands_within s at text next h st = omega (arith, st.after, ap length st.holds, length-drop at s, length-append text (drop next s))

-- ---- lines that are read

op_long : (k : Kind) → 7 ≤ length (op_text k)
op_long AskLoad = omega arith
op_long AskStore = omega arith
op_long AskCommit = omega arith
op_long AskAbort = omega arith
op_long AskReset = omega arith
op_long AskEvict = omega arith

-- an op, four keys with their numbers, and LF
line_length : (k : Kind) (c v x d : ℕ) → length (written_line k c v x d) ≡ length (op_text k) + (23 + (length (decimal c) + (length (decimal v) + (length (decimal x) + length (decimal d)))))
unfolding written_line
line_length k c v x d = simp length-append (omega arith)

-- each number has at least a digit
line_long : (k : Kind) (c v x d : ℕ) → 34 ≤ length (written_line k c v x d)
line_long k c v x d = omega (arith, line_length k c v x d, op_long k, some_digit c, some_digit v, some_digit x, some_digit d)

step_text_long : (op : Op) → 34 ≤ length (step_text op)
unfolding step_text
step_text_long (Load c v x) = line_long AskLoad c v x 0
step_text_long (Store c v x d) = line_long AskStore c v x d
step_text_long (Commit v) = line_long AskCommit 0 v 0 0
step_text_long Abort = line_long AskAbort 0 0 0 0
step_text_long Reset = line_long AskReset 0 0 0 0
step_text_long (Evict c t) = line_long AskEvict c 0 t 0

-- `caches=`, a digit and LF; and the line lies within the text
pub first_long : (s : List ℕ) (c : Caches) → first_of s ≡ Ok c → (9 ≤ c.next) × (c.next ≤ length s)
first_long s c h =
    let st = (only_first s c h).1 in
    let w = stands_within s 0 (first_text c.count) c.next (omega arith) st in
    (omega (arith, st.after, length-append (decimal c.count) lf, some_digit c.count), w)

pub step_long : (s : List ℕ) (at : ℕ) (t : Step) → read_at s at ≡ Ok (Some t) → (at + 34 ≤ t.next) × (t.next ≤ length s)
step_long s at t h =
    let a = only_after s at t h in
    let l = ap length (only_written s at t h) in
    omega (arith, a, l, step_text_long t.op, length-drop at s, length-append (step_text t.op) (drop t.next s))

-- ---- lines that break

-- a number has at most twenty digits, and 0 one
short : (n : ℕ) → length (decimal n) ≤ 20
short n = few_digits 20 n

one : length (decimal 0) ≡ 1
one = rw (one_digit 19 0 (omega arith))

-- a store's line is the longest
step_text_short : (op : Op) → length (step_text op) ≤ 111
unfolding step_text
step_text_short (Load c v x) = omega (arith, line_length AskLoad c v x 0, short c, short v, short x, one)
step_text_short (Store c v x d) = omega (arith, line_length AskStore c v x d, short c, short v, short x, short d)
step_text_short (Commit v) = omega (arith, line_length AskCommit 0 v 0 0, short v, one)
step_text_short Abort = omega (arith, line_length AskAbort 0 0 0 0, one)
step_text_short Reset = omega (arith, line_length AskReset 0 0 0 0, one)
step_text_short (Evict c t) = omega (arith, line_length AskEvict c 0 t 0, short c, short t, one)

-- a text breaks within the longest good line, since the bytes before the column are not yet one
within : (Good : List ℕ → Type 0) (text : List ℕ) (f : Fault) (col most : ℕ) → ((line : List ℕ) → Good line → length line ≤ most) → Breaks Good text f col → col ≤ most
within Good text f col most bound b = go b.starts.0 b.starts.1
  where
    go : (more : List ℕ) → Good (b.before ++ more) → col ≤ most
    go [] good = absurd (b.none (b.before ++ []) b.rest good (b.parts ∙ rw (append-nil b.before)))
    go (c ∷ more) good = omega (arith, bound (b.before ++ (c ∷ more)) good, length-append b.before (c ∷ more), b.counted)

-- the largest columns there are
pub first_column : (s : List ℕ) (b : Broken) → first_of s ≡ Err b → b.column ≤ 28
first_column s b h = within GoodFirst s b.fault b.column 28 (λ line g. rw g.written (omega (arith, length-append (decimal g.caches) lf, short g.caches))) (first_breaks s b h)

pub step_column : (s : List ℕ) (at : ℕ) (b : Broken) → read_at s at ≡ Err b → b.column ≤ 111
step_column s at b h = within GoodStep (drop at s) b.fault b.column 111 (λ line g. rw g.written (step_text_short g.op)) (step_breaks s at b h)

-- behind the text's end no line breaks
pub broken_inside : (s : List ℕ) (at : ℕ) (b : Broken) → read_at s at ≡ Err b → at < length s
broken_inside s at b h = go (step_reading s at)
  where
    go : StepReading s at (read_at s at) → at < length s
    go (StepReading.ended past is) = absurd (differ cc)
    go (StepReading.step t fits stood is) = absurd (differ cc)
    go (StepReading.broken w inside off is) = inside

-- ---- so the column has room in 32 bits

-- what is wrong behind a step that was well is wrong in the whole
wrong_first : {A B : Type 0} (r : Parsed A) (then : A → B) (w : Wrong) → (r >>= (λ a. Ok (then a))) ≡ Err w → r ≡ Err w
wrong_first (Ok a) then w h = absurd (differ cc)
wrong_first (Err v) then w h = ap (λ r. r) cc

-- no line breaks before it begins
line_behind : (fs : List Field) (s : List ℕ) (at : ℕ) (w : Wrong) → Keyed fs → line_at fs s at ≡ Err w → at ≤ w.place
line_behind fs s at w keyed h = go (line_reading fs s at keyed)
  where
    go : LineReading fs s at (line_at fs s at) → at ≤ w.place
    go (LineReading.whole ns line next good stood is) = absurd (differ cc)
    go (LineReading.none f off is) =
        let same : record { fault = f; place = at } ≡ w = cc in
        rw (← same) (omega arith)
    go (LineReading.broken p q f place some leads off stood is) =
        let same : record { fault = f; place = place } ≡ w = cc in
        rw (← same) (omega (arith, stood.after))

pub first_near : (s : List ℕ) (w : Wrong) → first_at s ≡ Err w → w.place < 28
unfolding first_of
first_near s w h = let c = first_column s (broken_at 0 w) (rw h) in omega arith

module _ (s : List ℕ) (at : ℕ) (w : Wrong) (h : line_of (kind_at s at) s at ≡ Err w) where
  pub step_behind : at ≤ w.place
  unfolding line_of
  step_behind =
      let k = kind_at s at in
      line_behind (fields_of k) s at w (step_keyed k) (wrong_first (line_at (fields_of k) s at) (step_of k) w h)

  pub step_near : at < length s → w.place - at < 111
  unfolding read_at
  step_near inside = let c = step_column s at (broken_at at w) (rw (lt-leb (length s) at inside, h)) in omega arith
