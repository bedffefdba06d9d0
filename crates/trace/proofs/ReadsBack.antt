-- Reading gives back what is written, and nothing else is read as it: a number's decimal text, the first line, and a step's line.
-- Assumes nothing.
use Rattle.std.proofs.Common.{Some, Ok}
use mathlib.Core.Path.{◌≡◌, refl, ◌∙◌, ap}
use mathlib.Core.Bool.{true, false}
use mathlib.Core.List.{List, [], ◌∷◌, ◌++◌}
use Prim.Native.Nat.{ℕ, ◌+◌, ◌<◌}
use native.Mathlib.Omega.{arith}
use borrow.Author.Tests.{lt-leb}
use lib.ListN.{length, drop, length-drop}
use lib.Seq.{drop-append_seam}
use Rattle.rules.specs.declared.Op.{Op}
use Rattle.rules.specs.Text.{decimal}
use Rattle.trace.specs.declared.Caches.{Caches}
use Rattle.trace.specs.declared.Step.{Step}
use Rattle.trace.specs.declared.Kind.{Kind}
use Rattle.trace.specs.declared.Kind.TheVariants.{AskLoad, AskStore, AskCommit, AskAbort, AskReset, AskEvict}
use Rattle.trace.specs.Numbers.{found, number_at}
use Rattle.trace.specs.Trace.{cache_key, op_text, fields_of, first_fields, first_at, first_of, kind_by, kind_at, line_of, read_at}
use Rattle.trace.specs.Written.{first_text, step_text, Small, Fits, starts_digit}
use Rattle.trace.proofs.lines.Stands.{Stands, stands}
use Rattle.trace.proofs.lines.Decimal.{differ, always, written_in}
use Rattle.trace.proofs.lines.GoodLines.{Good, line_back}
use Rattle.trace.proofs.lines.Due.{letter}
use Rattle.trace.proofs.lines.WrittenLines.{first_keyed, first_good, step_keyed, spelt}
use Rattle.trace.proofs.lines.Readings.{FirstReading, first_reading, StepReading, step_reading}

-- the decimal text of a number, with no digit behind it, is read as the number
pub number_back : (n : ℕ) → Small n → (front rest : List ℕ) → starts_digit rest ≡ false
    → number_at true (front ++ (decimal n ++ rest)) (length front) ≡ found n (length front + length (decimal n))
unfolding number_at
number_back n small front rest e = rw (drop-append_seam front (decimal n ++ rest)) (written_in true n (length front) rest (always n small) e)

-- ---- the op of a line

-- what every line of an op begins with
pub record OpLine (k : Kind) (line : List ℕ) : Type 0 where
  pub others : List ℕ
  pub is : line ≡ 111 ∷ 112 ∷ 61 ∷ letter k ∷ others

pub op_text_lem : (k : Kind) → (others : List ℕ) × (op_text k ++ cache_key ≡ 111 ∷ 112 ∷ 61 ∷ letter k ∷ others)
op_text_lem AskLoad = (_, refl)
op_text_lem AskStore = (_, refl)
op_text_lem AskCommit = (_, refl)
op_text_lem AskAbort = (_, refl)
op_text_lem AskReset = (_, refl)
op_text_lem AskEvict = (_, refl)

pub op_line : (k : Kind) (ns line : List ℕ) → Good (fields_of k) ns line → OpLine k line
unfolding Good
op_line k ns line good =
    let o = op_text_lem k in
    record { others = o.0 ++ (decimal good.value ++ good.rest); is = good.text ∙ ap (λ t. t ++ (decimal good.value ++ good.rest)) o.1 }

-- its first letter tells the op
pub by_letter : (k : Kind) (t : List ℕ) → kind_by (letter k ∷ t) ≡ k
by_letter AskLoad t = refl
by_letter AskStore t = refl
by_letter AskCommit t = refl
by_letter AskAbort t = refl
by_letter AskReset t = refl
by_letter AskEvict t = refl

-- ---- what is written is read

module _ (s : List ℕ) where
  -- the place of a text with a byte in it is within
  within : (at next b : ℕ) (text : List ℕ) → Stands s at (b ∷ text) next → at < length s
  within at next b text h = let l = ap length h.holds in omega (arith, l, length-drop at s)

  pub first_stands : (n next : ℕ) → Small n → Stands s 0 (first_text n) next → first_of s ≡ Ok (record { count = n; next = next })
  unfolding first_of first_at
  first_stands n next small h = rw (line_back s first_fields (n ∷ []) (first_text n) 0 next first_keyed (first_good n _ small refl) h)

  kind_stands : (k : Kind) (ns line : List ℕ) (at next : ℕ) → Good (fields_of k) ns line → Stands s at line next → kind_at s at ≡ k
  unfolding kind_at
  kind_stands k ns line at next good h =
      let o = op_line k ns line good in
      let e : drop 3 (drop at s) ≡ letter k ∷ (o.others ++ drop next s) = ap (drop 3) (rw o.is at h.holds) in
      rw e (by_letter k (o.others ++ drop next s))

  -- wherever a step's line stands as it is written, it is read as the step
  pub step_stands : (op : Op) (at next : ℕ) → Fits op → Stands s at (step_text op) next → read_at s at ≡ Ok (Some (record { op = op; next = next }))
  unfolding read_at line_of
  step_stands op at next fits h =
      let w = spelt op fits in
      let o = op_line w.kind w.values (step_text op) w.good in
      let inside = within at next 111 (112 ∷ 61 ∷ letter w.kind ∷ o.others) (rw (← o.is) h) in
      rw (lt-leb (length s) at inside, kind_stands w.kind w.values (step_text op) at next w.good h)
      (rw (line_back s (fields_of w.kind) w.values (step_text op) at next (step_keyed w.kind) w.good h, w.is))

-- the first line as it is written, whatever is behind it
pub first_back : (n : ℕ) → Small n → (rest : List ℕ) → first_of ((first_text n) ++ rest) ≡ Ok (record { count = n; next = length (first_text n) })
first_back n small rest =
    let s = first_text n ++ rest in
    let e : 0 + length (first_text n) ≡ length (first_text n) = omega arith in
    first_stands s n (length (first_text n)) small (rw e at (stands s 0 (first_text n) rest refl))

-- a step's line as it is written, whatever is before it and behind it, is read as the step, and the next place is the one after the line
pub step_back : (op : Op) → Fits op → (front rest : List ℕ) → read_at (front ++ (step_text op ++ rest)) (length front) ≡ Ok (Some (record { op = op; next = length front + length (step_text op) }))
step_back op fits front rest =
    let s = front ++ (step_text op ++ rest) in
    step_stands s op (length front) (length front + length (step_text op)) fits (stands s (length front) (step_text op) rest (drop-append_seam front (step_text op ++ rest)))

-- ---- and nothing else

module _ (s : List ℕ) (c : Caches) (h : first_of s ≡ Ok c) where
  -- the first line is read only where it stands as it is written, and its number fits
  pub only_first : Small c.count × Stands s 0 (first_text c.count) c.next
  only_first = go (first_reading s)
    where
      go : FirstReading s (first_of s) → Small c.count × Stands s 0 (first_text c.count) c.next
      go (FirstReading.caches d small stood is) =
          let same : d ≡ c = cc in
          rw (← same) (small, stood)
      go (FirstReading.broken w off is) = differ cc

module _ (s : List ℕ) (at : ℕ) (t : Step) (h : read_at s at ≡ Ok (Some t)) where
  written : Fits t.op × Stands s at (step_text t.op) t.next
  written = go (step_reading s at)
    where
      go : StepReading s at (read_at s at) → Fits t.op × Stands s at (step_text t.op) t.next
      go (StepReading.ended past is) = differ cc
      go (StepReading.step u fits stood is) =
          let same : u ≡ t = cc in
          rw (← same) (fits, stood)
      go (StepReading.broken w inside off is) = differ cc

  -- a step is read only where its line stands as it is written
  pub only_written : drop at s ≡ step_text t.op ++ drop t.next s
  only_written = written.1.holds

  -- the next place is the one after that line
  pub only_after : t.next ≡ at + length (step_text t.op)
  only_after = written.1.after

  -- and its numbers fit
  pub only_fits : Fits t.op
  only_fits = written.0
