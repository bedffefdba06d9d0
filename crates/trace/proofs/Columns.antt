-- Request 2026-01: the column and the kind that are told are those of the first byte that can't continue any good line, for every text.
-- Assumes nothing.
use Rattle.std.proofs.Common.{Err}
use mathlib.Core.Path.{◌≡◌, refl, ◌∙◌}
use mathlib.Core.List.{List, [], ◌∷◌, ◌++◌}
use Prim.Native.Nat.{ℕ, ◌+◌, ◌<◌}
use native.Mathlib.Omega.{arith}
use lib.ListN.{length, drop, get_or}
use Rattle.rules.specs.declared.Fault.{Fault}
use Rattle.trace.specs.declared.Broken.{Broken}
use Rattle.trace.specs.Trace.{broken_at, first_fields, first_of, read_at}
use Rattle.trace.specs.Written.{first_text, step_text}
use Rattle.trace.specs.Columns.{GoodFirst, GoodStep, Breaks}
use Rattle.trace.proofs.lines.Stands.{stands}
use Rattle.trace.proofs.lines.Decimal.{differ}
use Rattle.trace.proofs.lines.Due.{Due, Off, GoodLine}
use Rattle.trace.proofs.lines.Expects.{Expects, leads_expects, expects_starts, expects_stops, expects_kind}
use Rattle.trace.proofs.lines.OneBreak.{one_break}
use Rattle.trace.proofs.lines.WrittenLines.{first_keyed, first_good, first_written}
use Rattle.trace.proofs.lines.Readings.{FirstReading, first_reading, StepReading, step_reading}
use Rattle.trace.proofs.lines.StepLines.{step_due}
use Rattle.trace.proofs.ReadsBack.{first_stands, step_stands}

-- ---- from what is due to where the text breaks

-- the text goes on behind p with what is not due
breaks : (Good : List ℕ → Type 0) (text p rest : List ℕ) (q : Due) (f : Fault) → Expects Good p q → Off q f rest → text ≡ p ++ rest
    → ((line behind : List ℕ) → Good line → text ≡ line ++ behind → ⊥) → Breaks Good text f (length p + 1)
breaks Good text p rest q f x off parts none =
    record {
      none = none;
      before = p;
      rest = rest;
      parts = parts;
      counted = refl;
      starts = expects_starts Good p q x;
      stops = expects_stops Good p q x f rest off;
      kind = expects_kind Good p q x f rest off;
    }

-- the same lines are good
same_lines : (Good Other : List ℕ → Type 0) (p : List ℕ) (q : Due) → ((line : List ℕ) → Good line → Other line) → ((line : List ℕ) → Other line → Good line)
    → Expects Good p q → Expects Other p q
same_lines Good Other p q to from x =
    record { goes_on = λ c a. let l = x.goes_on c a in (l.0, to _ l.1); needed = λ c l. x.needed c (l.0, from _ l.1); ends_with = x.ends_with; sound = x.sound }

-- ---- the first line

good_first : (line : List ℕ) → GoodLine first_fields line → GoodFirst line
good_first line g = let w = first_written g.values line g.good in record { caches = get_or g.values 0 0; fits = w.0; written = w.1 }

first_line_good : (line : List ℕ) → GoodFirst line → GoodLine first_fields line
first_line_good line g = record { values = g.caches ∷ []; good = first_good g.caches line g.fits g.written }

-- where the first line is refused, the text breaks at that column, in that kind
pub first_breaks : (s : List ℕ) (b : Broken) → first_of s ≡ Err b → Breaks GoodFirst s b.fault b.column
first_breaks s b h = go (first_reading s)
  where
    none : (line behind : List ℕ) → GoodFirst line → s ≡ line ++ behind → ⊥
    none line behind g e =
        let st = stands s 0 (first_text g.caches) behind (rw g.written at e) in
        let r = first_stands s g.caches (0 + length (first_text g.caches)) g.fits st in
        differ cc

    go : FirstReading s (first_of s) → Breaks GoodFirst s b.fault b.column
    go (FirstReading.caches c small stood is) = differ cc
    go (FirstReading.broken w off is) =
        let same : broken_at 0 w ≡ b = cc in
        let l : length off.front + 1 ≡ (broken_at 0 w).column = omega (arith, off.stood.after) in
        let x = same_lines (GoodLine first_fields) GoodFirst off.front off.due good_first first_line_good (leads_expects first_fields off.front off.due first_keyed off.leads) in
        rw (← same, ← l) (breaks GoodFirst s off.front (drop w.place s) off.due w.fault x off.off off.stood.holds none)

-- and where it breaks so, the first line is refused so
pub first_broken : (s : List ℕ) (b : Broken) → Breaks GoodFirst s b.fault b.column → first_of s ≡ Err b
first_broken s b breaks = go (first_reading s)
  where
    go : FirstReading s (first_of s) → first_of s ≡ Err b
    go (FirstReading.caches c small stood is) = absurd (breaks.none (first_text c.count) (drop c.next s) (record { caches = c.count; fits = small; written = refl }) stood.holds)
    go (FirstReading.broken w off is) =
        let o = one_break GoodFirst s w.fault b.fault (broken_at 0 w).column b.column (first_breaks s (broken_at 0 w) is) breaks in
        is ∙ rw (o.0, o.1)

-- ---- a step's line

-- where a line is unreadable, the text from there on breaks at that column, in that kind
pub step_breaks : (s : List ℕ) (at : ℕ) (b : Broken) → read_at s at ≡ Err b → Breaks GoodStep (drop at s) b.fault b.column
step_breaks s at b h = go (step_reading s at)
  where
    none : (line behind : List ℕ) → GoodStep line → drop at s ≡ line ++ behind → ⊥
    none line behind g e =
        let st = stands s at (step_text g.op) behind (rw g.written at e) in
        let r = step_stands s g.op at (at + length (step_text g.op)) g.fits st in
        differ cc

    go : StepReading s at (read_at s at) → Breaks GoodStep (drop at s) b.fault b.column
    go (StepReading.ended past is) = differ cc
    go (StepReading.step t fits stood is) = differ cc
    go (StepReading.broken w inside off is) =
        let same : broken_at at w ≡ b = cc in
        let l : length off.front + 1 ≡ (broken_at at w).column = omega (arith, off.stood.after) in
        let d = step_due s at w.place off.front off.due w.fault off.leads off.off off.stood in
        rw (← same, ← l) (breaks GoodStep (drop at s) off.front (drop w.place s) d.due w.fault d.expects d.off off.stood.holds none)

-- and where it breaks so, the line is unreadable so
pub step_unreadable : (s : List ℕ) (at : ℕ) (b : Broken) → at < length s → Breaks GoodStep (drop at s) b.fault b.column → read_at s at ≡ Err b
step_unreadable s at b inside breaks = go (step_reading s at)
  where
    go : StepReading s at (read_at s at) → read_at s at ≡ Err b
    go (StepReading.ended past is) = absurd (omega arith)
    go (StepReading.step t fits stood is) = absurd (breaks.none (step_text t.op) (drop t.next s) (record { op = t.op; fits = fits; written = refl }) stood.holds)
    go (StepReading.broken w within off is) =
        let o = one_break GoodStep (drop at s) w.fault b.fault (broken_at at w).column b.column (step_breaks s at (broken_at at w) is) breaks in
        is ∙ rw (o.0, o.1)
