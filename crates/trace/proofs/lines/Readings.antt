-- What reading the first line, and a step's line, comes to: what is written there, or where it breaks.
-- Assumes nothing.
use Rattle.std.proofs.Common.{Option, Some, None, Result, Ok, Err}
use mathlib.Core.Path.{◌≡◌, refl}
use mathlib.Core.Bool.{false}
use mathlib.Core.List.{List, [], ◌∷◌}
use Prim.Native.Nat.{ℕ, ◌≤◌, ◌<◌}
use native.Mathlib.Omega.{arith}
use borrow.Author.Tests.{leb-true, leb-false}
use lib.Dec.{leb}
use lib.ListN.{length, drop, get_or}
use Rattle.rules.specs.declared.Fault.{Fault}
use Rattle.rules.proofs.base.Bools.{by_test}
use Rattle.trace.specs.declared.Broken.{Broken}
use Rattle.trace.specs.declared.Caches.{Caches}
use Rattle.trace.specs.declared.Step.{Step}
use Rattle.trace.specs.declared.numbers.Wrong.{Wrong}
use Rattle.trace.specs.Trace.{Field, line_at, broken_at, fields_of, first_fields, caches_of, first_at, first_of, kind_at, step_of, line_of, read_at}
use Rattle.trace.specs.Written.{first_text, step_text, Small, Fits}
use Rattle.trace.proofs.lines.Stands.{Stands}
use Rattle.trace.proofs.lines.GoodLines.{Keyed, first_byte, key_begins}
use Rattle.trace.proofs.lines.Due.{Due, Off, InField, Leads}
use Rattle.trace.proofs.lines.LineReading.{LineReading, line_reading}
use Rattle.trace.proofs.lines.WrittenLines.{first_keyed, first_written, step_keyed, step_written}

-- ---- where a line breaks

-- the bytes p stand at the place, q is due behind them, and the text goes on with what is not
pub record BreaksOff (fs : List Field) (s : List ℕ) (at : ℕ) (f : Fault) (place : ℕ) : Type 0 where
  pub front : List ℕ
  pub due : Due
  pub leads : Leads fs front due
  pub off : Off due f (drop place s)
  pub stood : Stands s at front place

-- nothing of the first key is there
at_start : (f : Field) (fs : List Field) (s : List ℕ) (at : ℕ) (fault : Fault) → Keyed (f ∷ fs) → Off (Due.text (first_byte (f ∷ fs))) fault (drop at s) → BreaksOff (f ∷ fs) s at fault at
unfolding Leads Keyed
at_start f fs s at fault keyed off =
    record {
      front = [];
      due = Due.text (get_or f.key 0 0);
      off = off;
      leads = InField.in_key (get_or f.key 0 0) (drop 1 f.key) (key_begins f.key keyed.0) refl;
      stood = record { after = omega arith; holds = refl };
    }

-- ---- the first line

pub data FirstReading (s : List ℕ) (r : Result Caches Broken) : Type 0 where
  caches : (c : Caches) → Small c.count → Stands s 0 (first_text c.count) c.next → r ≡ Ok c → FirstReading s r
  broken : (w : Wrong) → BreaksOff first_fields s 0 w.fault w.place → r ≡ Err (broken_at 0 w) → FirstReading s r

pub first_reading : (s : List ℕ) → FirstReading s (first_of s)
unfolding first_of first_at
first_reading s = go (line_reading first_fields s 0 first_keyed)
  where
    go : LineReading first_fields s 0 (line_at first_fields s 0) → FirstReading s (first_of s)
    go (LineReading.whole ns line next good stood is) =
        let w = first_written ns line good in
        caches (caches_of (record { values = ns; next = next })) w.0 (rw w.1 at stood) (rw is)
    go (LineReading.none f off is) = broken (record { fault = f; place = 0 }) (at_start _ [] s 0 f first_keyed off) (rw is)
    go (LineReading.broken p q f place some leads off stood is) =
        broken (record { fault = f; place = place }) (record { front = p; due = q; leads = leads; off = off; stood = stood }) (rw is)

-- ---- a step's line

pub data StepReading (s : List ℕ) (at : ℕ) (r : Result (Option Step) Broken) : Type 0 where
  ended : length s ≤ at → r ≡ Ok None → StepReading s at r
  step : (t : Step) → Fits t.op → Stands s at (step_text t.op) t.next → r ≡ Ok (Some t) → StepReading s at r
  broken : (w : Wrong) → at < length s → BreaksOff (fields_of (kind_at s at)) s at w.fault w.place → r ≡ Err (broken_at at w) → StepReading s at r

pub step_reading : (s : List ℕ) (at : ℕ) → StepReading s at (read_at s at)
unfolding read_at line_of
step_reading s at =
    by_test (leb (length s) at)
    (λ h. ended (leb-true (length s) at h) (rw h))
    (λ h. go h (leb-false (length s) at h) (line_reading (fields_of (kind_at s at)) s at (step_keyed (kind_at s at))))
  where
    go : leb (length s) at ≡ false → at < length s → LineReading (fields_of (kind_at s at)) s at (line_at (fields_of (kind_at s at)) s at) → StepReading s at (read_at s at)
    go h inside (LineReading.whole ns line next good stood is) =
        let w = step_written ns line (kind_at s at) good in
        step (step_of (kind_at s at) (record { values = ns; next = next })) w.0 (rw w.1 at stood) (rw (h, is))
    go h inside (LineReading.none f off is) = broken (record { fault = f; place = at }) inside (at_start _ _ s at f (step_keyed (kind_at s at)) off) (rw (h, is))
    go h inside (LineReading.broken p q f place some leads off stood is) =
        broken (record { fault = f; place = place }) inside (record { front = p; due = q; leads = leads; off = off; stood = stood }) (rw (h, is))
