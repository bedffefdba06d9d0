-- "The playing program reads a trace ..., starts from zero memory, and prints one line a step": the report of a trace text, as its lines.
-- Assumes nothing.
use Rattle.std.specs.Prelude.{cond, List, [], ◌∷◌, ℕ, zero, suc, ◌+◌, ltb, length, replicate, Option, Some, None, Result, Ok, Err}
use Rattle.rules.specs.declared.Machine.{Machine}
use Rattle.rules.specs.declared.Reason.{Reason}
use Rattle.rules.specs.declared.Reason.TheVariants.{Unreadable, TextTooLong}
use Rattle.rules.specs.declared.Answer.{Answer}
use Rattle.rules.specs.declared.Answer.TheVariants.{Refused}
use Rattle.rules.specs.declared.Answered.{Answered}
use Rattle.rules.specs.Data.{no_data}
use Rattle.rules.specs.Machine.{make_of}
use Rattle.rules.specs.Step.{step_of}
use Rattle.trace.specs.declared.Broken.{Broken}
use Rattle.trace.specs.declared.Caches.{Caches}
use Rattle.trace.specs.declared.Step.{Step}
use Rattle.trace.specs.Trace.{first_of, read_at}
use Rattle.report.specs.Report.{line_text}

-- "At most 65,536 bytes"
abbrev pub longest : ℕ
longest = 65536

-- "step number from 1, answer, data (the loaded value, else 0), LCVID after the step"
abbrev pub step_line : ℕ → Answered → List ℕ
step_line n r = line_text n r.answer r.machine.lcvid

-- what is wrong with a line refuses it
abbrev pub unreadable : Broken → Reason
unreadable b = Unreadable b.fault b.column

-- what follows a step that was read; the line for one that is unreadable, which is the last; or the end
abbrev pub on_read : Result (Option Step) Broken → (Step → List (List ℕ)) → (Broken → List ℕ) → List (List ℕ)
on_read (Ok (Some t)) rest broken = rest t
on_read (Ok None) rest broken = []
on_read (Err b) rest broken = broken b ∷ []

-- The lines of the steps from a place of the text on, numbered from n. "A refused step doesn't stop the run; 12 ... prints its line and stops."
-- A text has fewer steps than bytes, so as many turns as it has bytes are enough (`turns_enough`).
unfoldable pub lines_from : ℕ → List ℕ → ℕ → ℕ → Machine → List (List ℕ)
lines_from zero s at n μ = []
lines_from (suc k) s at n μ =
    on_read (read_at s at)
    (λ t. step_line n (step_of μ t.op) ∷ lines_from k s t.next (n + 1) (step_of μ t.op).machine)
    (λ b. line_text n (Refused (unreadable b)) μ.lcvid)

-- "the first line counts as step 0, printed only when refused (1 or 12, lcvid=0)", or 14
abbrev pub refused_first : Reason → List (List ℕ)
refused_first r = line_text 0 (Refused r) 0 ∷ []

-- "a refused first line ... prints its line and stops"
abbrev pub on_made : Answer → List (List ℕ) → List (List ℕ)
on_made (Refused r) steps = refused_first r
on_made r steps = steps

-- "starts from zero memory"
abbrev pub made : ℕ → Answered
made n = make_of n (replicate 64 no_data)

abbrev pub on_first : List ℕ → Result Caches Broken → List (List ℕ)
on_first s (Ok c) = on_made (made c.count).answer (lines_from (length s) s c.next 1 (made c.count).machine)
on_first s (Err b) = refused_first (unreadable b)

-- "the program reports a longer text ... at step 0 without playing it"; 2026-01: it "becomes 14, without `col=`"
unfoldable pub report_of : List ℕ → List (List ℕ)
report_of s = cond (ltb longest (length s)) (refused_first TextTooLong) (on_first s (first_of s))
