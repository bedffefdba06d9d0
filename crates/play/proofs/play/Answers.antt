-- A text that is too long, a first line that is unreadable, or one that is read.
-- Assumes nothing.
use Rattle.std.proofs.Common.{◌≡◌, List, ℕ, ◌≤◌, ◌<◌, Result, length, arith}
use borrow.Author.Tests.{lt-ltb, le-ltb}
use Rattle.rules.specs.declared.Reason.TheVariants.{TextTooLong}
use Rattle.trace.specs.declared.Broken.{Broken}
use Rattle.trace.specs.declared.Caches.{Caches}
use Rattle.trace.specs.Trace.{first_of}
use Rattle.play.specs.Play.{longest, refused_first, on_first, report_of}
use Rattle.play.proofs.Telling.{one_line}
use Rattle.play.proofs.play.Goals as goal

-- the report, by the text's length and its first line
module _ (s : List ℕ) where
  too_long : longest < length s → report_of s ≡ refused_first TextTooLong
  unfolding report_of
  too_long h = rw (lt-ltb longest (length s) h)

  by_first : length s ≤ longest → {r : Result Caches Broken} → r ≡ first_of s → report_of s ≡ on_first s r
  unfolding report_of
  by_first h e = rw (le-ltb longest (length s) h, ← e)

pub returns-then-text-gt65536 : goal.returns-then-text-gt65536
returns-then-text-gt65536 c = rw (too_long c.args.text.now (omega arith)) (one_line c.last_line.ensures)

pub returns-in-Ok : goal.returns-in-Ok
returns-in-Ok c = rw (by_first c.args.text.now (omega arith) c.in-Ok.ensures) c.play_caches.ensures

pub returns-in-Err : goal.returns-in-Err
returns-in-Err c = rw (by_first c.args.text.now (omega arith) c.in-Err.ensures) (one_line (rw c.into.ensures at c.last_line-in-Err.ensures))
