-- A count of caches that is refused, or the steps.
-- Assumes nothing.
use Rattle.std.proofs.Common.{ℕ}
use lib.ListN.{length-replicate, replicate}
use Rattle.rules.proofs.Theorems.{make_sound}
use Rattle.play.proofs.Telling.{one_line}
use Rattle.play.proofs.play_caches.Goals as goal

pub returns-in-Refused : goal.returns-in-Refused
returns-in-Refused c = rw (← c.make-made.ensures, c.in-Refused.is) (one_line c.last_line.ensures)

pub play_steps-requires : goal.play_steps-requires
play_steps-requires c = rw c.make-made.ensures (make_sound _ (replicate 64 0) (length-replicate {A = ℕ} 64 0))
