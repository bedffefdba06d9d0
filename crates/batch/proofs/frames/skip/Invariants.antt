-- Each turn leaves fewer bytes.
-- Assumes nothing.
use Rattle.batch.proofs.frames.skip.Given as goal

abbrev pub decreases-loop-left : goal.decreases-loop-left
decreases-loop-left l = l.left
