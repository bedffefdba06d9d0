-- Before its digit number i the length is below ten to the i, so each digit more fits.
-- Assumes nothing.
use Rattle.std.proofs.Common.{◌^◌, ◌<◌}
use Rattle.batch.proofs.frames.read_length.Given as goal

abbrev pub invariant-loop-i : goal.invariant-loop-i
invariant-loop-i l = l.n < 10 ^ l.i
