-- What is read fits into the room.
-- Assumes nothing.
use Rattle.std.proofs.Common.{◌≤◌, length}
use Rattle.measured.proofs.read_ops.Given as goal

abbrev pub invariant-loop-op : goal.invariant-loop-op
invariant-loop-op l =
    (goal.iterator-loop-op).can_next l.op-iterator ×
    (goal.iterator-loop-op).is_finite l.op-iterator ×
    l.count ≤ length l.room
