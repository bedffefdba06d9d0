-- The digits read so far make the value, and the rest of the number stands from the i-th byte on.
-- Assumes nothing.
use Rattle.std.proofs.Common.{◌≡◌, ◌+◌, drop}
use Rattle.trace.specs.Numbers.{digits_from}
use Rattle.trace.proofs.numbers.digits_from.Given as goal

abbrev pub invariant-loop-i : goal.invariant-loop-i
invariant-loop-i l = digits_from 0 l.at l.text ≡ digits_from l.value (l.at + l.i) (drop l.i l.text)
