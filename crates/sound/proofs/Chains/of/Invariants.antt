-- What is known of the slots from i on, one slot a turn, from the last down.
-- Assumes nothing.
use Rattle.sound.specs.Numbered.{Chained}
use Rattle.sound.proofs.Chains.of.Given as goal

abbrev pub invariant-loop-i : goal.invariant-loop-i
invariant-loop-i l = Chained l.machine l.i l.chains
