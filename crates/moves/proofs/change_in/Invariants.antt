-- Every line changed. The loop's invariant: those before slot s are; a line that the change can't reach is left alone.
-- Assumes nothing.
use Rattle.std.proofs.Common.{◌≡◌}
use Rattle.rules.specs.Machine.{pos}
use Rattle.moves.specs.Change.{changed}
use Rattle.moves.proofs.Loops.{map_first}
use Rattle.moves.proofs.change_in.Given as goal

abbrev pub invariant-loop-slot : goal.invariant-loop-slot
invariant-loop-slot l = l.line-items ≡ map_first (λ s k. changed l.ch (pos l.number s) k) l.slot l.initial.line-items
