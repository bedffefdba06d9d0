-- The line k has seen those of its address up to the next of its chain.
-- Assumes nothing.
use Rattle.std.proofs.Common.{◌-◌, unwrap_or}
use Rattle.sound.proofs.Sight.{Sees}
use Rattle.sound.proofs.Chains.stands.Given as goal

abbrev pub invariant-loop-at : goal.invariant-loop-at
invariant-loop-at l = Sees l.machine l.k l.at l.seen

abbrev pub decreases-loop-at : goal.decreases-loop-at
decreases-loop-at l = 64 - unwrap_or l.at 64
