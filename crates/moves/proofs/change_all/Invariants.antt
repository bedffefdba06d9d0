-- Every line changed. The loop's invariant: those of the caches before this number are.
-- Assumes nothing.
use Rattle.std.proofs.Common.{◌≡◌}
use Rattle.moves.proofs.Loops.{map_first}
use Rattle.moves.specs.Change.{changed_cache}
use Rattle.moves.proofs.change_all.Given as goal

abbrev pub invariant-loop-number : goal.invariant-loop-number
invariant-loop-number l = l.cache-items ≡ map_first (changed_cache l.ch) l.number l.initial.cache-items
