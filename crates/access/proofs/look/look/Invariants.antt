-- All caches. The loop's invariant: what is seen is the walk over the caches before this one; the walk over all of them is what the searches find.
-- Assumes nothing.
use Rattle.std.proofs.Common.{◌≡◌}
use Rattle.access.specs.Look.{unseen, with_cache}
use Rattle.access.proofs.Over.{over_first}
use Rattle.access.proofs.look.look.Given as goal

abbrev pub invariant-loop-number : goal.invariant-loop-number
invariant-loop-number l = l.seen ≡ over_first (with_cache l.access.cache l.access.a l.access.x) l.number l.caches unseen
