-- The lines of a cache. The loop's invariant: what is seen is the walk over the lines before this slot; a line of another address adds nothing to it.
-- Assumes nothing.
use Rattle.std.proofs.Common.{◌≡◌}
use Rattle.rules.specs.Machine.{pos}
use Rattle.access.specs.Look.{with_line}
use Rattle.access.proofs.Over.{over_first}
use Rattle.access.proofs.look.see_lines.Given as goal

abbrev pub invariant-loop-slot : goal.invariant-loop-slot
invariant-loop-slot l = l.seen ≡ over_first (λ s k. with_line l.access.cache l.access.a l.access.x (pos l.number s) k) l.slot l.lines l.initial.seen
