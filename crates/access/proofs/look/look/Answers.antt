-- Assumes nothing.
use Rattle.std.proofs.Common.{◌∙◌}
use Rattle.rules.specs.Machine.{no_cache}
use Rattle.access.specs.Look.{with_cache}
use Rattle.access.proofs.Over.{over_turn, over_done}
use Rattle.access.proofs.Walk.{walk_sees}
use Rattle.access.proofs.look.look.Goals as goal

pub loop-number-preserved : goal.loop-number-preserved
loop-number-preserved c = over_turn (with_cache _ _ _) _ no_cache c.loop-number.number _ c.loop-number-test.true c.loop-number.invariant c.see_lines.ensures

pub returns : goal.returns
returns c = c.loop-number.invariant ∙ (over_done (with_cache _ _ _) _ c.loop-number.number _ c.loop-number-test.false ∙ walk_sees c.args.machine.now _ _ _)
