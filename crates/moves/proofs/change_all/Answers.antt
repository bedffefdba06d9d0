-- Assumes nothing.
use Rattle.std.proofs.Common.{ap, ◌∙◌, arith}
use Rattle.rules.specs.Lists.{map_at}
use Rattle.rules.specs.Machine.{no_cache, with_caches, change}
use Rattle.moves.proofs.Loops.{map_turn, map_done}
use Rattle.moves.proofs.Caches.{changed_as}
use Rattle.moves.specs.Change.{changed_cache}
use Rattle.moves.proofs.change_all.Goals as goal

pub loop-number-preserved : goal.loop-number-preserved
loop-number-preserved c = map_turn (changed_cache c.args.ch) _ no_cache c.loop-number.number c.loop-number-test.true c.loop-number.invariant (changed_as _ _ _ _ _ c.change_in.ensures (omega arith))

pub returns : goal.returns
unfolding change
returns c =
    let k = changed_cache c.args.ch in
    ap (with_caches c.args.machine.now) (c.loop-number.invariant ∙ map_done k _ c.loop-number.number c.loop-number-test.false ∙ ap (map_at k) c.as_mut_slice-cache-items.ensures.value)
