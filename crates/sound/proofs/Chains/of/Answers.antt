-- Each turn chains one slot more.
-- Assumes nothing.
use Rattle.std.proofs.Common.{sym, arith}
use Rattle.sound.proofs.Chaining.{chained_none, chained_dead, chained_live}
use Rattle.sound.proofs.Chains.of.Goals as goal

pub loop-i-init : goal.loop-i-init
loop-i-init c = chained_none c.args.machine.now

pub loop-i-preserved-then-is_live : goal.loop-i-preserved-then-is_live
loop-i-preserved-then-is_live c =
    chained_live _ _ _ (omega arith) _ c.held-l.ensures _ c.loop-i.invariant (omega arith) (sym c.if-not-slot_fits.ensures) (sym c.if-is_live.ensures)

pub loop-i-preserved : goal.loop-i-preserved
loop-i-preserved c =
    chained_dead _ _ _ (omega arith) _ c.held-l.ensures _ c.loop-i.invariant (omega arith) (sym c.if-not-slot_fits.ensures) (sym c.if-is_live.ensures)
