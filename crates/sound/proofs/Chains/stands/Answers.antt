-- The line sees the lines of its chain, one at a time.
-- Assumes nothing.
use Rattle.std.proofs.Common.{sym, ◌∙◌, arith}
use Rattle.sound.proofs.Chaining.{small}
use Rattle.sound.proofs.Sight.{sees_first, sees_next, sees_all, stands_dead}
use Rattle.sound.proofs.Chains.stands.Goals as goal

pub returns-then-not-is_live : goal.returns-then-not-is_live
returns-then-not-is_live c = rw (← c.held-k.ensures) (stands_dead _ _ (sym c.if-not-is_live.ensures))

pub loop-at-init : goal.loop-at-init
loop-at-init c = sees_first _ _ _ (c.requires.chained.starts _ (rw c.held-k.ensures (small _ _ _ c.requires.chained c.requires.slot)))

pub loop-at-preserved : goal.loop-at-preserved
loop-at-preserved c =
    let w = rw c.in-Some.is at c.loop-at.invariant in
    sees_next _ _ _ _ _ _ _ w c.held.ensures c.see.ensures (c.requires.chained.follows _ _ (omega arith) w.0 w.1)

pub returns : goal.returns
returns c =
    let w = rw c.in_default.is at c.loop-at.invariant in
    rw (← c.held-k.ensures) (c.suffices.ensures ∙ sees_all _ _ _ (sym c.if-not-is_live.ensures) w)
