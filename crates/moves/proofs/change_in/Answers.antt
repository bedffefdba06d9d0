-- Assumes nothing.
use Rattle.std.proofs.Common.{List, sym, ap, ◌∙◌}
use Rattle.rules.specs.declared.Line.{Line}
use Rattle.rules.specs.Lists.{map_at}
use Rattle.rules.specs.Line.{empty}
use Rattle.rules.specs.Machine.{pos}
use Rattle.moves.specs.Change.{changed}
use Rattle.moves.proofs.Loops.{map_turn, map_done}
use Rattle.moves.proofs.Reached.{unreached_stays}
use Rattle.moves.proofs.change_in.Goals as goal
use Rattle.moves.proofs.change_in.Goals.{then-reaches, else-reaches}

pub loop-slot-preserved : goal.loop-slot-preserved
loop-slot-preserved c =
    let here = c.loop-slot-test.true in
    let so_far = c.loop-slot.invariant in
    elim c.if-reaches.branch [
      | then-reaches w ↦ w.line-items-is ∙ map_turn _ _ empty _ here so_far w.of.ensures
      | else-reaches w ↦ w.line-items-is ∙ map_turn _ _ empty _ here so_far (sym (unreached_stays c.args.ch _ _ (sym c.reaches.ensures ∙ w.if-reaches.false)))
    ]

pub returns : goal.returns
returns c =
    let all = c.loop-slot.invariant ∙ map_done _ _ c.loop-slot.slot c.loop-slot-test.false in
    ap (λ (ls : List Line). record { lines = ls }) (all ∙ ap (map_at (λ s l. changed c.args.ch (pos c.args.number s) l)) c.as_mut_slice-line-items.ensures.value)
