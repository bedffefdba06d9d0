-- Assumes nothing.
use Rattle.std.proofs.Common.{ℕ, sym, ◌∙◌}
use borrow.Author.Tests.{ne_eqb}
use Rattle.rules.specs.declared.Line.{Line}
use Rattle.rules.specs.Line.{empty}
use Rattle.rules.specs.Machine.{pos}
use Rattle.access.specs.declared.look.Seen.{Seen}
use Rattle.access.specs.Look.{with_line}
use Rattle.access.proofs.Over.{over_turn, over_done}
use Rattle.access.proofs.Walk.{own_address, another_address}
use Rattle.access.proofs.look.see_lines.Goals as goal
use Rattle.access.proofs.look.see_lines.Goals.{then-line-access, else-line-access}

-- what a line in a slot adds
abbrev adds : ℕ → ℕ → ℕ → ℕ → ℕ → Line → Seen → Seen
adds cache a x c s l = with_line cache a x (pos c s) l

pub loop-slot-preserved : goal.loop-slot-preserved
loop-slot-preserved c =
    let here = c.loop-slot-test.true in
    let so_far = c.loop-slot.invariant in
    elim c.if-line-access.branch [
      | then-line-access w ↦ over_turn (adds _ _ _ _) _ empty _ _ here so_far (w.seen-is ∙ w.see.ensures ∙ own_address _ _ _ _ _ _ w.if-line-access.true)
      | else-line-access w ↦ over_turn (adds _ _ _ _) _ empty _ _ here so_far (w.seen-is ∙ sym (another_address _ _ _ _ _ _ (ne_eqb _ _ w.if-line-access.false)))
    ]

pub returns : goal.returns
returns c = c.loop-slot.invariant ∙ over_done (adds _ _ _ _) _ c.loop-slot.slot _ c.loop-slot-test.false
