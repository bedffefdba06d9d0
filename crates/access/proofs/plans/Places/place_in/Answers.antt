-- The first of two lines has its room: what the second comes to is what both come to.
-- Assumes nothing.
use Rattle.std.proofs.Common.{sym, ◌∙◌}
use Rattle.access.proofs.Placed.{one_lands, first_lands}
use Rattle.access.proofs.plans.Places.place_in.Goals as goal

pub returns-in_ok-place_in-in-Two : goal.returns-in_ok-place_in-in-Two
returns-in_ok-place_in-in-Two c = λ μ r.
    let b = c.args in
    let t = c.in-Two in
    let first = c.place_in-in-Two in
    let next = c.place_in-in-Two-2 in
    rw t.is (one_lands μ first.new.machine r b.cache t.second next.ensures.answer next.ensures.machine
    ∙ first_lands μ b.machine.now r b.cache t.first t.second (sym first.ensures.answer ∙ c.in_ok-place_in-in-Two.was) first.ensures.machine)
