-- The plan that is carried out is the load's rule.
-- Assumes nothing.
use Rattle.std.proofs.Common.{sym, ◌∙◌, ap}
use Rattle.rules.specs.Load.{load_of}
use Rattle.rules.specs.Step.{rule_of}
use Rattle.access.specs.declared.ask.Asked.{Asked}
use Rattle.access.proofs.Asks.{goes}
use Rattle.access.proofs.load.Goals as goal

pub load_plan-requires : goal.load_plan-requires
load_plan-requires c = (goes _ _ _ _ (sym c.ask.ensures ∙ c.in-Ok.is)).number

pub returns-in-Ok : goal.returns-in-Ok
unfolding rule_of
returns-in-Ok c =
    let b = c.args in
    let g = goes b.machine b.cache b.vid b.at (sym c.ask.ensures ∙ c.in-Ok.is) in
    rw g.passes (c.carry.ensures ∙ (c.load_plan.ensures b.machine g.sees ∙ ap (λ (k : Asked). load_of b.machine k.access.vid k.access.cache k.access.a k.access.x 0) g.same))
