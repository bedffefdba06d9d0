-- Misspeculation where the search comes too late, and else the plan that is carried out is the store's rule.
-- Assumes nothing.
use Rattle.std.proofs.Common.{sym, ap, ◌∙◌}
use Rattle.rules.specs.Data.{put_word}
use Rattle.rules.specs.Store.{new_data, store_of}
use Rattle.rules.specs.Step.{rule_of}
use Rattle.access.specs.declared.ask.Asked.{Asked}
use Rattle.access.proofs.Asks.{goes, store_sees}
use Rattle.access.proofs.Found.{owner_seen}
use Rattle.access.proofs.Searches.{misspecs, goes_on}
use Rattle.access.proofs.store.Goals as goal

pub returns-in_default : goal.returns-in_default
unfolding rule_of new_data put_word
returns-in_default c =
    let b = c.args in
    let k = c.in-Ok.asked.access in
    let g = goes b.machine b.cache b.vid b.at (sym c.ask.ensures ∙ c.in-Ok.is) in
    let e = misspecs b.machine k.cache k.a k.x b.word k.vid (owner_seen g.sees) g.acts (sym c.search_owner.ensures ∙ c.in_default.is) in
    rw (c.misspeculation.ensures, g.passes) (sym e ∙ ap (λ (k : Asked). store_of b.machine k.access.vid k.access.cache k.access.a k.access.x b.word) g.same)

pub store_plan-requires : goal.store_plan-requires
store_plan-requires c = goes_on _ _ (sym c.search_owner.ensures ∙ c.in-Ok-search_owner.is)

pub returns : goal.returns
unfolding rule_of new_data put_word
returns c =
    let b = c.args in
    let g = goes b.machine b.cache b.vid b.at (sym c.ask.ensures ∙ c.in-Ok.is) in
    let e = sym c.search_owner.ensures ∙ c.in-Ok-search_owner.is in
    rw g.passes (c.carry.ensures ∙ (c.store_plan.ensures c.in-Ok.asked.access.cache b.machine (store_sees _ _ _ _ g e) ∙ ap (λ (k : Asked). store_of b.machine k.access.vid k.access.cache k.access.a k.access.x b.word) g.same))
