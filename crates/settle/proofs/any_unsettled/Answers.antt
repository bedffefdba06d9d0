-- The search is the definition's.
-- Assumes nothing.
use Rattle.std.proofs.Common.{rules, tests, ◌∙◌, ◌&&◌}
use Rattle.std.specs.List.{list_any}
use Rattle.std.proofs.lemmas.Iterator.{YieldsList-from_slice}
use Rattle.std.proofs.lemmas.Iterator.Search.{any_from_yields_List}
use lib.Dec.{ltb}
use Rattle.rules.specs.declared.Cache.{Cache}
use Rattle.rules.specs.declared.Line.{Line}
use Rattle.rules.specs.States.{top}
use Rattle.rules.specs.Reset.{unsettled}
use Rattle.settle.proofs.Found.{any_is}
use Rattle.settle.proofs.any_unsettled.Goals as goal

pub returns : goal.returns
unfolding unsettled
returns c =
    let μ = c.args.machine.now in
    let pending = λ (l : Line). top l.state && ltb μ.lcvid l.h in
    let in_cache = λ (k : Cache). list_any pending k.lines in
    any_from_yields_List in_cache _ _ _ c.any.ensures.ran (YieldsList-from_slice μ.caches cc) (λ x b q k. search (rules, tests)) ∙ any_is pending μ
