-- The search is the definition's.
-- Assumes nothing.
use Rattle.std.proofs.Common.{rules, tests, ◌∙◌, not}
use Rattle.std.proofs.lemmas.Iterator.{YieldsList-from_slice}
use Rattle.std.proofs.lemmas.Iterator.Search.{position_from_yields_List}
use Rattle.rules.specs.declared.Line.{Line}
use Rattle.rules.specs.Line.{live}
use Rattle.moves.proofs.Search.{position_is}
use Rattle.moves.proofs.free_in.Goals as goal

pub returns : goal.returns
returns c =
    let free = λ (l : Line). not (live c.args.lcvid l) in
    let lines = c.args.cache.now.lines in
    position_from_yields_List free _ _ _ c.position.ensures.ran (YieldsList-from_slice lines cc) (λ x b q k. search (rules, tests)) ∙ position_is free lines
