-- The three ways to the answer: the count or LCVID is wrong, a slot does not fit by itself, or each live line is asked.
-- Assumes nothing.
use Rattle.std.proofs.Common.{◌∙◌, arith}
use Rattle.rules.proofs.Shape.{shape}
use Rattle.sound.proofs.Bridge.{no_numbers, no_fit, each}
use Rattle.sound.proofs.is_sound.Goals as goal

pub returns-then-not-numbers_fit : goal.returns-then-not-numbers_fit
returns-then-not-numbers_fit c = no_numbers _ (shape _ _ c.well_formed.0) c.if-not-numbers_fit.ensures

pub returns-in_default : goal.returns-in_default
returns-in_default c = let (i, h, e) = c.in_default.ensures in no_fit _ (shape _ _ c.well_formed.0) i h e

pub returns : goal.returns
returns c = c.all_stand.ensures ∙ each _ (shape _ _ c.well_formed.0) c.if-not-numbers_fit.ensures (λ i h. c.in-Some.ensures.fits i (omega arith) h)
