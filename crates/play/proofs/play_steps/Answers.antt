-- A turn by what the reader gives: a step, whose line fits or doesn't, a line that is unreadable, or nothing more.
-- Assumes nothing.
use Rattle.std.proofs.Common.{◌∙◌, ap, arith}
use Rattle.play.proofs.Telling.{telling_end, telling_refused, telling_wrote, telling_last}
use Rattle.play.proofs.Turns.{stepped, stepped_sound, reckoned, gives_step, gives_broken, gives_none}
use Rattle.play.proofs.play_steps.Goals as goal

pub returns-in_default : goal.returns-in_default
returns-in_default c =
    let i = c.loop-played.invariant in
    let s = c.in-Some.ensures.steps in
    let t = gives_step _ _ _ i.same i.few s.0 c.in-Ok.is (stepped i.sound _ c.rule-did.ensures) in
    telling_refused i.told t.0 (reckoned _ _ _ _ _ c.in_default.ensures (omega (arith, s.1)) c.from-lcvid.ensures)

pub loop-played-preserved : goal.loop-played-preserved
loop-played-preserved c =
    let i = c.loop-played.invariant in
    let s = c.in-Some.ensures.steps in
    let t = gives_step _ _ _ i.same i.few s.0 c.in-Ok.is (stepped i.sound _ c.rule-did.ensures) in
    record {
      same = ap (λ t. t.now) s.0.same_text ∙ i.same;
      few = rw s.2 t.1;
      sound = stepped_sound i.sound _ c.rule-did.ensures;
      told = rw s.2 (telling_wrote i.told t.0 (reckoned _ _ _ _ _ c.in-Ok-write_line.ensures (omega (arith, s.1)) c.from-lcvid.ensures));
    }

pub returns-in-Err : goal.returns-in-Err
returns-in-Err c =
    let i = c.loop-played.invariant in
    let s = c.in-Some.ensures.steps in
    telling_last i.told (gives_broken _ _ _ i.same i.few s.0 c.in-Err.is) (rw (c.into.ensures, s.1) at c.last_line.ensures)

pub returns : goal.returns
returns c =
    let i = c.loop-played.invariant in
    telling_end i.told (gives_none _ _ _ i.same i.few c.in-None.ensures.steps.0)
