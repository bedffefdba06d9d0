-- Each turn writes the line that the definition has next; the machine stays sound, so that the rule is the step.
-- Assumes nothing.
use Rattle.std.proofs.Common.{◌≡◌, ◌≤◌, ◌+◌, ◌-◌, length}
use Rattle.std.specs.Iterator.Adapters.{enumerate_source, enumerate_count}
use Rattle.rules.specs.House.{House, Sized}
use Rattle.play.specs.Play.{lines_from}
use Rattle.play.proofs.Telling.{Telling}
use Rattle.play.proofs.play_steps.Given as goal

abbrev pub invariant-loop-played : goal.invariant-loop-played
invariant-loop-played l = record {
  same : (enumerate_source l.played-iterator).text.now ≡ l.text;
  few : enumerate_count l.played-iterator ≤ (enumerate_source l.played-iterator).at;
  sound : House l.did.machine × Sized l.did.machine;
  told : Telling (lines_from (length l.text) l.text l.fn.from 1 l.initial.did.machine) l.initial.out l.end l.out (lines_from (length l.text - enumerate_count l.played-iterator) l.text (enumerate_source l.played-iterator).at (enumerate_count l.played-iterator + 1) l.did.machine);
}
