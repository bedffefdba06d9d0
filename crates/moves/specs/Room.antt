-- A line into a cache, by the slot that is free there: what comes back, and what the machine is then.
-- Assumes nothing.
use Rattle.std.specs.Prelude.{ℕ, Option, Some, None, Result, Ok, Err}
use Rattle.rules.specs.declared.Line.{Line}
use Rattle.rules.specs.declared.Machine.{Machine}
use Rattle.rules.specs.declared.Reason.{Reason}
use Rattle.rules.specs.declared.Reason.TheVariants.{NoRoom}
use Rattle.rules.specs.Machine.{pos, put}

-- where no slot is free, refusal 11
abbrev pub room : Option ℕ → Result Unit Reason
room (Some s) = Ok tt
room None = Err NoRoom

-- and the machine as it was
abbrev pub filled : ℕ → Line → Machine → Option ℕ → Machine
filled c l μ (Some s) = put (pos c s) l μ
filled c l μ None = μ
