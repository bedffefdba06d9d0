-- What a reader gives, one step after another, and where it then stands.
-- Assumes nothing.
use Rattle.std.specs.Prelude.{ℕ, ◌≡◌, ◌-◌, length, Option, Some, None, Result, Ok, Err}
use Rattle.std.specs.Iterator.{Count, at_most}
use Rattle.rules.specs.declared.Op.{Op}
use Rattle.trace.specs.declared.Broken.{Broken}
use Rattle.trace.specs.declared.Step.{Step}
use Rattle.trace.specs.declared.reader.Reader.{Reader}
use Rattle.trace.specs.Trace.{read_at}

-- the step, or what is wrong with its line; nothing where the text ends
abbrev pub given : Result (Option Step) Broken → Option (Result Op Broken)
given (Ok None) = None
given (Ok (Some t)) = Some (Ok t.op)
given (Err b) = Some (Err b)

-- the place after the step's line; behind a line that is unreadable nothing more is read, so there the end of the text
abbrev pub place_after : ℕ → ℕ → Result (Option Step) Broken → ℕ
place_after at end (Ok None) = at
place_after at end (Ok (Some t)) = t.next
place_after at end (Err b) = end

-- a reader at r gave the item, and is then at u
pub record Gives (r : Reader) (item : Option (Result Op Broken)) (u : Reader) : Type 0 where
  pub gives : item ≡ given (read_at r.text.now r.at)
  pub same_text : u.text ≡ r.text
  pub place : u.at ≡ place_after r.at (length r.text.now) (read_at r.text.now r.at)

-- a step's line has a byte at least
abbrev pub left_of : Reader → Count
left_of r = at_most (length r.text.now - r.at)
