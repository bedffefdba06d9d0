-- A report in a lent buffer: whole lines from its start on, for as long as they fit. "bytes before the place and after the line stay"
-- Assumes nothing.
use Rattle.std.specs.Prelude.{◌≡◌, cond, List, [], ◌∷◌, ◌++◌, ℕ, ◌+◌, ◌-◌, ◌≤◌, leb, length, drop}
use Rattle.report.specs.Report.{fits, laid}
use Rattle.play.specs.declared.Played.{Played}

-- lines, one behind another
unfoldable pub joined : List (List ℕ) → List ℕ
joined [] = []
joined (l ∷ ls) = l ++ joined ls

-- the lines up to the first that the room is too small for
unfoldable pub fitting : ℕ → List (List ℕ) → List (List ℕ)
fitting room [] = []
fitting room (l ∷ ls) = cond (leb (length l) room) (l ∷ fitting (room - length l) ls) []

-- the buffer has the lines that fit from its start on, and else is as before; the place after them, and whether they are all
pub record Plays (lines : List (List ℕ)) (before : List ℕ) (r : Played) (after : List ℕ) : Type 0 where
  pub place : r.end ≡ length (joined (fitting (length before) lines))
  pub whole : r.whole ≡ leb (length (joined lines)) (length before)
  pub holds : after ≡ joined (fitting (length before) lines) ++ drop r.end before
  pub within : r.end ≤ length after

-- one more line, which is the last, from a place on
pub record Ends (line : List ℕ) (at : ℕ) (before : List ℕ) (r : Played) (after : List ℕ) : Type 0 where
  pub place : r.end ≡ cond (fits line at before) (at + length line) at
  pub whole : r.whole ≡ fits line at before
  pub holds : after ≡ cond (fits line at before) (laid line at before) before
