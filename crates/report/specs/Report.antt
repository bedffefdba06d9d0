-- A line of the report, and what writing it does to the caller's buffer.
-- Assumes nothing.
use Rattle.std.specs.Prelude.{◌≡◌, Bool, cond, List, [], ◌∷◌, ◌++◌, ℕ, ◌+◌, leb, length, take, drop, codes, Result, Ok, Err}
use Rattle.rules.specs.declared.Answer.{Answer}
use Rattle.rules.specs.declared.Answer.TheVariants.{Refused}
use Rattle.rules.specs.declared.Fault.{Fault}
use Rattle.rules.specs.declared.Reason.{Reason}
use Rattle.rules.specs.declared.Reason.TheVariants.{Unreadable, NoFit}
use Rattle.rules.specs.Answer.{number_of, letter_of, text_of, data_of}
use Rattle.rules.specs.Text.{lf, data_key, decimal}

-- ---- the line: "step number from 1, answer, data (the loaded value, else 0), LCVID after the step", "ended by one LF that belongs to the line"

abbrev pub step_key : List ℕ
step_key = codes "step="

abbrev pub answer_key : List ℕ
answer_key = codes " answer="

abbrev pub lcvid_key : List ℕ
lcvid_key = codes " lcvid="

abbrev pub col_key : List ℕ
col_key = codes " col="

-- a text that only an unreadable line has
abbrev pub if_unreadable : Reason → (Fault → ℕ → List ℕ) → List ℕ
if_unreadable (Unreadable f column) text = text f column
if_unreadable r text = []

-- 2026-01: "12 splits into 12a to 12e"
abbrev pub letter_text : Reason → List ℕ
letter_text r = if_unreadable r (λ f column. letter_of f ∷ [])

-- 2026-01: "End that report line with ` col=` and the byte column"
abbrev pub column_text : Reason → List ℕ
column_text r = if_unreadable r (λ f column. col_key ++ decimal column)

-- "value (a load), done (any other step), or instead misspec, overflow, refused-N"
abbrev pub answer_text : Answer → List ℕ
answer_text (Refused r) = (text_of (Refused r) ++ decimal (number_of r)) ++ letter_text r
answer_text r = text_of r

-- what stands behind the LCVID
abbrev pub end_text : Answer → List ℕ
end_text (Refused r) = column_text r
end_text r = []

unfoldable pub line_text : ℕ → Answer → ℕ → List ℕ
line_text step r lc = ((((((((step_key ++ decimal step) ++ answer_key) ++ answer_text r) ++ data_key) ++ decimal (data_of r)) ++ lcvid_key) ++ decimal lc) ++ end_text r) ++ lf

-- ---- "written into the caller's buffer from a place in its middle; bytes before the place and after the line stay"

-- the line fits from the place on; the place is not past the buffer's end
abbrev pub fits : List ℕ → ℕ → List ℕ → Bool
fits line place buffer = leb (place + length line) (length buffer)

-- the buffer with the line from the place on
abbrev pub laid : List ℕ → ℕ → List ℕ → List ℕ
laid line place buffer = take place buffer ++ (line ++ drop (place + length line) buffer)

-- what the writer answers, and the buffer after it: 13, and then "12 and 13 change no machine and no buffer"
pub record Writes (line : List ℕ) (place : ℕ) (before : List ℕ) (r : Result ℕ Reason) (after : List ℕ) : Type 0 where
  pub answer : r ≡ cond (fits line place before) (Ok (place + length line)) (Err NoFit)
  pub holds : after ≡ cond (fits line place before) (laid line place before) before
