-- Answers: the number of a refusal and the letter of a fault; the text, the number behind it and the value of an answer. Every promise uses these.
-- Assumes nothing.
use Rattle.std.specs.Prelude.{List, ℕ, codes}
use Rattle.rules.specs.declared.Fault.{Fault}
use Rattle.rules.specs.declared.Fault.TheVariants.{WrongKey, BadNumber, NumberTooLarge, KeyNotZero, NoLineEnd}
use Rattle.rules.specs.declared.Reason.{Reason}
use Rattle.rules.specs.declared.Reason.TheVariants.{CacheCount, NotSound, NoSuchCache, AddressTooLarge, SlotTooLarge, VidTooLarge, VidPast, VidNotNext, NotSettled, SlotEmpty, NoRoom, Unreadable, NoFit, TextTooLong}
use Rattle.rules.specs.declared.Answer.{Answer}
use Rattle.rules.specs.declared.Answer.TheVariants.{Value, Done, Misspec, Overflow, Refused}

-- "Numbers given on refusal"; 2026-01: "a text over 65,536 bytes becomes 14"
abbrev pub number_of : Reason → ℕ
number_of CacheCount = 1
number_of NotSound = 2
number_of NoSuchCache = 3
number_of AddressTooLarge = 4
number_of SlotTooLarge = 5
number_of VidTooLarge = 6
number_of VidPast = 7
number_of VidNotNext = 8
number_of NotSettled = 9
number_of SlotEmpty = 10
number_of NoRoom = 11
number_of (Unreadable f column) = 12
number_of NoFit = 13
number_of TextTooLong = 14

-- 2026-01: "12 splits into 12a to 12e in that list's order"
abbrev pub letter_of : Fault → ℕ
letter_of WrongKey = 97
letter_of BadNumber = 98
letter_of NumberTooLarge = 99
letter_of KeyNotZero = 100
letter_of NoLineEnd = 101

-- "Answers: value (a load), done (any other step), or instead misspec, overflow, refused-N", in ASCII; the number N follows the last
abbrev pub value_text : List ℕ
value_text = codes "value"

abbrev pub done_text : List ℕ
done_text = codes "done"

abbrev pub misspec_text : List ℕ
misspec_text = codes "misspec"

abbrev pub overflow_text : List ℕ
overflow_text = codes "overflow"

abbrev pub refused_text : List ℕ
refused_text = codes "refused-"

abbrev pub text_of : Answer → List ℕ
text_of (Value w) = value_text
text_of Done = done_text
text_of Misspec = misspec_text
text_of Overflow = overflow_text
text_of (Refused r) = refused_text

-- the number of a refusal, 0 where nothing is refused
abbrev pub refusal_of : Answer → ℕ
refusal_of (Value w) = 0
refusal_of Done = 0
refusal_of Misspec = 0
refusal_of Overflow = 0
refusal_of (Refused r) = number_of r

-- "data (the loaded value, else 0)"
abbrev pub data_of : Answer → ℕ
data_of (Value w) = w
data_of Done = 0
data_of Misspec = 0
data_of Overflow = 0
data_of (Refused r) = 0

-- what an answer of the marked cases shows: its text, the number of a refusal behind it, and the data
pub record Shown : Type 0 where
  pub text : List ℕ
  pub number : ℕ
  pub value : ℕ

abbrev pub shown : Answer → Shown
shown r = record { text = text_of r; number = refusal_of r; value = data_of r }
