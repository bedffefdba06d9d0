-- What a match on an answer or on a reason tells where it finds another variant: the answer is no refusal; the refused line has neither a letter nor a column.
-- Assumes nothing.
use mathlib.Core.Path.{◌≡◌, refl}
use mathlib.Core.List.{List, [], ◌∷◌}
use Prim.Native.Nat.{ℕ}
use types.Run.{OneOf, miss}
use denote.Enum.Declared.{tag_of}
use Rattle.rules.specs.declared.Answer.{Answer}
use Rattle.rules.specs.declared.Answer.TheVariants.{Refused}
use Rattle.rules.specs.declared.Fault.{Fault}
use Rattle.rules.specs.declared.Reason.{Reason}
use Rattle.rules.specs.declared.Reason.TheVariants.{Unreadable}
use Rattle.rules.specs.contracts.Answer as answer
use Rattle.rules.specs.contracts.Reason as reason
use Rattle.report.specs.Report.{if_unreadable, end_text}

-- the tags of the other answers; that of a refusal, 4, is none of them
abbrev pub others : List ℕ
others = 0 ∷ 1 ∷ 2 ∷ 3 ∷ []

pub not_refused : OneOf others 4 → ⊥
not_refused h = miss others 4 _ h

-- nothing stands behind their LCVID
pub no_end : (r : Answer) → OneOf others (tag_of answer.the_type r) → end_text r ≡ []
no_end (Refused k) h = absurd (not_refused h)
no_end r h = refl

-- the tags of the other reasons; that of an unreadable line, 11, is none of them
abbrev readable : List ℕ
readable = 0 ∷ 1 ∷ 2 ∷ 3 ∷ 4 ∷ 5 ∷ 6 ∷ 7 ∷ 8 ∷ 9 ∷ 10 ∷ 12 ∷ 13 ∷ []

pub no_text : (r : Reason) (text : Fault → ℕ → List ℕ) → OneOf readable (tag_of reason.the_type r) → if_unreadable r text ≡ []
no_text (Unreadable f column) text h = absurd (miss readable 11 _ h)
no_text r text h = refl
