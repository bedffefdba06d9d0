-- Store with a VID, and plain store. A store of cache c acts with number a on the line of address x; d is the whole new version of that line.
-- Assumes nothing.
use Rattle.std.specs.Prelude.{Bool, cond, ◌&&◌, ◌||◌, ℕ, ltb, eqb, Option, Some, None}
use Rattle.rules.specs.declared.State.TheVariants.{M, SM, SO}
use Rattle.rules.specs.declared.Line.{Line}
use Rattle.rules.specs.declared.Machine.{Machine}
use Rattle.rules.specs.declared.Pos.{Pos}
use Rattle.rules.specs.declared.Answer.TheVariants.{Done, Misspec}
use Rattle.rules.specs.declared.Answered.{Answered}
use Rattle.rules.specs.Data.{Data, put_word}
use Rattle.rules.specs.States.{is_sm, is_so}
use Rattle.rules.specs.Line.{line, empty, is_owner, is_share}
use Rattle.rules.specs.Machine.{at, drop, put, find, gives, place, place_two}
use Rattle.rules.specs.Abort.{abort_of}
use Rattle.rules.specs.Load.{plain_data, view, is_of}

-- "Owner S-O, or a < h in S-M or S-E: misspeculation."
unfoldable pub misspeculates : ℕ → Line → Bool
misspeculates a l = is_so l.state || ltb a l.h

-- S-M (a, a) with the new word
abbrev pub version : ℕ → ℕ → Data → Line
version x a d = line SM x a a d

-- the line l of an owner with its h set to a, as an S-O
abbrev pub closed : ℕ → Line → Line
closed a l = line SO l.address l.m a l.word

-- "S-S lines with that m drop": those of the owner at o. "(S-S drops are at that address only.)"
abbrev pub bared : Machine → ℕ → Pos → Machine
bared μ x o = drop (λ p l. is_share x (at μ o).m l) μ

-- "owner S-M with a = m: it and all S-S lines with that m drop, the asker places S-M (a, a)"
unfoldable pub store_over : Machine → ℕ → ℕ → ℕ → Data → Pos → Answered
store_over μ c a x d o = place μ Done c (version x a d) (put o empty (bared μ x o))

-- "owner with a > m: it becomes S-O (m, a) in its slot, S-S lines with that m drop, the asker places S-M (a, a) with the new word"
unfoldable pub store_split : Machine → ℕ → ℕ → ℕ → Data → Pos → Answered
store_split μ c a x d o = place μ Done c (version x a d) (put o (closed a (at μ o)) (bared μ x o))

-- "No speculative line live: all lines of the address drop; the asker places S-O (0, a) with the old word, then S-M (a, a)."
unfoldable pub store_new : Machine → ℕ → ℕ → ℕ → Data → Answered
store_new μ c a x d = place_two μ Done c (line SO x 0 a (plain_data μ x)) (version x a d) (drop (is_of x) μ)

unfoldable pub store_owned : Machine → ℕ → ℕ → ℕ → Data → Pos → Answered
store_owned μ c a x d o =
    cond (misspeculates a (at μ o)) (gives Misspec (abort_of μ))
    (cond (is_sm (at μ o).state && eqb a (at μ o).m) (store_over μ c a x d o) (store_split μ c a x d o))

abbrev pub store_by : Machine → ℕ → ℕ → ℕ → Data → Option Pos → Answered
store_by μ c a x d (Some o) = store_owned μ c a x d o
store_by μ c a x d None = store_new μ c a x d

-- "Owner S-O, or S-M or S-E with h > LCVID: misspeculation."
abbrev pub misspeculates_plain : Machine → Line → Bool
misspeculates_plain μ l = misspeculates μ.lcvid l

-- "Else all lines of the address drop, the asker places M."
unfoldable pub store_m : Machine → ℕ → ℕ → Data → Answered
store_m μ c x d = place μ Done c (line M x 0 0 d) (drop (is_of x) μ)

abbrev pub store_plain_by : Machine → ℕ → ℕ → Data → Option Pos → Answered
store_plain_by μ c x d (Some o) = cond (misspeculates_plain μ (at μ o)) (gives Misspec (abort_of μ)) (store_m μ c x d)
store_plain_by μ c x d None = store_m μ c x d

unfoldable pub store_of : Machine → Bool → ℕ → ℕ → ℕ → Data → Answered
store_of μ vid c a x d = cond vid (store_by μ c a x d (find (λ p l. is_owner x a l) μ)) (store_plain_by μ c x d (find (λ p l. is_owner x a l) μ))

-- the new version: what a load would see, with the word at place i replaced
unfoldable pub new_data : Machine → ℕ → ℕ → ℕ → ℕ → Data
new_data μ a x i w = put_word (view μ x a) i w
