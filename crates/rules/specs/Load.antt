-- Load: three cases, by whether speculative lines live and whether the load is plain.
-- A load of cache c acts with number a on the line of address x, and returns the word at place i of it; `vid` says that it is not plain.
-- Where speculative lines live there is exactly one owner for a, and else none (law `owner_exactly_one`), so a search for it tells the cases apart.
-- Assumes nothing.
use Rattle.std.specs.Prelude.{Bool, cond, ◌&&◌, ℕ, suc, max, eqb, Option, Some, None}
use Rattle.rules.specs.declared.State.{State}
use Rattle.rules.specs.declared.State.TheVariants.{I, M, O, E, S, SM, SO, SE, SS}
use Rattle.rules.specs.declared.Line.{Line}
use Rattle.rules.specs.declared.Machine.{Machine}
use Rattle.rules.specs.declared.Pos.{Pos}
use Rattle.rules.specs.declared.Answer.{Answer}
use Rattle.rules.specs.declared.Answer.TheVariants.{Value}
use Rattle.rules.specs.declared.Answered.{Answered}
use Rattle.rules.specs.Data.{Data, read}
use Rattle.rules.specs.States.{is_ss, top, dirty}
use Rattle.rules.specs.Line.{line, hits, is_owner, is_plain, is_share}
use Rattle.rules.specs.Machine.{at, memory_at, change, drop, put, find, any_line, gives, place}

-- its word is the value
abbrev pub value_of : Line → ℕ → Answer
value_of l i = Value (read l.word i)

-- ---- "Load, plain or not, speculative lines live."

-- "Unless plain, an owner in S-M or S-E that was read takes the larger of h and a as its h."
unfoldable pub read_by : ℕ → Line → Line
read_by a l = cond (top l.state) (line l.state l.address l.m (max l.h a) l.word) l

unfoldable pub after_read : Machine → Bool → ℕ → Pos → Machine
after_read μ vid a o = cond vid (put o (read_by a (at μ o)) μ) μ

-- "an S-S that hits", in the asking cache
unfoldable pub is_own_share : ℕ → ℕ → ℕ → Pos → Line → Bool
is_own_share c x a p l = eqb p.cache c && (is_ss l.state && (eqb l.address x && hits a l))

-- "its own S-S lines with that m at that address"
unfoldable pub is_stale_share : ℕ → ℕ → ℕ → Pos → Line → Bool
is_stale_share c x m p l = eqb p.cache c && is_share x m l

-- "S-S (m, a + 1)", with the word of the owner's line l
abbrev pub share_line : ℕ → ℕ → Line → Line
share_line x a l = line SS x l.m (suc a) l.word

-- the machine before it is placed: the owner read, the asker's own S-S lines with that m dropped
abbrev pub without_stale : Machine → Bool → ℕ → ℕ → ℕ → Pos → Machine
without_stale μ vid c a x o = drop (is_stale_share c x (at μ o).m) (after_read μ vid a o)

-- the asker does not hold the owner: an S-S of its own that hits, "otherwise the word is the owner's, and the asker drops its own S-S lines with that m
-- at that address and places S-S (m, a + 1)". "An S-S hit changes nothing."
abbrev pub load_away : Machine → Bool → ℕ → ℕ → ℕ → ℕ → Pos → Option Pos → Answered
load_away μ vid c a x i o (Some q) = gives (value_of (at μ q) i) μ
load_away μ vid c a x i o None = place μ (value_of (at μ o) i) c (share_line x a (at μ o)) (without_stale μ vid c a x o)

-- "If the asking cache holds the owner, or else an S-S that hits, its word is the value"
unfoldable pub load_owned : Machine → Bool → ℕ → ℕ → ℕ → ℕ → Pos → Answered
load_owned μ vid c a x i o = cond (eqb o.cache c) (gives (value_of (at μ o) i) (after_read μ vid a o)) (load_away μ vid c a x i o (find (is_own_share c x a) μ))

-- ---- "the word is that of the address's plain lines (they agree), else memory's"

abbrev pub data_at : Machine → Option Pos → Data → Data
data_at μ (Some p) d = (at μ p).word
data_at μ None d = d

unfoldable pub plain_data : Machine → ℕ → Data
plain_data μ x = data_at μ (find (λ p l. is_plain x l) μ) (memory_at μ x)

-- what number a sees at x: the owner's word, else that of the plain lines, else memory's
unfoldable pub view : Machine → ℕ → ℕ → Data
view μ x a = data_at μ (find (λ p l. is_owner x a l) μ) (plain_data μ x)

-- ---- "Plain load, otherwise."

-- "M elsewhere becomes O, E becomes S"
abbrev pub demote : State → State
demote = elim [ I ↦ I | M ↦ O | O ↦ O | E ↦ S | S ↦ S | SM ↦ SM | SO ↦ SO | SE ↦ SE | SS ↦ SS ]

unfoldable pub demote_line : ℕ → Line → Line
demote_line x l = cond (eqb l.address x) (line (demote l.state) l.address l.m l.h l.word) l

-- "if cached: ... the asker places S. Else the asker places E from memory."
abbrev pub load_cached : Machine → ℕ → ℕ → ℕ → Option Pos → Answered
load_cached μ c x i (Some q) = place μ (value_of (at μ q) i) c (line S x 0 0 (at μ q).word) (change (λ p l. demote_line x l) μ)
load_cached μ c x i None = place μ (Value (read (memory_at μ x) i)) c (line E x 0 0 (memory_at μ x)) μ

-- "A plain line of the asker gives the value, no change."
abbrev pub load_plain : Machine → ℕ → ℕ → ℕ → Option Pos → Answered
load_plain μ c x i (Some q) = gives (value_of (at μ q) i) μ
load_plain μ c x i None = load_cached μ c x i (find (λ p l. is_plain x l) μ)

-- ---- "Load with a VID, otherwise."

-- "All lines of the address drop."
unfoldable pub is_of : ℕ → Pos → Line → Bool
is_of x p l = eqb l.address x

-- "S-M (0, a) if one was M or O, else S-E (0, a)"
unfoldable pub is_dirty : Machine → ℕ → Bool
is_dirty μ x = any_line (λ p l. dirty l.state && eqb l.address x) μ

unfoldable pub load_new : Machine → ℕ → ℕ → ℕ → ℕ → Answered
load_new μ c a x i = place μ (Value (read (plain_data μ x) i)) c (line (cond (is_dirty μ x) SM SE) x 0 a (plain_data μ x)) (drop (is_of x) μ)

-- ---- the three cases

abbrev pub load_by : Machine → Bool → ℕ → ℕ → ℕ → ℕ → Option Pos → Answered
load_by μ vid c a x i (Some o) = load_owned μ vid c a x i o
load_by μ vid c a x i None = cond vid (load_new μ c a x i) (load_plain μ c x i (find (λ p l. eqb p.cache c && is_plain x l) μ))

unfoldable pub load_of : Machine → Bool → ℕ → ℕ → ℕ → ℕ → Answered
load_of μ vid c a x i = load_by μ vid c a x i (find (λ p l. is_owner x a l) μ)
