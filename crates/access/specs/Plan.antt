-- A plan carried out, and what makes one right: carried out on a machine of which its facts hold, it is the rule.
-- Assumes nothing.
use Rattle.std.specs.Prelude.{◌≡◌, Bool, ℕ, Option, Some, None, Result, Ok, Err}
use Rattle.rules.specs.declared.Held.{Held}
use Rattle.rules.specs.declared.Line.{Line}
use Rattle.rules.specs.declared.Machine.{Machine}
use Rattle.rules.specs.declared.Pos.{Pos}
use Rattle.rules.specs.declared.Answer.{Answer}
use Rattle.rules.specs.declared.Answer.TheVariants.{Refused}
use Rattle.rules.specs.declared.Answered.{Answered}
use Rattle.rules.specs.declared.Reason.{Reason}
use Rattle.rules.specs.Data.{Data}
use Rattle.rules.specs.Machine.{memory_at, change, put, find, gives, place, place_two}
use Rattle.moves.specs.declared.changes.Change.TheVariants.{Stay}
use Rattle.moves.specs.Change.{changed}
use Rattle.access.specs.declared.ask.Asked.{Asked}
use Rattle.access.specs.declared.plans.Places.{Places}
use Rattle.access.specs.declared.plans.Places.TheVariants.{Nothing, One, Two}
use Rattle.access.specs.declared.plans.Plan.{Plan}
use Rattle.access.specs.Look.{owning, any_plain, held_at, seen_of}
use Rattle.access.specs.Search.{ActsAs}

-- ---- a plan carried out

-- a line put in its slot
abbrev pub putting : Option Held → Machine → Machine
putting (Some h) μ = put h.place h.line μ
putting None μ = μ

-- the lines placed in δ, which is μ after the change
abbrev pub placing : Machine → Answer → ℕ → Places → Machine → Answered
placing μ r c Nothing δ = gives r δ
placing μ r c (One l) δ = place μ r c l δ
placing μ r c (Two k l) δ = place_two μ r c k l δ

-- the same in a machine itself, which is δ before and ε after: where the lines don't fit, a refusal comes of it, and μ comes back
abbrev pub landed : Machine → Answer → Machine → Result (Unit {0}) Reason → Answered
landed μ r ε (Ok u) = gives r ε
landed μ r ε (Err e) = gives (Refused e) μ

abbrev pub Lands : ℕ → Places → Machine → Machine → Result (Unit {0}) Reason → Type 0
Lands c p δ ε got = (μ : Machine) (r : Answer) → landed μ r ε got ≡ placing μ r c p δ

unfoldable pub carried : Machine → ℕ → Plan → Answered
carried μ c p = placing μ p.answer c p.places (change (changed p.change) (putting p.put μ))

-- an answer, and nothing changes
abbrev pub answering : Answer → Plan
answering r = record { answer = r; put = None; change = Stay; places = Nothing }

-- ---- a plan that is right

-- the plan of cache c is the rule on every machine of which the facts hold
abbrev pub Carries : (Machine → Type 0) → (Machine → Answered) → ℕ → Plan → Type 0
Carries facts rule c p = (μ : Machine) → facts μ → carried μ c p ≡ rule μ

-- a plan that is right for every cache
abbrev pub AnyCarries : (ℕ → Machine → Type 0) → (ℕ → Machine → Answered) → Plan → Type 0
AnyCarries facts rule p = (c : ℕ) → Carries (facts c) (rule c) c p

-- what a load sees: a look over the machine and memory told it
pub record Sees (k : Asked) (μ : Machine) : Type 0 where
  pub seen : k.seen ≡ seen_of μ k.access.cache k.access.a k.access.x
  pub memory : k.memory ≡ memory_at μ k.access.x

-- the first line of a kind
abbrev pub Holds : Machine → (Pos → Line → Bool) → Option Held → Type 0
Holds μ t h = h ≡ held_at μ (find t μ)

-- what a store needs to see: the owner, a plain line of the address and memory; and a plain store acts with LCVID
pub record StoreSees (k : Asked) (o : Option Held) (μ : Machine) : Type 0 where
  pub owner : Holds μ (owning k.access.x k.access.a) o
  pub plain : Holds μ (any_plain k.access.x) k.seen.plain
  pub memory : k.memory ≡ memory_at μ k.access.x
  pub acts : ActsAs μ k.access.vid k.access.a

-- the word of what was found, else the other
abbrev pub held_word : Option Held → Data → Data
held_word (Some h) d = h.line.word
held_word None d = d
