-- "House rules for a machine", in document 01's words. The law `house` says that the test that code computes (HouseTest.antt) decides them.
-- Assumes nothing.
use Rattle.std.specs.Prelude.{◌≡◌, ◌≢◌, ◌↔◌, ◌⊎◌, Bool, true, List, [], ◌∷◌, ℕ, suc, ◌≤◌, ◌<◌, max, length}
use Rattle.rules.specs.declared.State.{State}
use Rattle.rules.specs.declared.Line.{Line}
use Rattle.rules.specs.declared.Machine.{Machine}
use Rattle.rules.specs.declared.Pos.{Pos}
use Rattle.rules.specs.States.{is_i, is_o, is_e, is_s, is_so, is_se, is_ss, plain, spec, top, owns, stands}
use Rattle.rules.specs.Line.{empty, live}
use Rattle.rules.specs.Machine.{at, memory_at, vids}

-- what the types of the code say of a machine: four caches and 64 words
pub record Sized (μ : Machine) : Type 0 where
  pub caches : length μ.caches ≡ 4
  pub words : length μ.memory ≡ 64

-- ---- a line by itself; VIDs are below N, which is 64

pub record LineRules (N : ℕ) (l : Line) : Type 0 where
  -- "empty slots are zero"
  pub blank : is_i l.state ≡ true → l ≡ empty
  -- "plain lines have VIDs 0, 0"
  pub flat : plain l.state ≡ true → (l.m ≡ 0) × (l.h ≡ 0)
  -- "S-E has m = 0"
  pub zero : is_se l.state ≡ true → l.m ≡ 0
  -- "S-M and S-E have m ≤ h ≤ 63 and h ≥ 1"
  pub newest : top l.state ≡ true → (l.m ≤ l.h) × (l.h < N) × (1 ≤ l.h)
  -- "S-O has m < h ≤ 63"
  pub closed : is_so l.state ≡ true → (l.m < l.h) × (l.h < N)
  -- "S-S has m < h ≤ 64"
  pub shared : is_ss l.state ≡ true → (l.m < l.h) × (l.h ≤ N)

-- ---- "For each address, over live lines only"

-- p holds a live line of address x, of a class of states
pub record Lives (μ : Machine) (x : ℕ) (k : State → Bool) (p : Pos) : Type 0 where
  pub alive : live μ.lcvid (at μ p) ≡ true
  pub here : (at μ p).address ≡ x
  pub kind : k (at μ p).state ≡ true

abbrev pub any_state : State → Bool
any_state s = true

-- exactly one place
pub record One (P : Pos → Type 0) : Type 0 where
  pub place : Pos
  pub holds : P place
  pub only : (q : Pos) → P q → q ≡ place

-- "Every pair of states may stand together by a fixed table": two lines in two slots
abbrev pub Table : Machine → ℕ → Type 0
Table μ x = (p q : Pos) → p ≢ q → Lives μ x any_state p → Lives μ x any_state q → stands (at μ p).state (at μ q).state ≡ true

pub record PlainRules (μ : Machine) (x : ℕ) : Type 0 where
  -- "No cache holds two plain lines of it."
  pub apart : (p q : Pos) → p ≢ q → Lives μ x plain p → Lives μ x plain q → p.cache ≢ q.cache
  -- "E, and S where there is no O, equal memory"
  pub clean : (p : Pos) → Lives μ x is_e p → (at μ p).word ≡ memory_at μ x
  pub shared : (p : Pos) → Lives μ x is_s p → ((q : Pos) → Lives μ x is_o q → ⊥) → (at μ p).word ≡ memory_at μ x
  -- "S beside O equals O"
  pub beside : (p q : Pos) → Lives μ x is_s p → Lives μ x is_o q → (at μ p).word ≡ (at μ q).word

-- "join end to end up to": the ranges of these lines, from b on, each ending where the next begins, the last at e
abbrev pub Join : Machine → ℕ → List Pos → ℕ → Type 0
Join μ b [] e = b ≡ e
Join μ b (p ∷ ps) e = ((at μ p).m ≡ b) × Join μ (at μ p).h ps e

-- p is one of the list
abbrev pub Among : Pos → List Pos → Type 0
Among p [] = ⊥
Among p (q ∷ ps) = (p ≡ q) ⊎ Among p ps

-- "If any speculative line lives"
pub record VersionRules (μ : Machine) (x : ℕ) : Type 0 where
  -- "there is exactly one S-M or S-E"
  pub newest : One (Lives μ x top)
  -- "S-E equals memory"
  pub clean : Lives μ x is_se newest.place → (at μ newest.place).word ≡ memory_at μ x
  -- "the live S-O ranges from m to h join end to end up to the m of S-M": the list of them, from the lowest up
  pub ranges : List Pos
  pub all : (q : Pos) → Lives μ x is_so q ↔ Among q ranges
  pub lowest : ℕ
  pub join : Join μ lowest ranges (at μ newest.place).m
  -- "the lowest m is at most LCVID"
  pub low : lowest ≤ μ.lcvid

-- the owner line of the S-S at p: a live S-M, S-E or S-O of its address with its m
abbrev pub OwnerLine : Machine → ℕ → Pos → Pos → Type 0
OwnerLine μ x p q = Lives μ x owns q × ((at μ q).m ≡ (at μ p).m)

pub record ShareRules (μ : Machine) (x : ℕ) (p : Pos) : Type 0 where
  -- "Each S-S has exactly one owner line with its m, in another cache, with the same word."
  pub owner : One (OwnerLine μ x p)
  pub away : owner.place.cache ≢ p.cache
  pub same : (at μ owner.place).word ≡ (at μ p).word
  -- "Its h is at most the larger of the owner's h and LCVID, plus 1; for an S-O owner also at most the owner's h."
  pub reach : (at μ p).h ≤ suc (max (at μ owner.place).h μ.lcvid)
  pub within : is_so (at μ owner.place).state ≡ true → (at μ p).h ≤ (at μ owner.place).h
  -- "No cache holds two with the same m."
  pub single : (q : Pos) → Lives μ x is_ss q → q.cache ≡ p.cache → (at μ q).m ≡ (at μ p).m → q ≡ p

pub record AddressRules (μ : Machine) (x : ℕ) : Type 0 where
  pub table : Table μ x
  pub plains : PlainRules μ x
  pub versions : (p : Pos) → Lives μ x spec p → VersionRules μ x
  pub shares : (p : Pos) → Lives μ x is_ss p → ShareRules μ x p

-- ---- "A machine handed in is sound when"

pub record House (μ : Machine) : Type 0 where
  -- "the cache count is 1 to 4"
  pub some : 1 ≤ μ.count
  pub few : μ.count ≤ 4
  -- "unused caches are empty"
  pub unused : (p : Pos) → μ.count ≤ p.cache → at μ p ≡ empty
  -- "and LCVID ≤ 63"
  pub last : μ.lcvid < vids μ
  -- "addresses are below 64"
  pub addresses : (p : Pos) → (at μ p).address < 64
  pub lines : (p : Pos) → LineRules (vids μ) (at μ p)
  pub each : (x : ℕ) → AddressRules μ x
