-- One address x: a machine as a function from places to lines, when its lines of x are sound, and what number a sees there.
-- Soundness is what any two live lines owe each other (`Stand`) and what a live line needs beside it (`Meets`); w is what memory holds at x.
-- Assumes nothing.
use mathlib.Core.Path.{◌≡◌}
use mathlib.Core.Logic.{◌≢◌, ◌⊎◌}
use mathlib.Core.Bool.{true, ◌||◌}
use Prim.Native.Nat.{ℕ, suc, ◌≤◌, ◌<◌, max}
use Rattle.rules.specs.declared.Line.{Line}
use Rattle.rules.specs.declared.Pos.{Pos}
use Rattle.rules.specs.Data.{Data}
use Rattle.rules.specs.States.{is_o, is_e, is_s, is_so, is_se, is_ss, plain, spec, top, owns, stands}
use Rattle.rules.specs.House.{LineRules}
use Rattle.rules.proofs.base.Lines.{Here, Hits}

-- ---- two lines, k at p and l at q

-- the ranges of two owners lie one behind the other
abbrev pub Disjoint : Line → Line → Type 0
Disjoint k l = ((is_so k.state ≡ true) × (k.h ≤ l.m)) ⊎ ((is_so l.state ≡ true) × (l.h ≤ k.m))

pub record Stand (p q : Pos) (k l : Line) : Type 0 where
  pub table : stands k.state l.state ≡ true
  -- plain lines are in different caches, and agree
  pub plains : plain k.state ≡ true → (p.cache ≢ q.cache) × (k.word ≡ l.word)
  pub ranges : owns k.state ≡ true → owns l.state ≡ true → Disjoint k l
  pub shares : is_ss k.state ≡ true → is_ss l.state ≡ true → p.cache ≡ q.cache → k.m ≢ l.m

-- the S-S line k at p has its owner line l at q
pub record OwnedBy (lc : ℕ) (p : Pos) (k : Line) (q : Pos) (l : Line) : Type 0 where
  pub owning : owns l.state ≡ true
  pub same_m : l.m ≡ k.m
  pub away : q.cache ≢ p.cache
  pub same_word : l.word ≡ k.word
  pub reach : k.h ≤ suc (max l.h lc)
  pub within : is_so l.state ≡ true → k.h ≤ l.h

-- ---- the lines of an address

-- a live line of x of which P holds
abbrev pub There : (Pos → Line) → ℕ → ℕ → (Pos → Line → Type 0) → Type 0
There f lc x P = (q : Pos) × Here lc x (f q) × P q (f q)

abbrev pub IsO : Pos → Line → Type 0
IsO q l = is_o l.state ≡ true

abbrev pub Top : Pos → Line → Type 0
Top q l = top l.state ≡ true

-- an owner that starts at or below LCVID; one that starts at b
abbrev pub Low : ℕ → Pos → Line → Type 0
Low lc q l = (owns l.state ≡ true) × (l.m ≤ lc)

abbrev pub From : ℕ → Pos → Line → Type 0
From b q l = (owns l.state ≡ true) × (l.m ≡ b)

pub record Meets (f : Pos → Line) (lc x : ℕ) (w : Data) (p : Pos) (k : Line) : Type 0 where
  -- E and S-E equal memory; so does S, unless it stands beside O
  pub clean : (is_e k.state || is_se k.state) ≡ true → k.word ≡ w
  pub shared : is_s k.state ≡ true → (k.word ≡ w) ⊎ There f lc x IsO
  -- a speculative line has the newest version, and an owner for LCVID; an S-O what follows it; an S-S its owner line
  pub newest : spec k.state ≡ true → There f lc x Top
  pub lowest : spec k.state ≡ true → There f lc x (Low lc)
  pub next : is_so k.state ≡ true → There f lc x (From k.h)
  pub owner : is_ss k.state ≡ true → There f lc x (OwnedBy lc p k)

pub record SoundAt (f : Pos → Line) (lc x : ℕ) (w : Data) : Type 0 where
  pub stand : (p q : Pos) → p ≢ q → Here lc x (f p) → Here lc x (f q) → Stand p q (f p) (f q)
  pub meets : (p : Pos) → Here lc x (f p) → Meets f lc x w p (f p)

-- sound at x, and every line of the machine keeps the rules of a line, with VIDs below N
pub record GoodAt (N : ℕ) (f : Pos → Line) (lc x : ℕ) (w : Data) : Type 0 where
  pub fits : (p : Pos) → LineRules N (f p)
  pub sound : SoundAt f lc x w

-- ---- what number a sees

-- p holds the owner for a
pub record OwnerAt (f : Pos → Line) (lc x a : ℕ) (p : Pos) : Type 0 where
  pub here : Here lc x (f p)
  pub owning : owns (f p).state ≡ true
  pub hit : Hits a (f p)

-- a live line past which number a sees memory's word w: a plain line holds that word, an owner starts above a
pub record Passes (a : ℕ) (w : Data) (l : Line) : Type 0 where
  pub same : plain l.state ≡ true → l.word ≡ w
  pub later : owns l.state ≡ true → a < l.m

-- the owner's word; else that of a plain line; memory is the version below every owner
pub data Sees (f : Pos → Line) (lc x : ℕ) (w : Data) (a : ℕ) (v : Data) : Type 0 where
  from_owner : (p : Pos) → OwnerAt f lc x a p → v ≡ (f p).word → Sees f lc x w a v
  from_plain : (p : Pos) → Here lc x (f p) → plain (f p).state ≡ true → v ≡ (f p).word → Sees f lc x w a v
  from_memory : ((p : Pos) → Here lc x (f p) → Passes a w (f p)) → v ≡ w → Sees f lc x w a v

-- ---- what has been read or written

-- a number b or a later one has read or written x in this flight: b is at most the h of the newest version
abbrev pub Mark : (Pos → Line) → ℕ → ℕ → ℕ → Type 0
Mark f lc x b = There f lc x (λ q l. (top l.state ≡ true) × (b ≤ l.h))

-- ---- what a step does at x

-- it changes nothing that is seen, loses no mark above LCVID, and makes none but up to a
pub record KeepsAt (f g : Pos → Line) (lc x a : ℕ) (w u : Data) : Type 0 where
  pub sound : SoundAt g lc x u
  pub sees : (b : ℕ) (v : Data) → lc ≤ b → Sees f lc x w b v → Sees g lc x u b v
  pub keeps : (b : ℕ) → lc < b → Mark f lc x b → Mark g lc x b
  pub made : (b : ℕ) → lc < b → Mark g lc x b → Mark f lc x b ⊎ (b ≤ a)

-- it sets what is seen from a up to v, below a changes nothing, stands at or above every mark, and leaves marks up to a
pub record WritesAt (f g : Pos → Line) (lc x a : ℕ) (w v : Data) : Type 0 where
  pub sound : SoundAt g lc x w
  pub above : (b : ℕ) → lc < b → Mark f lc x b → b ≤ a
  pub set : (b : ℕ) → a ≤ b → Sees g lc x w b v
  pub before : (b : ℕ) (u : Data) → lc ≤ b → b < a → Sees f lc x w b u → Sees g lc x w b u
  pub marks : (b : ℕ) → lc < b → b ≤ a → Mark g lc x b
  pub made : (b : ℕ) → lc < b → Mark g lc x b → b ≤ a
