-- What each kind of step owes to a machine seen from outside: the last committed VID, the word that number a sees at an address, and the marks that
-- loads and stores leave there. Demand 3 is proved from these laws alone, for any machine that keeps them.
-- Assumes nothing.
use mathlib.Core.Path.{◌≡◌}
use mathlib.Core.Logic.{◌≢◌, ◌⊎◌}
use Prim.Native.Nat.{ℕ, suc, ◌≤◌, ◌<◌}
use Rattle.rules.specs.declared.Op.{Op}
use Rattle.rules.specs.declared.Op.TheVariants.{Load, Store, Commit, Abort, Reset, Evict}
use Rattle.rules.specs.declared.Answer.{Answer}
use Rattle.rules.specs.declared.Answer.TheVariants.{Value, Done, Misspec, Overflow, Refused}
use Rattle.rules.specs.Step.{acts_with}

-- `line` gives the line of an address; `Marked m x b`: the machine still knows that number b, or a later one, read or wrote the line of x
module _ (M : Type 0) (line : ℕ → ℕ) (lc : M → ℕ) (view : M → ℕ → ℕ → ℕ) (Marked : M → ℕ → ℕ → Type 0) where
  -- no number from the last committed one on sees another word
  abbrev pub SameView : M → M → Type 0
  SameView m n = (x a : ℕ) → lc n ≤ a → view n x a ≡ view m x a

  -- no mark above the last committed VID is lost; none is made; none is made but those up to a at the line of x
  abbrev pub KeepsMarks : M → M → Type 0
  KeepsMarks m n = (x b : ℕ) → lc n < b → Marked m x b → Marked n x b

  abbrev pub MakesNone : M → M → Type 0
  MakesNone m n = (x b : ℕ) → lc n < b → Marked n x b → Marked m x b

  abbrev pub MakesOnly : M → M → ℕ → ℕ → Type 0
  MakesOnly m n a x = (y b : ℕ) → lc n < b → Marked n y b → Marked m y b ⊎ ((line y ≡ line x) × (b ≤ a))

  -- a load with number a at x that returns w
  pub record Loads (N : ℕ) (m n : M) (a x w : ℕ) : Type 0 where
    pub small : a < N
    pub up : lc m ≤ a
    pub seen : w ≡ view m x a
    pub last : lc n ≡ lc m
    pub same : SameView m n
    pub keeps : KeepsMarks m n
    pub marks : lc m < a → Marked n x a
    pub made : MakesOnly m n a x

  -- an accepted store of w: at or above every mark of its address, it sets what is seen from its own number up and nothing else
  pub record Stores (N : ℕ) (m n : M) (a x w : ℕ) : Type 0 where
    pub small : a < N
    pub up : lc m ≤ a
    pub last : lc n ≡ lc m
    pub above : (b : ℕ) → lc m < b → Marked m x b → b ≤ a
    pub set : (b : ℕ) → a ≤ b → view n x b ≡ w
    pub before : (b : ℕ) → lc m ≤ b → b < a → view n x b ≡ view m x b
    pub others : (y b : ℕ) → y ≢ x → lc m ≤ b → view n y b ≡ view m y b
    pub keeps : KeepsMarks m n
    pub marks : lc m < a → Marked n x a
    pub made : MakesOnly m n a x

  pub record Commits (m n : M) (v : ℕ) : Type 0 where
    pub last : lc n ≡ v
    pub next : v ≡ suc (lc m)
    pub same : SameView m n
    pub keeps : KeepsMarks m n
    pub made : MakesNone m n

  -- what LCVID saw is left, and no mark
  pub record Aborts (m n : M) : Type 0 where
    pub last : lc n ≡ lc m
    pub back : (x a : ℕ) → lc m ≤ a → view n x a ≡ view m x (lc m)
    pub clear : (x b : ℕ) → Marked n x b → ⊥

  pub record Resets (m n : M) : Type 0 where
    pub last : lc n ≡ 0
    pub settled : (x b : ℕ) → Marked m x b → b ≤ lc m
    pub back : (x a : ℕ) → view n x a ≡ view m x (lc m)
    pub clear : (x b : ℕ) → Marked n x b → ⊥

  pub record Evicts (m n : M) : Type 0 where
    pub last : lc n ≡ lc m
    pub same : SameView m n
    pub keeps : KeepsMarks m n
    pub made : MakesNone m n

  -- ---- a step from m to n with its answer

  abbrev pub LawValue : ℕ → M → M → Op → ℕ → Type 0
  LawValue N m n (Load c v x) w = Loads N m n (acts_with (lc m) v) x w
  LawValue N m n (Store c v x d) w = ⊥
  LawValue N m n (Commit v) w = ⊥
  LawValue N m n Abort w = ⊥
  LawValue N m n Reset w = ⊥
  LawValue N m n (Evict c s) w = ⊥

  abbrev pub LawDone : ℕ → M → M → Op → Type 0
  LawDone N m n (Load c v x) = ⊥
  LawDone N m n (Store c v x w) = Stores N m n (acts_with (lc m) v) x w
  LawDone N m n (Commit v) = Commits m n v
  LawDone N m n Abort = Aborts m n
  LawDone N m n Reset = Resets m n
  LawDone N m n (Evict c s) = Evicts m n

  abbrev pub Law : ℕ → M → M → Op → Answer → Type 0
  Law N m n op (Value w) = LawValue N m n op w
  Law N m n op Done = LawDone N m n op
  Law N m n op Misspec = Aborts m n
  Law N m n op Overflow = Aborts m n
  Law N m n op (Refused r) = n ≡ m
