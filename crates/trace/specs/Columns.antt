-- Request 2026-01: "the first byte that can't continue any good line", and the kinds of what is wrong there.
-- Assumes nothing.
use Rattle.std.specs.Prelude.{◌≡◌, true, false, cond, List, [], ◌∷◌, ◌++◌, ◌⊎◌, ℕ, ◌+◌, ◌-◌, ◌*◌, ◌^◌, ◌≤◌, length}
use Rattle.rules.specs.declared.Fault.{Fault}
use Rattle.rules.specs.declared.Fault.TheVariants.{WrongKey, BadNumber, NumberTooLarge, KeyNotZero, NoLineEnd}
use Rattle.rules.specs.declared.Op.{Op}
use Rattle.rules.specs.Text.{decimal}
use Rattle.trace.specs.Numbers.{is_digit}
use Rattle.trace.specs.Written.{first_text, step_text, Small, Fits}

-- ---- good lines, as they are written

-- the first line
pub record GoodFirst (line : List ℕ) : Type 0 where
  pub caches : ℕ
  pub fits : Small caches
  pub written : line ≡ first_text caches

-- a step's line
pub record GoodStep (line : List ℕ) : Type 0 where
  pub op : Op
  pub fits : Fits op
  pub written : line ≡ step_text op

-- ---- the number that bytes end with

-- the digits at the end of p, in front of them ds
unfoldable pub last_number : List ℕ → List ℕ → List ℕ
last_number ds [] = ds
last_number ds (b ∷ p) = cond (is_digit b) (last_number (ds ++ (b ∷ [])) p) (last_number [] p)

abbrev pub number : List ℕ → List ℕ
number p = last_number [] p

-- 12c: "number too large": b is "the digit that first passes the limit"
pub record IsTooLarge (p : List ℕ) (b : ℕ) : Type 0 where
  pub value : ℕ
  pub so_far : number p ≡ decimal value
  pub fits : Small value
  pub digit : is_digit b ≡ true
  pub passes : 2 ^ 64 ≤ value * 10 + (b - 48)

module _ (Good : List ℕ → Type 0) where
  -- ---- how good lines go on

  -- some good line starts with the bytes p
  abbrev pub Starts : List ℕ → Type 0
  Starts p = (more : List ℕ) × Good (p ++ more)

  -- some good line starts with them and b
  abbrev pub Continues : List ℕ → ℕ → Type 0
  Continues p b = Starts (p ++ (b ∷ []))

  -- "can't continue any good line"; or no byte is left
  abbrev pub Stops : List ℕ → List ℕ → Type 0
  Stops p [] = Unit
  Stops p (b ∷ rest) = Continues p b → ⊥

  -- ---- the kinds: the bytes p start a good line and are not yet one, and b can't continue any

  -- 12a: "wrong key (any fixed text or op name broken off)": text goes on there, which is neither a digit nor LF; and b is no digit behind a number
  pub record IsWrongKey (p : List ℕ) (b : ℕ) : Type 0 where
    pub due : ℕ
    pub goes : Continues p due
    pub text : is_digit due ≡ false
    pub not_last : Continues p 10 → ⊥
    pub no_number : is_digit b ≡ true → number p ≡ []

  -- 12b: "no digit where one must stand, or a digit after a leading zero"
  abbrev pub IsBadNumber : List ℕ → ℕ → Type 0
  IsBadNumber p b = ((is_digit b ≡ false) × ((c : ℕ) → Continues p c → is_digit c ≡ true)) ⊎ ((is_digit b ≡ true) × (number p ≡ 48 ∷ []))

  -- 12d: "key not zero where it must be": b is "its first digit"
  pub record IsNotZero (p : List ℕ) (b : ℕ) : Type 0 where
    pub first : number p ≡ []
    pub digit : is_digit b ≡ true
    pub only_zero : (c : ℕ) → Continues p c → c ≡ 48

  -- 12e: "another byte than a digit or LF after a digit of the line's last number"
  abbrev pub IsBehind : List ℕ → ℕ → Type 0
  IsBehind p b = (is_digit b ≡ false) × Continues p 10

  -- behind p is the text rest; 12e also where "the text is empty or ends inside a line"
  abbrev pub KindOf : Fault → List ℕ → List ℕ → Type 0
  KindOf f p [] = f ≡ NoLineEnd
  KindOf WrongKey p (b ∷ rest) = IsWrongKey p b
  KindOf BadNumber p (b ∷ rest) = IsBadNumber p b
  KindOf NumberTooLarge p (b ∷ rest) = IsTooLarge p b
  KindOf KeyNotZero p (b ∷ rest) = IsNotZero p b
  KindOf NoLineEnd p (b ∷ rest) = IsBehind p b

  -- ---- where a text breaks

  -- the text begins with no good line; "the byte column, from 1, of the first byte that can't continue any good line", or "one past the last byte"; and the kind
  pub record Breaks (text : List ℕ) (fault : Fault) (column : ℕ) : Type 0 where
    pub none : (line behind : List ℕ) → Good line → text ≡ line ++ behind → ⊥
    pub before : List ℕ
    pub rest : List ℕ
    pub parts : text ≡ before ++ rest
    pub counted : column ≡ length before + 1
    pub starts : Starts before
    pub stops : Stops before rest
    pub kind : KindOf fault before rest
