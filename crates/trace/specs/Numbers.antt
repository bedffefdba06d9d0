-- "Numbers are decimal, no leading zero, at most 18446744073709551615", and the keys before them; what is wrong where one can't be read, and at which place.
-- Assumes nothing.
use Rattle.std.specs.Prelude.{Bool, false, cond, ◌&&◌, not, List, [], ◌∷◌, ℕ, ◌+◌, ◌-◌, ◌*◌, ◌^◌, ltb, leb, eqb, length, drop, zip, Result, Ok, Err}
use Rattle.std.specs.List.{prefix_len}
use Rattle.rules.specs.declared.Fault.{Fault}
use Rattle.rules.specs.declared.Fault.TheVariants.{WrongKey, BadNumber, NumberTooLarge, KeyNotZero, NoLineEnd}
use Rattle.trace.specs.declared.numbers.Number.{Number}
use Rattle.trace.specs.declared.numbers.Wrong.{Wrong}

-- ---- what reading comes to

-- something that is read and the place after it, or what is wrong and at which place
abbrev pub Parsed : Type 0 → Type 0
Parsed A = Result A Wrong

-- a number that is read, and the place after it
abbrev pub found : ℕ → ℕ → Parsed Number
found n next = Ok (record { value = n; next = next })

abbrev pub wrong : {A : Type 0} → Fault → ℕ → Parsed A
wrong f place = Err (record { fault = f; place = place })

-- what is read is followed by more
infixl 10 ◌>>=◌
abbrev pub ◌>>=◌ : {A B E : Type 0} → Result A E → (A → Result B E) → Result B E
Ok a >>= then = then a
Err e >>= then = Err e

-- ---- keys

-- how many bytes of the key the text begins with
unfoldable pub agreeing : List ℕ → List ℕ → ℕ
agreeing key s = prefix_len (λ p. eqb p.1 p.0) (zip key s)

-- 12a: "any fixed text or op name broken off"; 12e: the text "ends inside a line"
abbrev pub key_fault : List ℕ → Fault
key_fault [] = NoLineEnd
key_fault (b ∷ s) = WrongKey

-- ---- numbers

abbrev pub is_digit : ℕ → Bool
is_digit b = leb 48 b && leb b 57

-- the number whose digits so far are v, from place i on, where the text s is left; 12c: "the digit that first passes the limit"
unfoldable pub digits_from : ℕ → ℕ → List ℕ → Parsed Number
digits_from v i [] = found v i
digits_from v i (b ∷ s) =
    cond (not (is_digit b)) (found v i)
    (cond (ltb (v * 10 + (b - 48)) (2 ^ 64)) (digits_from (v * 10 + (b - 48)) (i + 1) s) (wrong NumberTooLarge i))

-- no digit follows a 0; 12b: "a digit after a leading zero"
abbrev pub after_zero : ℕ → List ℕ → Parsed Number
after_zero i [] = found 0 i
after_zero i (b ∷ s) = cond (is_digit b) (wrong BadNumber i) (found 0 i)

-- 0 alone; else, for a key that the op uses, digits that don't begin with 0; at least one. 12b: "no digit where one must stand"; 12d: "key not zero where it must be ..., its first digit"
abbrev pub number_in : Bool → ℕ → List ℕ → Parsed Number
number_in used i [] = wrong NoLineEnd i
number_in used i (b ∷ s) =
    cond (not (is_digit b)) (wrong BadNumber i)
    (cond (eqb b 48) (after_zero (i + 1) s)
    (cond used (digits_from 0 i (b ∷ s)) (wrong KeyNotZero i)))

unfoldable pub number_at : Bool → List ℕ → ℕ → Parsed Number
number_at used s at = number_in used at (drop at s)

-- a key and a number behind it
unfoldable pub field_at : List ℕ → Bool → List ℕ → ℕ → Parsed Number
field_at key used s at = cond (eqb n (length key)) (number_at used s (at + n)) (wrong (key_fault (drop (at + n) s)) (at + n))
  where
    n : ℕ
    n = agreeing key (drop at s)

-- ---- "each line ended by one LF"

abbrev pub starts_lf : List ℕ → Bool
starts_lf [] = false
starts_lf (b ∷ s) = eqb b 10

-- the place after the LF that stands at a place
unfoldable pub line_end : List ℕ → ℕ → Parsed ℕ
line_end s at = cond (starts_lf (drop at s)) (Ok (at + 1)) (wrong NoLineEnd at)
