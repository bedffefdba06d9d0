-- The digits are the bytes from 48 to 57; a number read digit by digit, and by its first byte.
-- Assumes nothing.
use mathlib.Core.Path.{◌≡◌}
use mathlib.Core.Bool.{Bool, true, false}
use mathlib.Core.List.{List}
use Prim.Native.Nat.{ℕ, ◌+◌, ◌-◌, ◌*◌, ◌^◌, ◌≤◌, ◌<◌}
use native.Mathlib.Numerals.{add-one}
use borrow.Author.Tests.{leb-true, lt-ltb, le-ltb, ne_eqb}
use lib.Dec.{leb}
use lib.ListN.{length, get_or, drop, drop_of_length-le}
use lib.Seq.{drop-cons}
use Rattle.rules.specs.declared.Fault.TheVariants.{BadNumber, NumberTooLarge, KeyNotZero, NoLineEnd}
use Rattle.std.proofs.lemmas.Bool.{and_parts}
use Rattle.trace.specs.Numbers.{found, wrong, is_digit, digits_from, number_at}

pub digit_least : (b : ℕ) → is_digit b ≡ true → 48 ≤ b
digit_least b e = leb-true 48 b ((and_parts (leb 48 b) (leb b 57) e).0)

pub digit_most : (b : ℕ) → is_digit b ≡ true → b ≤ 57
digit_most b e = leb-true b 57 ((and_parts (leb 48 b) (leb b 57) e).1)

-- ---- digit by digit

module _ (s : List ℕ) (v i b : ℕ) (inside : i < length s) (is : get_or s i 0 ≡ b) where
  pub digits_end : is_digit b ≡ false → digits_from v i (drop i s) ≡ found v i
  unfolding digits_from
  digits_end e = rw (drop-cons s i 0 inside, is, e)

  pub digits_large : is_digit b ≡ true → 2 ^ 64 ≤ v * 10 + (b - 48) → digits_from v i (drop i s) ≡ wrong NumberTooLarge i
  unfolding digits_from
  digits_large e g = rw (drop-cons s i 0 inside, is, e, le-ltb (v * 10 + (b - 48)) (2 ^ 64) g)

  pub digits_more : is_digit b ≡ true → v * 10 + (b - 48) < 2 ^ 64 → digits_from v i (drop i s) ≡ digits_from (v * 10 + (b - 48)) (i + 1) (drop (i + 1) s)
  unfolding digits_from
  digits_more e g = rw (drop-cons s i 0 inside, add-one i, is, e, lt-ltb (v * 10 + (b - 48)) (2 ^ 64) g)

pub digits_stop : (s : List ℕ) (v i : ℕ) → length s ≤ i → digits_from v i (drop i s) ≡ found v i
unfolding digits_from
digits_stop s v i h = rw (drop_of_length-le s h)

-- ---- a number, by its first byte

module _ (used : Bool) (s : List ℕ) (at : ℕ) where
  pub number_past : length s ≤ at → number_at used s at ≡ wrong NoLineEnd at
  unfolding number_at
  number_past h = rw (drop_of_length-le s h)

  module _ (inside : at < length s) where
    pub number_none : is_digit (get_or s at 0) ≡ false → number_at used s at ≡ wrong BadNumber at
    unfolding number_at
    number_none e = rw (drop-cons s at 0 inside, e)

    -- a digit that isn't 0
    module _ (digit : is_digit (get_or s at 0) ≡ true) (some : get_or s at 0 ≡ 48 → ⊥) where
      pub number_many : used ≡ true → number_at used s at ≡ digits_from 0 at (drop at s)
      unfolding number_at
      number_many u = rw (drop-cons s at 0 inside, digit, ne_eqb (get_or s at 0) 48 some, u)

      pub number_unused : used ≡ false → number_at used s at ≡ wrong KeyNotZero at
      unfolding number_at
      number_unused u = rw (drop-cons s at 0 inside, digit, ne_eqb (get_or s at 0) 48 some, u)

    module _ (zero : get_or s at 0 ≡ 48) where
      pub zero_last : length s ≤ at + 1 → number_at used s at ≡ found 0 (at + 1)
      unfolding number_at
      zero_last h = rw (drop-cons s at 0 inside, zero, ← add-one at, drop_of_length-le s h)

      pub zero_leads : at + 1 < length s → is_digit (get_or s (at + 1) 0) ≡ true → number_at used s at ≡ wrong BadNumber (at + 1)
      unfolding number_at
      zero_leads g e = rw (drop-cons s at 0 inside, zero, ← add-one at, drop-cons s (at + 1) 0 g, e)

      pub zero_alone : at + 1 < length s → is_digit (get_or s (at + 1) 0) ≡ false → number_at used s at ≡ found 0 (at + 1)
      unfolding number_at
      zero_alone g e = rw (drop-cons s at 0 inside, zero, ← add-one at, drop-cons s (at + 1) 0 g, e)
