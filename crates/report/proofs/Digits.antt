-- The digits of a number are those that std prints.
-- Assumes nothing.
use mathlib.Core.Path.{◌≡◌, sym}
use Prim.Native.Nat.{ℕ, ◌≤◌, ◌<◌, ◌^◌}
use native.Mathlib.Omega.{arith}
use borrow.Author.Tests.{lt-ltb, le-ltb}
use lib.ListN.{length}
use Rattle.std.specs.Fmt.{decimal as printed}
use Rattle.std.proofs.lemmas.Fmt.{AppendsLastDigit, decimal_from_appends, length-decimal-le}
use Rattle.rules.specs.Text.{last_digits, decimal}

-- a number of one digit is that digit; one of more is what stands before its last digit, and that
pub appends : AppendsLastDigit last_digits
unfolding last_digits
appends = record {
  one = λ k n h. rw (lt-ltb n 10 h);
  more = λ k n h. rw (le-ltb n 10 h);
}

pub is_decimal : (n : ℕ) → n < 2 ^ 64 → printed n ≡ decimal n
is_decimal n h = sym (decimal_from_appends last_digits appends 20 n h (length-decimal-le 20 n (omega arith) (omega arith) h))

-- a number below 10^k has at most k digits
pub decimal_below : (k n : ℕ) → 0 < k → n < 10 ^ k → n < 2 ^ 64 → length (decimal n) ≤ k
decimal_below k n some few h = rw (← is_decimal n h) (length-decimal-le k n some few h)

pub decimal_length : (n : ℕ) → n < 2 ^ 64 → length (decimal n) ≤ 20
decimal_length n h = decimal_below 20 n (omega arith) (omega arith) h
