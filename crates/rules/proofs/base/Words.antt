-- What a line holds: the laws of its words.
-- Assumes nothing.
use mathlib.Core.Path.{◌≡◌, refl}
use mathlib.Core.Logic.{◌≢◌}
use Prim.Native.Nat.{ℕ, ◌≤◌, ◌<◌}
use native.Mathlib.Omega.{arith}
use Rattle.rules.specs.Data.{Data, span, read, put_word, line_of, word_of, last_address}

pub read_same : (d : Data) (i w : ℕ) → i < span → read (put_word d i w) i ≡ w
unfolding read put_word
read_same d i w h = refl

pub read_other : (d : Data) (i j w : ℕ) → i < span → j < span → j ≢ i → read (put_word d i w) j ≡ read d j
read_other d i j w h k n = absurd (n (omega arith))

pub word_small : (at : ℕ) → word_of at < span
word_small at = omega arith

pub line_small : (at : ℕ) → at ≤ last_address → line_of at < 64
line_small at h = omega arith

-- two words of one line stand at two places there
pub word_apart : (x y : ℕ) → x ≢ y → line_of x ≡ line_of y → word_of x ≢ word_of y
word_apart x y n e d = n e
