-- What a line holds: one word. Only this file and its laws (proofs/base/Words) look inside; every rule reads a word by `read` and makes a new version by
-- `put_word`, and an address by `line_of` and `word_of`.
-- Assumes nothing.
use Rattle.std.specs.Prelude.{Bool, ℕ, eqb}

abbrev pub Data : Type 0
Data = ℕ

-- what an empty slot holds
abbrev pub no_data : Data
no_data = 0

-- the words of a line
abbrev pub span : ℕ
span = 1

-- the word at place i of a line, and the line with that word replaced
unfoldable pub read : Data → ℕ → ℕ
read d i = d

unfoldable pub put_word : Data → ℕ → ℕ → Data
put_word d i w = w

unfoldable pub same_data : Data → Data → Bool
same_data d e = eqb d e

-- "64 addresses (0 to 63), each one 64-bit word": a word's line and its place there, and the last address
abbrev pub line_of : ℕ → ℕ
line_of at = at

abbrev pub word_of : ℕ → ℕ
word_of at = 0

abbrev pub last_address : ℕ
last_address = 63
