-- The first line and a step's as they are written: the op, each key with its number, LF.
-- Assumes nothing.
use Rattle.std.specs.Prelude.{Bool, false, List, [], ◌∷◌, ◌++◌, ℕ, ◌^◌, ◌<◌}
use Rattle.rules.specs.declared.Op.{Op}
use Rattle.rules.specs.declared.Op.TheVariants.{Load, Store, Commit, Abort, Reset, Evict}
use Rattle.rules.specs.Text.{lf, data_key, decimal}
use Rattle.trace.specs.declared.Kind.{Kind}
use Rattle.trace.specs.declared.Kind.TheVariants.{AskLoad, AskStore, AskCommit, AskAbort, AskReset, AskEvict}
use Rattle.trace.specs.Numbers.{is_digit}
use Rattle.trace.specs.Trace.{caches_key, cache_key, vid_key, at_key, op_text}

-- a key and its number
abbrev pub field_text : List ℕ → ℕ → List ℕ
field_text key n = key ++ decimal n

-- "first line `caches=N`"
abbrev pub first_text : ℕ → List ℕ
first_text n = field_text caches_key n ++ lf

-- "one step a line, keys in this order, one space between"
unfoldable pub written_line : Kind → ℕ → ℕ → ℕ → ℕ → List ℕ
written_line k c v x d = op_text k ++ (field_text cache_key c ++ (field_text vid_key v ++ (field_text at_key x ++ (field_text data_key d ++ lf))))

-- "A key that the op doesn't use must be 0", "For evict, `at` is the slot"
unfoldable pub step_text : Op → List ℕ
step_text (Load c v x) = written_line AskLoad c v x 0
step_text (Store c v x d) = written_line AskStore c v x d
step_text (Commit v) = written_line AskCommit 0 v 0 0
step_text Abort = written_line AskAbort 0 0 0 0
step_text Reset = written_line AskReset 0 0 0 0
step_text (Evict c t) = written_line AskEvict c 0 t 0

-- a number "at most 18446744073709551615"
abbrev pub Small : ℕ → Type 0
Small n = n < 2 ^ 64

-- the step's numbers are
abbrev pub Fits : Op → Type 0
Fits (Load c v x) = Small c × Small v × Small x
Fits (Store c v x d) = Small c × Small v × Small x × Small d
Fits (Commit v) = Small v
Fits Abort = Unit
Fits Reset = Unit
Fits (Evict c t) = Small c × Small t

-- a text whose first byte is a digit
abbrev pub starts_digit : List ℕ → Bool
starts_digit [] = false
starts_digit (b ∷ s) = is_digit b
