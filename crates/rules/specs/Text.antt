-- What trace and report text share, in ASCII: LF, ` data=`, and decimal numbers; and the name of a state.
-- Assumes nothing.
use Rattle.std.specs.Prelude.{cond, List, [], ◌∷◌, ◌++◌, ℕ, zero, suc, ◌+◌, ◌/◌, ◌%◌, ltb, codes}
use Rattle.rules.specs.declared.State.{State}
use Rattle.rules.specs.declared.State.TheVariants.{I, M, O, E, S, SM, SO, SE, SS}

-- LF and ` data=`
abbrev pub lf : List ℕ
lf = 10 ∷ []

abbrev pub data_key : List ℕ
data_key = codes " data="

-- ---- "Numbers are decimal, no leading zero"

-- the digit of a number below ten
abbrev pub digit_text : ℕ → ℕ
digit_text d = 48 + d

-- the last k digits of n, with no leading zero
unfoldable pub last_digits : ℕ → ℕ → List ℕ
last_digits zero n = []
last_digits (suc k) n = cond (ltb n 10) (digit_text n ∷ []) (last_digits k (n / 10) ++ (digit_text (n % 10) ∷ []))

-- a number up to 18446744073709551615, which has twenty digits
abbrev pub decimal : ℕ → List ℕ
decimal n = last_digits 20 n

-- ---- "States: I; plain M, O, E, S; speculative S-M, S-O, S-E, S-S."

abbrev pub state_text : State → List ℕ
state_text I = codes "I"
state_text M = codes "M"
state_text O = codes "O"
state_text E = codes "E"
state_text S = codes "S"
state_text SM = codes "S-M"
state_text SO = codes "S-O"
state_text SE = codes "S-E"
state_text SS = codes "S-S"
