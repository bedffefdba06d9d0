-- A line: empty, dead, live; which numbers it hits; whose owner it is. "The machine" and the first paragraph of "Steps".
-- Assumes nothing.
use Rattle.std.specs.Prelude.{Bool, ◌&&◌, ◌||◌, not, ℕ, ltb, leb, eqb}
use Rattle.rules.specs.declared.State.{State}
use Rattle.rules.specs.declared.State.TheVariants.{I}
use Rattle.rules.specs.declared.Line.{Line}
use Rattle.rules.specs.Data.{Data, no_data}
use Rattle.rules.specs.States.{is_i, is_ss, plain, ranged, top, owns}

abbrev pub line : State → ℕ → ℕ → ℕ → Data → Line
line s x m h d = record { state = s; address = x; m = m; h = h; word = d }

-- "An empty slot (I) is zero in all other fields."
abbrev pub empty : Line
empty = line I 0 0 0 no_data

-- "Dead: an S-O or S-S line with h ≤ LCVID."
unfoldable pub dead : ℕ → Line → Bool
dead lc l = ranged l.state && leb l.h lc

-- "Live: every other line that isn't I."
unfoldable pub live : ℕ → Line → Bool
live lc l = not (is_i l.state) && not (dead lc l)

-- "S-M and S-E hit if a ≥ m; S-O and S-S if m ≤ a < h." A dead line never hits, as a is never below LCVID: law `dead_misses`.
unfoldable pub hits : ℕ → Line → Bool
hits a l = leb l.m a && (top l.state || (ranged l.state && ltb a l.h))

-- "The owner for a is the S-M, S-E or live S-O line of the address that hits."
unfoldable pub is_owner : ℕ → ℕ → Line → Bool
is_owner x a l = owns l.state && (eqb l.address x && hits a l)

-- a plain line of the address
unfoldable pub is_plain : ℕ → Line → Bool
is_plain x l = plain l.state && eqb l.address x

-- "S-S lines with that m at that address"
unfoldable pub is_share : ℕ → ℕ → Line → Bool
is_share x m l = is_ss l.state && (eqb l.address x && eqb l.m m)
