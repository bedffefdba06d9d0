-- The place after a number, or where something is wrong, lies between where reading began and the end of the text; so does the LF that ends a line.
-- Assumes nothing.
use Rattle.std.proofs.Common.{Ok, Err}
use mathlib.Core.Path.{◌≡◌, sym, ap}
use mathlib.Core.Bool.{Bool, true, false, cond, false≢true}
use mathlib.Core.List.{List, [], ◌∷◌, ◌++◌}
use Prim.Native.Nat.{ℕ, ◌+◌, ◌≤◌, ◌<◌}
use native.Mathlib.Omega.{arith}
use lib.Dec.{eqb}
use lib.ListN.{length, drop, length-drop, length-append}
use Rattle.rules.specs.Text.{decimal}
use Rattle.trace.specs.declared.numbers.Number.{Number}
use Rattle.trace.specs.Numbers.{Parsed, wrong, agreeing, key_fault, number_in, number_at, field_at, starts_lf}
use Rattle.trace.proofs.Keys.{agreeing_left}
use Rattle.trace.proofs.lines.Decimal.{NumberReading, number_reading}

-- the place after a number, or where something is wrong
abbrev pub place_of : Parsed Number → ℕ
place_of (Ok n) = n.next
place_of (Err w) = w.place

-- a place from i up to e
pub record Within (i e place : ℕ) : Type 0 where
  pub from : i ≤ place
  pub to : place ≤ e

-- of two results, either
either : (i e : ℕ) (b : Bool) (p q : Parsed Number) → Within i e (place_of p) → Within i e (place_of q) → Within i e (place_of (cond b p q))
either i e true p q f g = f
either i e false p q f g = g

-- a number's digits, whole or not, are bytes of the text
in_within : (used : Bool) (i : ℕ) (t : List ℕ) → Within i (i + length t) (place_of (number_in used i t))
in_within used i t = go (number_reading used i t)
  where
    behind : (v : ℕ) (rest : List ℕ) → t ≡ decimal v ++ rest → Within i (i + length t) (i + length (decimal v))
    behind v rest e = record { from = omega arith; to = omega (arith, ap length e, length-append (decimal v) rest) }

    go : NumberReading used i t (number_in used i t) → Within i (i + length t) (place_of (number_in used i t))
    go (NumberReading.whole n rest text fit ends is) = rw is (behind n rest text)
    go (NumberReading.none f off is) = rw is (record { from = omega arith; to = omega arith })
    go (NumberReading.broken v b rest f text fit digit many is) = rw is (behind v (b ∷ rest) text)

module _ (used : Bool) (s : List ℕ) where
  number_within : (at : ℕ) → at ≤ length s → Within at (length s) (place_of (number_at used s at))
  unfolding number_at
  number_within at h =
      let w = in_within used at (drop at s) in
      let n = length-drop at s in
      record { from = w.from; to = omega (arith, w.to, n) }

  pub field_within : (key : List ℕ) (at : ℕ) → at ≤ length s → Within at (length s) (place_of (field_at key used s at))
  unfolding field_at
  field_within key at h =
      let n = agreeing key (drop at s) in
      let fits : at + n ≤ length s = omega (arith, agreeing_left key s at) in
      let w = number_within (at + n) fits in
      either at (length s) (eqb n (length key)) (number_at used s (at + n)) (wrong (key_fault (drop (at + n) s)) (at + n))
      (record { from = omega (arith, w.from); to = w.to })
      (record { from = omega arith; to = fits })

-- so does the place of what was read there
pub field_place : (key : List ℕ) (used : Bool) (s : List ℕ) (at : ℕ) (p : Parsed Number) → p ≡ field_at key used s at → at ≤ length s → Within at (length s) (place_of p)
field_place key used s at p e h = rw e (field_within used s key at h)

pub field_number : (key : List ℕ) (used : Bool) (s : List ℕ) (at : ℕ) (n : Number) → field_at key used s at ≡ Ok n → at ≤ length s → Within at (length s) n.next
field_number key used s at n e h = field_place key used s at (Ok n) (sym e) h

-- where LF stands, the text has a byte
starts_some : (t : List ℕ) → starts_lf t ≡ true → 0 < length t
starts_some [] e = absurd (false≢true e)
starts_some (b ∷ t) e = omega arith

pub lf_inside : (s : List ℕ) (at : ℕ) → starts_lf (drop at s) ≡ true → at < length s
lf_inside s at e = omega (arith, starts_some (drop at s) e, length-drop at s)
