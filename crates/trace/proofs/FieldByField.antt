-- A line that is read field by field: the numbers so far, the fields that are left, and the place where the next one begins; and where it breaks, or ends.
-- Assumes nothing.
use Rattle.std.proofs.Common.{Ok, Err}
use mathlib.Core.Path.{◌≡◌, refl, ◌∙◌, ap}
use mathlib.Core.Bool.{true, false}
use mathlib.Core.List.{List, [], ◌∷◌, ◌++◌, append_assoc, append-nil}
use Prim.Native.Nat.{ℕ, ◌+◌, ◌≤◌}
use native.Mathlib.Omega.{arith}
use lib.ListN.{length, drop}
use Rattle.rules.specs.declared.Fault.TheVariants.{NoLineEnd}
use Rattle.trace.specs.declared.numbers.Number.{Number}
use Rattle.trace.specs.declared.numbers.Wrong.{Wrong}
use Rattle.trace.specs.Numbers.{Parsed, wrong, ◌>>=◌, field_at, starts_lf, line_end}
use Rattle.trace.specs.Trace.{Field, Numbers, numbers, line_at}
use Rattle.trace.proofs.Places.{place_of, Within, field_within}

-- several numbers in front of a line's
abbrev pub in_front : List ℕ → Parsed Numbers → Parsed Numbers
in_front ns l = do
  rest ← l
  numbers (ns ++ rest.values) rest.next

none_more : (l : Parsed Numbers) → l ≡ in_front [] l
none_more (Ok r) = refl
none_more (Err w) = refl

one_more : (ns : List ℕ) (n : ℕ) (l : Parsed Numbers) → in_front ns (in_front (n ∷ []) l) ≡ in_front (ns ++ (n ∷ [])) l
one_more ns n (Ok r) = rw (append_assoc ns (n ∷ []) r.values)
one_more ns n (Err w) = refl

-- the line with the fields `all` at a place of s, of which the numbers ns are read, and the fields fs are left from place i on
pub record Reading (s : List ℕ) (all : List Field) (at : ℕ) (ns : List ℕ) (fs : List Field) (i : ℕ) : Type 0 where
  pub line : line_at all s at ≡ in_front ns (line_at fs s i)
  pub here : Within at (length s) i

pub begin : (s : List ℕ) (all : List Field) (at : ℕ) → at ≤ length s → Reading s all at [] all at
begin s all at h = record { line = none_more (line_at all s at); here = record { from = omega arith; to = h } }

module _ {s : List ℕ} {all : List Field} {at : ℕ} {ns : List ℕ} where
  -- p is what was read for the next field
  module _ {f : Field} {fs : List Field} {i : ℕ} (r : Reading s all at ns (f ∷ fs) i) (p : Parsed Number) (is : p ≡ field_at f.key f.used s i) where
    pub place_within : Within at (length s) (place_of p)
    place_within =
        let w = field_within f.used s f.key i r.here.to in
        rw is (record { from = omega (arith, r.here.from, w.from); to = w.to })

    pub number_read : (n : Number) → p ≡ Ok n → Reading s all at (ns ++ (n.value ∷ [])) fs n.next
    unfolding line_at
    number_read n e = record { line = r.line ∙ (rw (← is, e) refl ∙ one_more ns n.value (line_at fs s n.next)); here = rw e at place_within }

    pub broken_in : (w : Wrong) → p ≡ Err w → line_at all s at ≡ Err w
    unfolding line_at
    broken_in w e = r.line ∙ rw (← is, e) refl

  -- every number is read
  module _ {i : ℕ} (r : Reading s all at ns [] i) where
    pub broken_behind : starts_lf (drop i s) ≡ false → line_at all s at ≡ wrong NoLineEnd i
    unfolding line_at line_end
    broken_behind e = r.line ∙ rw e refl

    pub line_ends : starts_lf (drop i s) ≡ true → line_at all s at ≡ numbers ns (i + 1)
    unfolding line_at line_end
    line_ends e = r.line ∙ (rw e refl ∙ ap (λ t. numbers t (i + 1)) (append-nil ns))
