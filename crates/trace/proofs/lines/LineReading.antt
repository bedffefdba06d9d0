-- Reading a line over a list of fields comes to its numbers, or to the first byte that is not due.
-- Assumes nothing.
use mathlib.Core.Path.{◌≡◌, refl, ◌∙◌}
use mathlib.Core.Bool.{true, false}
use mathlib.Core.List.{List, [], ◌∷◌, ◌++◌}
use mathlib.Core.Logic.{inl, inr}
use Prim.Native.Nat.{ℕ, ◌+◌, ◌<◌}
use native.Mathlib.Omega.{arith}
use borrow.Author.Tests.{eqb-true, eqb-false}
use lib.Dec.{eqb}
use lib.ListN.{length, drop, length-append}
use Rattle.rules.specs.declared.Fault.{Fault}
use Rattle.rules.specs.declared.Fault.TheVariants.{NoLineEnd}
use Rattle.rules.specs.Text.{lf, decimal}
use Rattle.rules.proofs.base.Bools.{by_test}
use Rattle.trace.specs.declared.numbers.Number.{Number}
use Rattle.trace.specs.Numbers.{Parsed, found, wrong, is_digit, key_fault, number_in, number_at, field_at, line_end}
use Rattle.trace.specs.Trace.{Field, Numbers, numbers, line_at}
use Rattle.trace.specs.Written.{starts_digit}
use Rattle.trace.proofs.lines.Stands.{Stands, stands, stands_both, behind, NotNext, Parts, by_key, field_whole, field_parts}
use Rattle.trace.proofs.lines.Decimal.{Fit, NumberReading, number_reading}
use Rattle.trace.proofs.lines.GoodLines.{Keyed, Good, plain, plain_byte, plain_not_lf, plain_tail, first_byte}
use Rattle.trace.proofs.lines.Due.{Due, Off, InField, Leads}

-- the line is good; nothing of it is there; or it goes on with what is not due
pub data LineReading (fs : List Field) (s : List ℕ) (at : ℕ) (l : Parsed Numbers) : Type 0 where
  whole : (ns line : List ℕ) (next : ℕ) → Good fs ns line → Stands s at line next → l ≡ numbers ns next → LineReading fs s at l
  none : (f : Fault) → Off (Due.text (first_byte fs)) f (drop at s) → l ≡ wrong f at → LineReading fs s at l
  broken : (p : List ℕ) (q : Due) (f : Fault) (place : ℕ) → 0 < length p → Leads fs p q → Off q f (drop place s) → Stands s at p place → l ≡ wrong f place → LineReading fs s at l

-- ---- the line's end

end_reading : (s : List ℕ) (at : ℕ) (t : List ℕ) → drop at s ≡ t → LineReading [] s at (line_at [] s at)
unfolding line_at line_end Good
end_reading s at [] h = none NoLineEnd (rw h refl) (rw h)
end_reading s at (b ∷ t) h =
    by_test (eqb b 10)
    (λ e. whole [] lf (at + 1) (refl, refl) (stands s at lf t (h ∙ rw (eqb-true b 10 e))) (rw (h, e)))
    (λ e. none NoLineEnd (rw h (eqb-false b 10 e, refl)) (rw (h, e)))

-- ---- a key that is broken off

-- a byte of a key is no digit and no LF
pub key_byte : (front : List ℕ) (k : ℕ) (others : List ℕ) → plain (front ++ (k ∷ others)) ≡ true → (is_digit k ≡ false) × (eqb k 10 ≡ false)
key_byte [] k others h = (plain_byte k others h, plain_not_lf k others h)
key_byte (b ∷ front) k others h = key_byte front k others (plain_tail b (front ++ (k ∷ others)) h)

key_off : (k : ℕ) (rest : List ℕ) → eqb k 10 ≡ false → NotNext k rest → Off (Due.text k) (key_fault rest) rest
key_off k [] h differs = refl
key_off k (b ∷ rest) h differs = (differs, rw h)

module _ (f : Field) (fs : List Field) (s : List ℕ) (at : ℕ) where
  parts_reading : plain f.key ≡ true → Parts f.key (drop at s) → LineReading (f ∷ fs) s at (line_at (f ∷ fs) s at)
  unfolding line_at Leads
  parts_reading h p = go p.same p.in_key p.in_text (rw (field_parts f.key f.used s at p))
    where
      go : (same : List ℕ) → f.key ≡ same ++ (p.due ∷ p.others) → drop at s ≡ same ++ p.rest → line_at (f ∷ fs) s at ≡ wrong (key_fault p.rest) (at + length same)
          → LineReading (f ∷ fs) s at (line_at (f ∷ fs) s at)
      go [] key text e =
          let place : at + 0 ≡ at = omega arith in
          none (key_fault p.rest) (rw (key, text) (key_off p.due p.rest (key_byte [] p.due p.others (rw key at h)).1 p.differs)) (rw place at e)
      go (b ∷ same) key text e =
          let front = b ∷ same in
          let off = key_off p.due p.rest (key_byte front p.due p.others (rw key at h)).1 p.differs in
          broken front (Due.text p.due) (key_fault p.rest) (at + length front) (omega arith) (InField.in_key p.due p.others key refl)
          (rw (behind s at front p.rest text) off) (stands s at front p.rest text) e

  -- ---- a number behind the key

  module _ (rest : List ℕ) (some : 0 < length f.key) (key : drop at s ≡ f.key ++ rest) where
    abbrev mid : ℕ
    mid = at + length f.key

    stands_key : Stands s at f.key mid
    stands_key = stands s at f.key rest key

    is_field : field_at f.key f.used s at ≡ number_in f.used mid (drop mid s)
    unfolding number_at
    is_field = field_whole f.key f.used s at mid stands_key

    -- a byte behind a number that is not due is no digit
    behind_off : (v k : ℕ) (fault : Fault) (t : List ℕ) → starts_digit t ≡ false → Off (Due.text k) fault t → Off (Due.behind v k) fault t
    behind_off v k fault [] ends off = off
    behind_off v k fault (b ∷ t) ends off = inr (ends, off.0, off.1)

    module _ (n next : ℕ) (fit : Fit f.used n) (number : Stands s mid (decimal n) next) (ends : starts_digit (drop next s) ≡ false) where
      both : Stands s at (f.key ++ decimal n) next
      both = stands_both s at f.key (decimal n) next stands_key number

      some_bytes : (x : List ℕ) → 0 < length (f.key ++ x)
      some_bytes x = omega (arith, some, length-append f.key x)

      -- the line goes on behind the number
      then_reading : (l : Parsed Numbers) → LineReading fs s next l → field_at f.key f.used s at ≡ found n next → line_at fs s next ≡ l → LineReading (f ∷ fs) s at (line_at (f ∷ fs) s at)
      unfolding line_at Good Leads
      then_reading l (whole ns line after good stood l-is) e is =
          whole (n ∷ ns) (f.key ++ (decimal n ++ line)) after (record { value = n; values = ns; rest = line; all = refl; fit = fit; text = refl; others = good })
          (stands_both s at f.key (decimal n ++ line) after stands_key (stands_both s mid (decimal n) line after number stood)) (rw (e, is, l-is))
      then_reading l (none fault off l-is) e is =
          broken (f.key ++ decimal n) (Due.behind n (first_byte fs)) fault next (some_bytes (decimal n)) (InField.in_number n fit refl refl) (behind_off n (first_byte fs) fault (drop next s) ends off) both (rw (e, is, l-is))
      then_reading l (broken [] q fault place more leads off stood l-is) e is = absurd (omega arith)
      then_reading l (broken (b ∷ p) q fault place more leads off stood l-is) e is =
          let digit : is_digit b ≡ false = rw stood.holds at ends in
          broken (f.key ++ (decimal n ++ (b ∷ p))) q fault place (some_bytes (decimal n ++ (b ∷ p))) (InField.further n b p fit refl digit leads) off
          (stands_both s at f.key (decimal n ++ (b ∷ p)) place stands_key (stands_both s mid (decimal n) (b ∷ p) place number stood)) (rw (e, is, l-is))

    field_reading : (r : Parsed Number) → NumberReading f.used mid (drop mid s) r → field_at f.key f.used s at ≡ r → ((next : ℕ) → LineReading fs s next (line_at fs s next))
        → LineReading (f ∷ fs) s at (line_at (f ∷ fs) s at)
    unfolding line_at Leads
    field_reading r (NumberReading.whole n rest text fit ends r-is) e deeper =
        let next = mid + length (decimal n) in
        then_reading n next fit (stands s mid (decimal n) rest text) (rw (behind s mid (decimal n) rest text) ends) (line_at fs s next) (deeper next) (e ∙ r-is) refl
    field_reading r (NumberReading.none fault off r-is) e deeper = broken f.key (Due.digit f.used) fault mid some (InField.at_number refl refl) off stands_key (rw (e, r-is))
    field_reading r (NumberReading.broken v b rest fault text fit digit many r-is) e deeper =
        let place = mid + length (decimal v) in
        broken (f.key ++ decimal v) (Due.behind v (first_byte fs)) fault place (omega (arith, some, length-append f.key (decimal v))) (InField.in_number v fit refl refl)
        (rw (behind s mid (decimal v) (b ∷ rest) text) (inl (digit, many)))
        (stands_both s at f.key (decimal v) place stands_key (stands s mid (decimal v) (b ∷ rest) text)) (rw (e, r-is))

-- reading is one of these
pub line_reading : (fs : List Field) (s : List ℕ) (at : ℕ) → Keyed fs → LineReading fs s at (line_at fs s at)
unfolding Keyed
line_reading [] s at keyed = end_reading s at (drop at s) refl
line_reading (f ∷ fs) s at keyed =
    by_key f.key (drop at s)
    (λ rest key. field_reading f fs s at rest keyed.0 key _ (number_reading f.used (at + length f.key) (drop (at + length f.key) s)) (is_field f fs s at rest keyed.0 key)
    (λ next. line_reading fs s next keyed.2))
    (parts_reading f fs s at keyed.1)
