-- A good line over a list of fields, with its numbers; and that it is read as them.
-- Assumes nothing.
use mathlib.Core.Path.{◌≡◌, refl, sym, ◌∙◌, ap}
use mathlib.Core.Bool.{Bool, true, false, ◌&&◌, not, false≢true}
use mathlib.Core.List.{List, [], ◌∷◌, ◌++◌}
use Prim.Native.Nat.{ℕ, ◌+◌, ◌<◌}
use native.Mathlib.Omega.{arith}
use lib.Dec.{eqb}
use lib.ListN.{length, drop, get_or}
use lib.Seq.{drop-append_seam}
use Rattle.rules.specs.Text.{lf, decimal}
use Rattle.std.proofs.lemmas.Bool.{and_parts}
use Rattle.trace.specs.Numbers.{found, is_digit, number_at, line_end}
use Rattle.trace.specs.Trace.{Field, numbers, line_at}
use Rattle.trace.specs.Written.{starts_digit}
use Rattle.trace.proofs.lines.Stands.{Stands, first_part, second_part, field_whole}
use Rattle.trace.proofs.lines.Decimal.{Fit, written_in}

-- ---- lists

pub same_rest : (x y z : List ℕ) → x ++ y ≡ x ++ z → y ≡ z
same_rest x y z e = sym (drop-append_seam x y) ∙ (ap (drop (length x)) e ∙ drop-append_seam x z)

pub same_byte : (b c : ℕ) (s t : List ℕ) → b ∷ s ≡ c ∷ t → (b ≡ c) × (s ≡ t)
same_byte b c s t e = (ap (λ r. get_or r 0 0) e, ap (drop 1) e)

pub no_bytes : {P : Type 0} {b : ℕ} {s : List ℕ} → b ∷ s ≡ [] → P
no_bytes {P} {b} {s} e = absurd (let z = ap length e in omega arith)

-- ---- keys

-- no digit and no LF is in it
unfoldable pub plain : List ℕ → Bool
plain [] = true
plain (b ∷ s) = not (is_digit b) && (not (eqb b 10) && plain s)

unfoldable pub Keyed : List Field → Type 0
Keyed [] = Unit
Keyed (f ∷ fs) = (0 < length f.key) × (plain f.key ≡ true) × Keyed fs

not_true : (b : Bool) → not b ≡ true → b ≡ false
not_true true e = absurd (false≢true e)
not_true false e = refl

module _ (b : ℕ) (s : List ℕ) (h : plain (b ∷ s) ≡ true) where
  pub plain_byte : is_digit b ≡ false
  unfolding plain
  plain_byte = not_true (is_digit b) ((and_parts (not (is_digit b)) (not (eqb b 10) && plain s) h).0)

  rest_plain : (not (eqb b 10) && plain s) ≡ true
  unfolding plain
  rest_plain = (and_parts (not (is_digit b)) (not (eqb b 10) && plain s) h).1

  pub plain_not_lf : eqb b 10 ≡ false
  plain_not_lf = not_true (eqb b 10) ((and_parts (not (eqb b 10)) (plain s) rest_plain).0)

  pub plain_tail : plain s ≡ true
  plain_tail = (and_parts (not (eqb b 10)) (plain s) rest_plain).1

-- ---- lines

-- the byte that a line over the fields begins with
abbrev pub first_byte : List Field → ℕ
first_byte [] = 10
first_byte (f ∷ fs) = get_or f.key 0 0

-- a key, a number that may stand behind it, and the rest
pub record FieldThen (f : Field) (Rest : List ℕ → List ℕ → Type 0) (ns line : List ℕ) : Type 0 where
  pub value : ℕ
  pub values : List ℕ
  pub rest : List ℕ
  pub all : ns ≡ value ∷ values
  pub fit : Fit f.used value
  pub text : line ≡ f.key ++ (decimal value ++ rest)
  pub others : Rest values rest

-- the line is good, and those are its numbers
unfoldable pub Good : List Field → List ℕ → List ℕ → Type 0
Good [] ns line = (ns ≡ []) × (line ≡ lf)
Good (f ∷ fs) ns line = FieldThen f (Good fs) ns line

pub record Begins (fs : List Field) (line : List ℕ) : Type 0 where
  pub others : List ℕ
  pub is : line ≡ first_byte fs ∷ others

pub key_begins : (key : List ℕ) → 0 < length key → key ≡ get_or key 0 0 ∷ drop 1 key
key_begins [] h = absurd (omega arith)
key_begins (k ∷ ks) h = refl

pub begins : (fs : List Field) (ns line : List ℕ) → Keyed fs → Good fs ns line → Begins fs line
unfolding Good Keyed
begins [] ns line keyed good = record { others = []; is = good.1 }
begins (f ∷ fs) ns line keyed good =
    let r = decimal good.value ++ good.rest in
    record { others = drop 1 f.key ++ r; is = good.text ∙ ap (λ k. k ++ r) (key_begins f.key keyed.0) }

pub first_plain : (fs : List Field) → Keyed fs → is_digit (first_byte fs) ≡ false
unfolding Keyed
first_plain [] keyed = refl
first_plain (f ∷ fs) keyed = plain_byte (get_or f.key 0 0) (drop 1 f.key) (rw (← key_begins f.key keyed.0) keyed.1)

pub ends_number : (fs : List Field) (ns line rest : List ℕ) → Keyed fs → Good fs ns line → starts_digit (line ++ rest) ≡ false
ends_number fs ns line rest keyed good = rw (begins fs ns line keyed good).is (first_plain fs keyed)

-- ---- read

module _ (s : List ℕ) where
  -- a number's decimal text, with no digit behind it
  pub number_stands : (used : Bool) (at n next : ℕ) → Stands s at (decimal n) next → Fit used n → starts_digit (drop next s) ≡ false → number_at used s at ≡ found n next
  unfolding number_at
  number_stands used at n next h fit ends = rw h.holds (written_in used n at (drop next s) fit ends ∙ rw h.after)

  pub line_back : (fs : List Field) (ns line : List ℕ) (at next : ℕ) → Keyed fs → Good fs ns line → Stands s at line next → line_at fs s at ≡ numbers ns next
  unfolding Good Keyed line_at line_end
  line_back [] ns line at next keyed good h =
      let starts : drop at s ≡ 10 ∷ drop next s = h.holds ∙ rw good.1 in
      let place : next ≡ at + 1 = h.after ∙ rw good.1 in
      rw (starts, place, good.0)
  line_back (f ∷ fs) ns line at next keyed good h =
      let key = f.key in
      let number = decimal good.value in
      let all = rw good.text at h in
      let behind = second_part s at key (number ++ good.rest) next all in
      let mid = at + length key in
      let after = mid + length number in
      let last = second_part s mid number good.rest next behind in
      let ends : starts_digit (drop after s) ≡ false = rw last.holds (ends_number fs good.values good.rest (drop next s) keyed.2 good.others) in
      rw (field_whole key f.used s at mid (first_part s at key (number ++ good.rest) next all))
      (rw (number_stands f.used mid good.value after (first_part s mid number good.rest next behind) good.fit ends)
      (rw (line_back fs good.values good.rest after next keyed.2 good.others last) (rw good.all)))
