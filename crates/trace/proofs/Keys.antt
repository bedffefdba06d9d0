-- How many bytes of a key stand at a place of a text, counted byte by byte; and what is told where there is no text, or the key breaks off.
-- Assumes nothing.
use Rattle.std.proofs.Common.{◌≡◌, List, [], ◌∷◌, ℕ, suc, ◌+◌, ◌-◌, ◌≤◌, ◌<◌, Bool, eqb, length, get_or, drop, arith}
use native.Mathlib.Numerals.{add-one}
use borrow.Author.Tests.{eq-eqb, ne_eqb}
use lib.ListN.{length-drop, drop_of_length-le}
use lib.Seq.{drop-cons, drop-drop}
use Rattle.rules.proofs.base.Bools.{by_test}
use Rattle.rules.specs.declared.Fault.TheVariants.{WrongKey, NoLineEnd}
use Rattle.trace.specs.Numbers.{wrong, agreeing, key_fault, number_at, field_at}

pub agreeing_most : (key t : List ℕ) → agreeing key t ≤ length t
unfolding agreeing
agreeing_most [] t = omega arith
agreeing_most (k ∷ ks) [] = omega arith
agreeing_most (k ∷ ks) (b ∷ t) = let h = agreeing_most ks t in by_test (eqb b k) (λ e. rw e (omega (arith, h))) (λ e. rw e (omega arith))

-- the place is past the text
pub agreeing_past : (key s : List ℕ) (at : ℕ) → length s ≤ at → agreeing key (drop at s) ≡ 0
agreeing_past key s at h = omega (arith, agreeing_most key (drop at s), length-drop at s)

-- no more than the text has left
pub agreeing_left : (key s : List ℕ) (at : ℕ) → agreeing key (drop at s) ≤ length s - at
agreeing_left key s at = omega (arith, agreeing_most key (drop at s), length-drop at s)

-- ---- byte by byte

-- with i bytes found to agree
abbrev pub agreeing_on : List ℕ → List ℕ → ℕ → ℕ → ℕ
agreeing_on key s at i = i + agreeing (drop i key) (drop (at + i) s)

pub key_starts : (key s : List ℕ) (at : ℕ) → agreeing key (drop at s) ≡ agreeing_on key s at 0
key_starts key s at = let q : at + 0 ≡ at = omega arith in rw q (omega arith)

module _ (key s : List ℕ) (at i : ℕ) where
  pub text_ends : length s ≤ at + i → agreeing_on key s at i ≡ i
  text_ends h = let e = agreeing_past (drop i key) s (at + i) h in omega (arith, e)

  pub key_ends : length key ≤ i → agreeing_on key s at i ≡ i
  unfolding agreeing
  key_ends h = rw (drop_of_length-le key h) (omega arith)

  module _ (in_key : i < length key) (in_text : at + i < length s) where
    pub byte_differs : (get_or s (at + i) 0 ≡ get_or key i 0 → ⊥) → agreeing_on key s at i ≡ i
    unfolding agreeing
    byte_differs d = rw (drop-cons key i 0 in_key, drop-cons s (at + i) 0 in_text, ne_eqb (get_or s (at + i) 0) (get_or key i 0) d) (omega arith)

    pub byte_same : get_or s (at + i) 0 ≡ get_or key i 0 → agreeing_on key s at i ≡ agreeing_on key s at (i + 1)
    unfolding agreeing
    byte_same e =
        let q : at + (i + 1) ≡ suc (at + i) = omega arith in
        rw (q, add-one i, drop-cons key i 0 in_key, drop-cons s (at + i) 0 in_text, eq-eqb (get_or s (at + i) 0) (get_or key i 0) e) (omega arith)

-- ---- a field whose key breaks off

-- where the text has a byte left, that is told as a wrong key
pub broken_off : (s : List ℕ) (at : ℕ) → at < length s → key_fault (drop at s) ≡ WrongKey
broken_off s at h = rw (drop-cons s at 0 h)

-- the place is past the text
pub field_past : (key : List ℕ) (used : Bool) (s : List ℕ) (at : ℕ) → length s < at → field_at key used s at ≡ wrong NoLineEnd at
unfolding field_at number_at agreeing
field_past key used s at h = go key
  where
    none : drop at s ≡ []
    none = let p : length s ≤ at = omega arith in drop_of_length-le s p

    here : at + 0 ≡ at
    here = omega arith

    go : (key : List ℕ) → field_at key used s at ≡ wrong NoLineEnd at
    go [] = rw (here, none)
    go (k ∷ ks) = rw (none, here, none, ne_eqb 0 (length (k ∷ ks)) (λ e. absurd (omega (arith, e))))

-- behind a part of what is left
pub field_behind : (s : List ℕ) (at n : ℕ) → drop n (drop at s) ≡ drop (at + n) s
field_behind s at n = drop-drop n at s
