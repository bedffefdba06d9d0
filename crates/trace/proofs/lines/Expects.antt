-- What is due behind the first bytes of a good line settles how such lines go on, which number the bytes end with, and the kind of what is wrong there.
-- Assumes nothing.
use mathlib.Core.Path.{◌≡◌, refl, sym, ◌∙◌, ap}
use mathlib.Core.Bool.{true, false}
use mathlib.Core.List.{List, [], ◌∷◌, ◌++◌, append_assoc, append-nil}
use mathlib.Core.Logic.{inl, inr}
use Prim.Native.Nat.{ℕ, zero, suc, ◌/◌, ◌%◌, ◌<◌}
use native.Mathlib.Omega.{arith}
use borrow.Author.Tests.{eqb-true, eqb-false}
use lib.Dec.{eqb}
use Rattle.rules.specs.declared.Fault.{Fault}
use Rattle.rules.specs.declared.Fault.TheVariants.{WrongKey}
use Rattle.rules.specs.Text.{digit_text, last_digits, decimal}
use Rattle.std.proofs.lemmas.Bool.{both_ways}
use Rattle.rules.proofs.base.Bools.{by_test}
use Rattle.trace.specs.declared.Kind.{Kind}
use Rattle.trace.specs.declared.Kind.TheVariants.{AskLoad, AskStore, AskCommit, AskAbort, AskReset, AskEvict}
use Rattle.trace.specs.Numbers.{is_digit}
use Rattle.trace.specs.Trace.{Field}
use Rattle.trace.specs.Written.{Small}
use Rattle.trace.specs.Columns.{last_number, number, Starts, Continues, Stops, KindOf}
use Rattle.trace.proofs.lines.Decimal.{TooMany, by_digits, one_digit, more_digits, digit_is}
use Rattle.trace.proofs.lines.GoodLines.{Keyed, plain, plain_byte, plain_not_lf, plain_tail, first_plain}
use Rattle.trace.proofs.lines.Due.{Due, letter, Accepts, Off, InField, Leads, GoodLine, goes, needs}
use Rattle.trace.proofs.lines.LineReading.{key_byte}

-- ---- the number that bytes end with

pub last_both : (ds x y : List ℕ) → last_number ds (x ++ y) ≡ last_number (last_number ds x) y
unfolding last_number
last_both ds [] y = refl
last_both ds (b ∷ x) y =
    by_test (is_digit b) (λ h. rw h (last_both (ds ++ (b ∷ [])) x y)) (λ h. rw h (last_both [] x y))

-- another byte than a digit ends it
last_new : (ds : List ℕ) (b : ℕ) (p : List ℕ) → is_digit b ≡ false → last_number ds (b ∷ p) ≡ number (b ∷ p)
unfolding last_number
last_new ds b p h = rw h

last_plain : (x : List ℕ) → plain x ≡ true → number x ≡ []
unfolding last_number
last_plain [] h = refl
last_plain (b ∷ x) h = rw (plain_byte b x h) (last_plain x (plain_tail b x h))

last_digit : (ds : List ℕ) (d : ℕ) → d < 10 → last_number ds (digit_text d ∷ []) ≡ ds ++ (digit_text d ∷ [])
unfolding last_number
last_digit ds d h = rw (digit_is d h)

last_digits_lem : (ds : List ℕ) (k n : ℕ) → last_number ds (last_digits k n) ≡ ds ++ last_digits k n
unfolding last_digits last_number
last_digits_lem ds zero n = sym (append-nil ds)
last_digits_lem ds (suc k) n =
    by_digits n
    (λ f. rw (one_digit k n f) (last_digit ds n f))
    (λ g. rw (more_digits k n g)
    (last_both ds (last_digits k (n / 10)) (digit_text (n % 10) ∷ [])
    ∙ (ap (λ x. last_number x (digit_text (n % 10) ∷ [])) (last_digits_lem ds k (n / 10))
    ∙ (last_digit (ds ++ last_digits k (n / 10)) (n % 10) (omega arith) ∙ append_assoc ds (last_digits k (n / 10)) (digit_text (n % 10) ∷ [])))))

key_number : (key : List ℕ) (v : ℕ) → plain key ≡ true → number (key ++ decimal v) ≡ decimal v
key_number key v h = last_both [] key (decimal v) ∙ rw (last_plain key h) (last_digits_lem [] 20 v)

-- ---- what is due settles it

-- the digits of the number so far
abbrev pub digits_so_far : Due → List ℕ
digits_so_far Due.some_op = []
digits_so_far (Due.text k) = []
digits_so_far (Due.digit used) = []
digits_so_far (Due.behind v k) = decimal v

-- fixed text is no digit, and LF is only behind a number, which fits
abbrev pub Sound : Due → Type 0
Sound Due.some_op = Unit
Sound (Due.text k) = (is_digit k ≡ false) × (eqb k 10 ≡ false)
Sound (Due.digit used) = Unit
Sound (Due.behind v k) = (is_digit k ≡ false) × Small v

-- q is due behind the bytes p of a line that is good
pub record Expects (Good : List ℕ → Type 0) (p : List ℕ) (q : Due) : Type 0 where
  pub goes_on : (c : ℕ) → Accepts q c → Continues Good p c
  pub needed : (c : ℕ) → Continues Good p c → Accepts q c
  pub ends_with : number p ≡ digits_so_far q
  pub sound : Sound q

plain_front : (x y : List ℕ) → plain (x ++ y) ≡ true → plain x ≡ true
unfolding plain
plain_front [] y h = refl
plain_front (b ∷ x) y h = rw (plain_byte b (x ++ y) h, plain_not_lf b (x ++ y) h) (plain_front x y (plain_tail b (x ++ y) h))

leads_number : (fs : List Field) (p : List ℕ) (q : Due) → Keyed fs → Leads fs p q → number p ≡ digits_so_far q
unfolding Keyed Leads
leads_number [] p q keyed leads = absurd leads
leads_number (f ∷ fs) p q keyed (InField.in_key k others key q-is) = rw q-is (last_plain p (plain_front p (k ∷ others) (rw (← key) keyed.1)))
leads_number (f ∷ fs) p q keyed (InField.at_number p-is q-is) = rw (q-is, p-is) (last_plain f.key keyed.1)
leads_number (f ∷ fs) p q keyed (InField.in_number v fit p-is q-is) = rw (q-is, p-is) (key_number f.key v keyed.1)
leads_number (f ∷ fs) p q keyed (InField.further v b more fit p-is nondigit leads) =
    rw p-is (last_both [] f.key (decimal v ++ (b ∷ more)) ∙ (last_both (number f.key) (decimal v) (b ∷ more)
    ∙ (last_new (last_number (number f.key) (decimal v)) b more nondigit ∙ leads_number fs (b ∷ more) q keyed.2 leads)))

leads_sound : (fs : List Field) (p : List ℕ) (q : Due) → Keyed fs → Leads fs p q → Sound q
unfolding Keyed Leads
leads_sound [] p q keyed leads = absurd leads
leads_sound (f ∷ fs) p q keyed (InField.in_key k others key q-is) = rw q-is (key_byte p k others (rw (← key) keyed.1))
leads_sound (f ∷ fs) p q keyed (InField.at_number p-is q-is) = rw q-is tt
leads_sound (f ∷ fs) p q keyed (InField.in_number v fit p-is q-is) = rw q-is (first_plain fs keyed.2, fit.small)
leads_sound (f ∷ fs) p q keyed (InField.further v b more fit p-is nondigit leads) = leads_sound fs (b ∷ more) q keyed.2 leads

pub leads_expects : (fs : List Field) (p : List ℕ) (q : Due) → Keyed fs → Leads fs p q → Expects (GoodLine fs) p q
leads_expects fs p q keyed leads =
    record { goes_on = λ c a. goes fs p q c keyed leads a; needed = λ c l. needs fs p q c keyed leads l; ends_with = leads_number fs p q keyed leads; sound = leads_sound fs p q keyed leads }

-- ---- where the text goes on with what is not due

pub letter_plain : (k : Kind) → (is_digit (letter k) ≡ false) × (10 ≡ letter k → ⊥)
letter_plain AskLoad = (refl, λ e. absurd (omega arith))
letter_plain AskStore = (refl, λ e. absurd (omega arith))
letter_plain AskCommit = (refl, λ e. absurd (omega arith))
letter_plain AskAbort = (refl, λ e. absurd (omega arith))
letter_plain AskReset = (refl, λ e. absurd (omega arith))
letter_plain AskEvict = (refl, λ e. absurd (omega arith))

module _ (Good : List ℕ → Type 0) (p : List ℕ) where
  -- some byte is due
  continued : (q : Due) → Expects Good p q → (c : ℕ) × Continues Good p c
  continued Due.some_op x = (letter AskLoad, x.goes_on (letter AskLoad) (AskLoad, refl))
  continued (Due.text k) x = (k, x.goes_on k refl)
  continued (Due.digit used) x = (48, x.goes_on 48 (refl, λ e. refl))
  continued (Due.behind v k) x = (k, x.goes_on k (inl refl))

  pub expects_starts : (q : Due) → Expects Good p q → Starts Good p
  expects_starts q x =
      let r = continued q x in
      (r.0 ∷ r.1.0, rw (← append_assoc p (r.0 ∷ []) r.1.0) r.1.1)

  pub expects_stops : (q : Due) → Expects Good p q → (f : Fault) (rest : List ℕ) → Off q f rest → Stops Good p rest
  expects_stops q x f [] off = tt
  expects_stops Due.some_op x f (b ∷ rest) off = λ l. let a = x.needed b l in off.0 a.0 a.1
  expects_stops (Due.text k) x f (b ∷ rest) off = λ l. off.0 (x.needed b l)
  expects_stops (Due.digit used) x f (b ∷ rest) (inl off) = λ l. both_ways _ off.0 (x.needed b l).0
  expects_stops (Due.digit used) x f (b ∷ rest) (inr off) = λ l. off.2 ((x.needed b l).1 off.1)
  expects_stops (Due.behind v k) x f (b ∷ rest) off = λ l. refuse off (x.needed b l)
    where
      refuse : Off (Due.behind v k) f (b ∷ rest) → Accepts (Due.behind v k) b → ⊥
      refuse (inl off) (inl a) = both_ways _ (rw a x.sound.0) off.0
      refuse (inl off) (inr a) = many off.1
        where
          many : TooMany v b f → ⊥
          many (inl m) = let z = m.0 in let s = a.1 in omega arith
          many (inr m) = let z = m.0 in let s = a.2 in omega arith
      refuse (inr off) (inl a) = off.1 a
      refuse (inr off) (inr a) = both_ways _ off.0 a.0

  -- fixed text k is due, and b is no digit behind a number
  wrong_key : (k b : ℕ) (rest : List ℕ) → Continues Good p k → is_digit k ≡ false → (Continues Good p 10 → ⊥) → (is_digit b ≡ true → number p ≡ []) → KindOf Good WrongKey p (b ∷ rest)
  wrong_key k b rest goes text not_last no_number = record { due = k; goes = goes; text = text; not_last = not_last; no_number = no_number }

  pub expects_kind : (q : Due) → Expects Good p q → (f : Fault) (rest : List ℕ) → Off q f rest → KindOf Good f p rest
  expects_kind Due.some_op x f [] off = off
  expects_kind Due.some_op x f (b ∷ rest) off =
      rw off.1 (wrong_key (letter AskLoad) b rest (x.goes_on (letter AskLoad) (AskLoad, refl)) refl (λ l. let a = x.needed 10 l in (letter_plain a.0).1 a.1) (λ h. x.ends_with))
  expects_kind (Due.text k) x f [] off = off
  expects_kind (Due.text k) x f (b ∷ rest) off =
      rw (off.1, x.sound.1) (wrong_key k b rest (x.goes_on k refl) x.sound.0 (λ l. eqb-false k 10 x.sound.1 (sym (x.needed 10 l))) (λ h. x.ends_with))
  expects_kind (Due.digit used) x f [] off = off
  expects_kind (Due.digit used) x f (b ∷ rest) (inl off) = rw off.1 (inl (off.0, λ c l. (x.needed c l).0))
  expects_kind (Due.digit used) x f (b ∷ rest) (inr off) = rw off.3 (record { first = x.ends_with; digit = off.0; only_zero = λ c l. (x.needed c l).1 off.1 })
  expects_kind (Due.behind v k) x f [] off = off
  expects_kind (Due.behind v k) x f (b ∷ rest) (inl off) = many off.1
    where
      many : TooMany v b f → KindOf Good f p (b ∷ rest)
      many (inl m) = rw m.1 (inr (off.0, x.ends_with ∙ (rw m.0 (one_digit 19 0 (omega arith)))))
      many (inr m) = rw m.1 (record { value = v; so_far = x.ends_with; fits = x.sound.1; digit = off.0; passes = m.0 })
  expects_kind (Due.behind v k) x f (b ∷ rest) (inr off) =
      by_test (eqb k 10)
      (λ h. rw (off.2, h) (off.0, x.goes_on 10 (inl (sym (eqb-true k 10 h)))))
      (λ h. rw (off.2, h) (wrong_key k b rest (x.goes_on k (inl refl)) x.sound.0 (λ l. not_behind h (x.needed 10 l)) (λ d. absurd (both_ways _ off.0 d))))
    where
      not_behind : eqb k 10 ≡ false → Accepts (Due.behind v k) 10 → ⊥
      not_behind h (inl a) = eqb-false k 10 h (sym a)
      not_behind h (inr a) = both_ways _ refl a.0
