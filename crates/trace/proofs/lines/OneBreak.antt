-- The kinds exclude each other, and a text breaks at one column and in one kind: by the definitions alone, whatever lines are good.
-- Assumes nothing.
use mathlib.Core.Path.{◌≡◌, refl, sym, ◌∙◌, ap}
use mathlib.Core.List.{List, [], ◌∷◌, ◌++◌, append_assoc}
use mathlib.Core.Logic.{inl, inr}
use Prim.Native.Nat.{ℕ}
use native.Mathlib.Omega.{arith}
use lib.ListN.{length}
use Rattle.rules.specs.declared.Fault.{Fault}
use Rattle.rules.specs.declared.Fault.TheVariants.{WrongKey, BadNumber, NumberTooLarge, KeyNotZero, NoLineEnd}
use Rattle.rules.specs.Text.{decimal}
use Rattle.std.proofs.lemmas.Bool.{both_ways}
use Rattle.trace.specs.Numbers.{is_digit}
use Rattle.trace.specs.Columns.{number, IsTooLarge, Starts, Stops, IsWrongKey, IsBadNumber, IsNotZero, IsBehind, KindOf, Breaks}
use Rattle.trace.proofs.Digits.{digit_most}
use Rattle.trace.proofs.lines.Decimal.{one_digit, some_digit, same_number}
use Rattle.trace.proofs.lines.GoodLines.{no_bytes, same_byte}

module _ (Good : List ℕ → Type 0) where
  -- ---- the kinds

  module _ (p : List ℕ) (b : ℕ) where
    -- a number so far has a digit
    not_empty : IsTooLarge p b → number p ≡ [] → ⊥
    not_empty c e = let z = ap length (sym c.so_far ∙ e) in omega (arith, z, some_digit c.value)

    key_not_bad : IsWrongKey Good p b → IsBadNumber Good p b → ⊥
    key_not_bad a (inl h) = both_ways _ a.text (h.1 a.due a.goes)
    key_not_bad a (inr h) = no_bytes (sym h.1 ∙ a.no_number h.0)

    key_not_large : IsWrongKey Good p b → IsTooLarge p b → ⊥
    key_not_large a c = not_empty c (a.no_number c.digit)

    key_not_zero : IsWrongKey Good p b → IsNotZero Good p b → ⊥
    key_not_zero a d = both_ways (is_digit a.due) a.text (rw (d.only_zero a.due a.goes))

    key_not_behind : IsWrongKey Good p b → IsBehind Good p b → ⊥
    key_not_behind a e = a.not_last e.1

    bad_not_large : IsBadNumber Good p b → IsTooLarge p b → ⊥
    bad_not_large (inl h) c = both_ways _ h.0 c.digit
    bad_not_large (inr h) c =
        let zero : decimal 0 ≡ 48 ∷ [] = one_digit 19 0 (omega arith) in
        let text : decimal c.value ++ [] ≡ decimal 0 ++ [] = ap (λ x. x ++ []) (sym c.so_far ∙ (h.1 ∙ sym zero)) in
        let is : c.value ≡ 0 = same_number c.value 0 [] [] c.fits (omega arith) refl refl text in
        omega (arith, is, c.passes, digit_most b c.digit)

    bad_not_zero : IsBadNumber Good p b → IsNotZero Good p b → ⊥
    bad_not_zero (inl h) d = both_ways _ h.0 d.digit
    bad_not_zero (inr h) d = no_bytes (sym h.1 ∙ d.first)

    bad_not_behind : IsBadNumber Good p b → IsBehind Good p b → ⊥
    bad_not_behind (inl h) e = both_ways _ refl (h.1 10 e.1)
    bad_not_behind (inr h) e = both_ways _ e.0 h.0

    large_not_zero : IsTooLarge p b → IsNotZero Good p b → ⊥
    large_not_zero c d = not_empty c d.first

    large_not_behind : IsTooLarge p b → IsBehind Good p b → ⊥
    large_not_behind c e = both_ways _ e.0 c.digit

    zero_not_behind : IsNotZero Good p b → IsBehind Good p b → ⊥
    zero_not_behind d e = both_ways _ e.0 d.digit

-- no two kinds at once
pub kinds_exclude : (Good : List ℕ → Type 0) (f g : Fault) (p rest : List ℕ) → KindOf Good f p rest → KindOf Good g p rest → f ≡ g
kinds_exclude Good f g p [] x y = x ∙ sym y
kinds_exclude Good WrongKey WrongKey p (b ∷ rest) x y = refl
kinds_exclude Good WrongKey BadNumber p (b ∷ rest) x y = absurd (key_not_bad Good p b x y)
kinds_exclude Good WrongKey NumberTooLarge p (b ∷ rest) x y = absurd (key_not_large Good p b x y)
kinds_exclude Good WrongKey KeyNotZero p (b ∷ rest) x y = absurd (key_not_zero Good p b x y)
kinds_exclude Good WrongKey NoLineEnd p (b ∷ rest) x y = absurd (key_not_behind Good p b x y)
kinds_exclude Good BadNumber WrongKey p (b ∷ rest) x y = absurd (key_not_bad Good p b y x)
kinds_exclude Good BadNumber BadNumber p (b ∷ rest) x y = refl
kinds_exclude Good BadNumber NumberTooLarge p (b ∷ rest) x y = absurd (bad_not_large Good p b x y)
kinds_exclude Good BadNumber KeyNotZero p (b ∷ rest) x y = absurd (bad_not_zero Good p b x y)
kinds_exclude Good BadNumber NoLineEnd p (b ∷ rest) x y = absurd (bad_not_behind Good p b x y)
kinds_exclude Good NumberTooLarge WrongKey p (b ∷ rest) x y = absurd (key_not_large Good p b y x)
kinds_exclude Good NumberTooLarge BadNumber p (b ∷ rest) x y = absurd (bad_not_large Good p b y x)
kinds_exclude Good NumberTooLarge NumberTooLarge p (b ∷ rest) x y = refl
kinds_exclude Good NumberTooLarge KeyNotZero p (b ∷ rest) x y = absurd (large_not_zero Good p b x y)
kinds_exclude Good NumberTooLarge NoLineEnd p (b ∷ rest) x y = absurd (large_not_behind Good p b x y)
kinds_exclude Good KeyNotZero WrongKey p (b ∷ rest) x y = absurd (key_not_zero Good p b y x)
kinds_exclude Good KeyNotZero BadNumber p (b ∷ rest) x y = absurd (bad_not_zero Good p b y x)
kinds_exclude Good KeyNotZero NumberTooLarge p (b ∷ rest) x y = absurd (large_not_zero Good p b y x)
kinds_exclude Good KeyNotZero KeyNotZero p (b ∷ rest) x y = refl
kinds_exclude Good KeyNotZero NoLineEnd p (b ∷ rest) x y = absurd (zero_not_behind Good p b x y)
kinds_exclude Good NoLineEnd WrongKey p (b ∷ rest) x y = absurd (key_not_behind Good p b y x)
kinds_exclude Good NoLineEnd BadNumber p (b ∷ rest) x y = absurd (bad_not_behind Good p b y x)
kinds_exclude Good NoLineEnd NumberTooLarge p (b ∷ rest) x y = absurd (large_not_behind Good p b y x)
kinds_exclude Good NoLineEnd KeyNotZero p (b ∷ rest) x y = absurd (zero_not_behind Good p b y x)
kinds_exclude Good NoLineEnd NoLineEnd p (b ∷ rest) x y = refl

-- ---- one break

-- two ways to part a text: at the same byte, or one is further
data Meet (p r q t : List ℕ) : Type 0 where
  same : p ≡ q → r ≡ t → Meet p r q t
  first_ends : (b : ℕ) (more : List ℕ) → q ≡ p ++ (b ∷ more) → r ≡ b ∷ (more ++ t) → Meet p r q t
  second_ends : (b : ℕ) (more : List ℕ) → p ≡ q ++ (b ∷ more) → t ≡ b ∷ (more ++ r) → Meet p r q t

meet : (p r q t : List ℕ) → p ++ r ≡ q ++ t → Meet p r q t
meet [] r [] t e = same refl e
meet [] r (b ∷ q) t e = first_ends b q refl e
meet (b ∷ p) r [] t e = second_ends b p refl (sym e)
meet (b ∷ p) r (c ∷ q) t e = go (same_byte b c (p ++ r) (q ++ t) e).0 (meet p r q t (same_byte b c (p ++ r) (q ++ t) e).1)
  where
    go : b ≡ c → Meet p r q t → Meet (b ∷ p) r (c ∷ q) t
    go h (same x y) = same (rw (h, x)) y
    go h (first_ends d more x y) = first_ends d more (rw (h, x)) y
    go h (second_ends d more x y) = second_ends d more (rw (h, x)) y

-- where the bytes p end, a good line that starts with more of the text goes on
goes_past : (Good : List ℕ → Type 0) (p r q : List ℕ) (b : ℕ) (more u : List ℕ) → Stops Good p r → Starts Good q → q ≡ p ++ (b ∷ more) → r ≡ b ∷ u → ⊥
goes_past Good p r q b more u stops starts q-is r-is =
    let m = starts.0 in
    let same : q ++ m ≡ (p ++ (b ∷ [])) ++ (more ++ m) = rw q-is (append_assoc p (b ∷ more) m ∙ sym (append_assoc p (b ∷ []) (more ++ m))) in
    (rw r-is at stops) (more ++ m, rw (← same) starts.1)

-- a text breaks at one column, in one kind
pub one_break : (Good : List ℕ → Type 0) (text : List ℕ) (f g : Fault) (c d : ℕ) → Breaks Good text f c → Breaks Good text g d → (f ≡ g) × (c ≡ d)
one_break Good text f g c d x y = go (meet x.before x.rest y.before y.rest (sym x.parts ∙ y.parts))
  where
    go : Meet x.before x.rest y.before y.rest → (f ≡ g) × (c ≡ d)
    go (same p r) = (kinds_exclude Good f g x.before x.rest x.kind (rw (p, r) y.kind), x.counted ∙ (rw p (sym y.counted)))
    go (first_ends b more p r) = absurd (goes_past Good x.before x.rest y.before b more (more ++ y.rest) x.stops y.starts p r)
    go (second_ends b more p r) = absurd (goes_past Good y.before y.rest x.before b more (more ++ x.rest) y.stops x.starts p r)
