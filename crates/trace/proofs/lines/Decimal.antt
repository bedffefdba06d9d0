-- A number's decimal text is read as the number, and no other text is; and where a number breaks off.
-- Assumes nothing.
use Rattle.std.proofs.Common.{Ok, Err}
use mathlib.Core.Path.{◌≡◌, refl, sym, ◌∙◌, ap, subst}
use mathlib.Core.Bool.{Bool, true, false, true≢false}
use mathlib.Core.List.{List, [], ◌∷◌, ◌++◌, append_assoc}
use mathlib.Core.Logic.{◌⊎◌, inl, inr}
use Prim.Native.Nat.{ℕ, zero, suc, ◌+◌, ◌-◌, ◌*◌, ◌/◌, ◌%◌, ◌^◌, ◌≤◌, ◌<◌}
use native.Mathlib.Nat.{add-zero, pow-suc}
use native.Mathlib.Omega.{arith}
use borrow.Author.Tests.{ltb-true, ltb-false, lt-ltb, le-ltb, le-leb, eqb-true, eqb-false, ne_eqb}
use lib.Dec.{ltb, eqb}
use lib.ListN.{length, get_or, length-append}
use Rattle.rules.specs.declared.Fault.{Fault}
use Rattle.rules.specs.declared.Fault.TheVariants.{BadNumber, NumberTooLarge, KeyNotZero, NoLineEnd}
use Rattle.rules.specs.Text.{digit_text, last_digits, decimal}
use Rattle.std.specs.Cmp.Derive.{both_true}
use Rattle.rules.proofs.base.Bools.{by_test}
use Rattle.trace.specs.declared.numbers.Number.{Number}
use Rattle.trace.specs.Numbers.{Parsed, found, wrong, is_digit, digits_from, after_zero, number_in}
use Rattle.trace.specs.Written.{Small, starts_digit}
use Rattle.trace.proofs.Digits.{digit_least, digit_most}

-- the number may stand behind a key: it fits, and is 0 where the key isn't used
pub record Fit (used : Bool) (n : ℕ) : Type 0 where
  pub small : Small n
  pub unused : used ≡ false → n ≡ 0

-- two results of different kinds are never equal, and from them anything follows
pub differ : {P : Type 0} → ◌≡◌ {A = ℕ} 0 1 → P
differ e = absurd (omega arith)

-- ---- the last digits of a number

module _ (k n : ℕ) where
  pub one_digit : n < 10 → last_digits (suc k) n ≡ digit_text n ∷ []
  unfolding last_digits
  one_digit h = rw (lt-ltb n 10 h)

  pub more_digits : 10 ≤ n → last_digits (suc k) n ≡ last_digits k (n / 10) ++ (digit_text (n % 10) ∷ [])
  unfolding last_digits
  more_digits h = rw (le-ltb n 10 h)

  -- with a text behind it
  more_text : (rest : List ℕ) → 10 ≤ n → last_digits (suc k) n ++ rest ≡ last_digits k (n / 10) ++ (digit_text (n % 10) ∷ rest)
  more_text rest h = rw (more_digits h) (append_assoc (last_digits k (n / 10)) (digit_text (n % 10) ∷ []) rest)

  more_length : (i : ℕ) → 10 ≤ n → i + length (last_digits (suc k) n) ≡ i + length (last_digits k (n / 10)) + 1
  more_length i h = rw (more_digits h) (omega (arith, length-append (last_digits k (n / 10)) (digit_text (n % 10) ∷ [])))

pub by_digits : {P : Type 0} (n : ℕ) → (n < 10 → P) → (10 ≤ n → P) → P
by_digits n f g = by_test (ltb n 10) (λ h. f (ltb-true n 10 h)) (λ h. g (ltb-false n 10 h))

pub some_digit : (n : ℕ) → 1 ≤ length (decimal n)
some_digit n = by_digits n (λ f. rw (one_digit 19 n f) (omega arith)) (λ g. omega (arith, more_length 19 n 0 g))

pub few_digits : (k n : ℕ) → length (last_digits k n) ≤ k
unfolding last_digits
few_digits zero n = omega arith
few_digits (suc k) n = by_digits n (λ f. rw (one_digit k n f) (omega arith)) (λ g. omega (arith, more_length k n 0 g, few_digits k (n / 10)))

-- n has at most suc k digits, so one more changes nothing
wider : (k n : ℕ) → n < 10 ^ suc k → last_digits (suc k) n ≡ last_digits (suc (suc k)) n
wider zero n h = one_digit zero n h ∙ sym (one_digit 1 n h)
wider (suc k) n h =
    by_digits n
    (λ f. one_digit (suc k) n f ∙ sym (one_digit (suc (suc k)) n f))
    (λ g. more_digits (suc k) n g ∙ rw (wider k (n / 10) (omega (arith, pow-suc 10 (suc k)))) (sym (more_digits (suc (suc k)) n g)))

-- a digit behind a number
pub digit_behind : (v b : ℕ) → 0 < v → is_digit b ≡ true → Small (v * 10 + (b - 48)) → decimal (v * 10 + (b - 48)) ≡ decimal v ++ (b ∷ [])
digit_behind v b some h small =
    let n = v * 10 + (b - 48) in
    let f = digit_least b h in
    let g = digit_most b h in
    let q : n / 10 ≡ v = omega arith in
    let r : digit_text (n % 10) ≡ b = omega arith in
    more_digits 19 n (omega arith) ∙ rw (q, r, wider 18 v (omega arith))

-- a number of one digit
pub digit_alone : (v b : ℕ) → is_digit b ≡ true → v ≡ b - 48 → decimal v ≡ b ∷ []
digit_alone v b h e =
    let f = digit_least b h in
    let g = digit_most b h in
    let r : digit_text v ≡ b = omega arith in
    one_digit 19 v (omega arith) ∙ rw r

-- ---- read from the first digit on

pub digit_is : (d : ℕ) → d < 10 → is_digit (digit_text d) ≡ true
digit_is d h = both_true (le-leb 48 (48 + d) (omega arith)) (le-leb (48 + d) 57 (omega arith))

-- a digit more
digit_on : (v i d n : ℕ) (rest : List ℕ) → d < 10 → v * 10 + d ≡ n → Small n → digits_from v i (digit_text d ∷ rest) ≡ digits_from n (i + 1) rest
unfolding digits_from
digit_on v i d n rest h e small =
    let q : digit_text d - 48 ≡ d = omega arith in
    rw (digit_is d h, q, e, lt-ltb n (2 ^ 64) small)

-- the digits of n come to n, and reading goes on behind them
digits_back : (k n i : ℕ) (rest : List ℕ) → n < 10 ^ k → Small n → digits_from 0 i (last_digits k n ++ rest) ≡ digits_from n (i + length (last_digits k n)) rest
unfolding last_digits
digits_back zero n i rest h small =
    let e : n ≡ 0 = omega arith in
    rw (e, add-zero)
digits_back (suc k) n i rest h small =
    by_digits n
    (λ f. rw (one_digit k n f) (digit_on 0 i n n rest f (omega arith) small))
    (λ g. rw (more_text k n rest g, more_length k n i g)
    (digits_back k (n / 10) i (digit_text (n % 10) ∷ rest) (omega (arith, pow-suc 10 k)) (omega arith)
    ∙ digit_on (n / 10) (i + length (last_digits k (n / 10))) (n % 10) n rest (omega arith) (omega arith) small))

-- a text that begins with a digit other than 0
record Leads (t : List ℕ) : Type 0 where
  byte : ℕ
  others : List ℕ
  is : t ≡ byte ∷ others
  digit : is_digit byte ≡ true
  not_zero : eqb byte 48 ≡ false

-- the digits of a number but 0 do
leads : (k n : ℕ) (rest : List ℕ) → 0 < n → n < 10 ^ k → Leads (last_digits k n ++ rest)
leads zero n rest some h = absurd (omega arith)
leads (suc k) n rest some h =
    by_digits n
    (λ f. record { byte = digit_text n; others = rest; is = rw (one_digit k n f); digit = digit_is n f; not_zero = ne_eqb (digit_text n) 48 (λ e. absurd (omega arith)) })
    (λ g. rw (more_text k n rest g) (leads k (n / 10) (digit_text (n % 10) ∷ rest) (omega arith) (omega (arith, pow-suc 10 k))))

leads_in : (i : ℕ) (t : List ℕ) → Leads t → number_in true i t ≡ digits_from 0 i t
leads_in i t h = rw (h.is, h.digit, h.not_zero)

-- the decimal text of a number but 0, whatever is behind it
many_in : (n i : ℕ) (rest : List ℕ) → 0 < n → Small n → number_in true i (decimal n ++ rest) ≡ digits_from n (i + length (decimal n)) rest
many_in n i rest some small = leads_in i (decimal n ++ rest) (leads 20 n rest some (omega arith)) ∙ digits_back 20 n i rest (omega arith) small

zero_in : (used : Bool) (i : ℕ) (rest : List ℕ) → number_in used i (decimal 0 ++ rest) ≡ after_zero (i + length (decimal 0)) rest
zero_in used i rest = rw (one_digit 19 0 (omega arith))

-- no digit follows
number_ends : (v i : ℕ) (rest : List ℕ) → starts_digit rest ≡ false → digits_from v i rest ≡ found v i
unfolding digits_from
number_ends v i [] e = refl
number_ends v i (b ∷ s) e = rw e

zero_ends : (i : ℕ) (rest : List ℕ) → starts_digit rest ≡ false → after_zero i rest ≡ found 0 i
zero_ends i [] e = refl
zero_ends i (b ∷ s) e = rw e

is_used : (used : Bool) (n : ℕ) → Fit used (suc n) → used ≡ true
is_used true n fit = refl
is_used false n fit = absurd (let z = fit.unused refl in omega arith)

-- the decimal text of a number, with no digit behind it
pub written_in : (used : Bool) (n i : ℕ) (rest : List ℕ) → Fit used n → starts_digit rest ≡ false → number_in used i (decimal n ++ rest) ≡ found n (i + length (decimal n))
written_in used zero i rest fit e = zero_in used i rest ∙ zero_ends (i + length (decimal 0)) rest e
written_in used (suc n) i rest fit e =
    rw (is_used used n fit) (many_in (suc n) i rest (omega arith) fit.small ∙ number_ends (suc n) (i + length (decimal (suc n))) rest e)

-- ---- and nothing else

-- a digit b behind the digits of v that can't stand there
abbrev pub TooMany : ℕ → ℕ → Fault → Type 0
TooMany v b f = ((v ≡ 0) × (f ≡ BadNumber)) ⊎ ((2 ^ 64 ≤ v * 10 + (b - 48)) × (f ≡ NumberTooLarge))

-- no number begins with the text
abbrev pub NotFirst : Bool → Fault → List ℕ → Type 0
NotFirst used f [] = f ≡ NoLineEnd
NotFirst used f (b ∷ t) = ((is_digit b ≡ false) × (f ≡ BadNumber)) ⊎ ((is_digit b ≡ true) × (used ≡ false) × (b ≡ 48 → ⊥) × (f ≡ KeyNotZero))

-- what reading a number from place i on comes to, where the text t is left
pub data NumberReading (used : Bool) (i : ℕ) (t : List ℕ) (r : Parsed Number) : Type 0 where
  whole : (n : ℕ) (rest : List ℕ) → t ≡ decimal n ++ rest → Fit used n → starts_digit rest ≡ false → r ≡ found n (i + length (decimal n)) → NumberReading used i t r
  none : (f : Fault) → NotFirst used f t → r ≡ wrong f i → NumberReading used i t r
  broken : (v b : ℕ) (rest : List ℕ) (f : Fault) → t ≡ decimal v ++ (b ∷ rest) → Fit used v → is_digit b ≡ true → TooMany v b f → r ≡ wrong f (i + length (decimal v)) → NumberReading used i t r

pub always : (n : ℕ) → Small n → Fit true n
always n small = record { small = small; unused = λ e. absurd (true≢false e) }

-- the digits of v were read, and the text t is left
digits_reading : (v i : ℕ) (t : List ℕ) → 0 < v → Small v → NumberReading true i (decimal v ++ t) (digits_from v (i + length (decimal v)) t)
unfolding digits_from
digits_reading v i [] some small = whole v [] refl (always v small) refl refl
digits_reading v i (b ∷ t) some small =
    by_test (is_digit b) (λ h. by_test (ltb n (2 ^ 64)) (λ g. let fits = ltb-true n (2 ^ 64) g in more h g fits (digits_reading n i t (omega arith) fits)) (λ g. broken v b t NumberTooLarge refl (always v small) h (inr (ltb-false n (2 ^ 64) g, refl)) (rw (h, g))))
    (λ h. whole v (b ∷ t) refl (always v small) h (rw h))
  where
    n : ℕ
    n = v * 10 + (b - 48)

    more : is_digit b ≡ true → ltb n (2 ^ 64) ≡ true → Small n → NumberReading true i (decimal n ++ t) (digits_from n (i + length (decimal n)) t)
        → NumberReading true i (decimal v ++ (b ∷ t)) (digits_from v (i + length (decimal v)) (b ∷ t))
    more h g fits rest =
        let e = digit_behind v b some h fits in
        let l : i + length (decimal v) + 1 ≡ i + length (decimal n) = rw e (omega (arith, length-append (decimal v) (b ∷ []))) in
        let d : decimal n ++ t ≡ decimal v ++ (b ∷ t) = rw e (append_assoc (decimal v) (b ∷ []) t) in
        rw (h, g, l, ← d) rest

pub none_fits : (used : Bool) → Fit used 0
none_fits used = record { small = omega arith; unused = λ e. refl }

zero_reading : (used : Bool) (i : ℕ) (t : List ℕ) → NumberReading used i (decimal 0 ++ t) (after_zero (i + length (decimal 0)) t)
zero_reading used i [] = whole 0 [] refl (none_fits used) refl refl
zero_reading used i (b ∷ t) =
    by_test (is_digit b)
    (λ h. broken 0 b t BadNumber refl (none_fits used) h (inl (refl, refl)) (rw h))
    (λ h. whole 0 (b ∷ t) refl (none_fits used) h (rw h))

-- reading is one of these
pub number_reading : (used : Bool) (i : ℕ) (t : List ℕ) → NumberReading used i t (number_in used i t)
number_reading used i [] = none NoLineEnd refl refl
number_reading used i (b ∷ t) = by_test (is_digit b) (λ h. by_test (eqb b 48) alone (λ z. first used h z)) (λ h. none BadNumber (inl (h, refl)) (rw h))
  where
    alone : eqb b 48 ≡ true → NumberReading used i (b ∷ t) (number_in used i (b ∷ t))
    alone z =
        let d : decimal 0 ++ t ≡ b ∷ t = rw (one_digit 19 0 (omega arith), eqb-true b 48 z) in
        subst (λ x. NumberReading used i x (number_in used i x)) d (rw (zero_in used i t) (zero_reading used i t))

    first : (used : Bool) → is_digit b ≡ true → eqb b 48 ≡ false → NumberReading used i (b ∷ t) (number_in used i (b ∷ t))
    first true h z =
        let f = digit_least b h in
        let n : ℕ = b - 48 in
        let some : 0 < n = omega (arith, eqb-false b 48 z) in
        let small : Small n = omega (arith, digit_most b h) in
        let d : decimal n ++ t ≡ b ∷ t = rw (digit_alone n b h refl) in
        subst (λ x. NumberReading true i x (number_in true i x)) d (rw (many_in n i t some small) (digits_reading n i t some small))
    first false h z = none KeyNotZero (inr (h, refl, eqb-false b 48 z, refl)) (rw (h, z))

-- the first digit of a number, which is 0 for 0 alone
pub first_digit : (n c : ℕ) (rest more : List ℕ) → Small n → decimal n ++ rest ≡ c ∷ more → (is_digit c ≡ true) × (n ≡ 0 → c ≡ 48)
first_digit zero c rest more small e =
    let zero : decimal 0 ++ rest ≡ 48 ∷ rest = rw (one_digit 19 0 (omega arith)) in
    let h : c ≡ 48 = ap (λ t. get_or t 0 0) (sym e ∙ zero) in
    (rw h, λ z. h)
first_digit (suc n) c rest more small e =
    let l = leads 20 (suc n) rest (omega arith) (omega arith) in
    let h : c ≡ l.byte = ap (λ t. get_or t 0 0) (sym e ∙ l.is) in
    (rw h l.digit, λ z. absurd (omega arith))

-- ---- two texts that begin with a number's decimal text

abbrev value_of : Parsed Number → ℕ
value_of (Ok n) = n.value
value_of (Err w) = 0

-- what is behind them begins with no digit, so the numbers are the same
pub same_number : (m n : ℕ) (t u : List ℕ) → Small m → Small n → starts_digit t ≡ false → starts_digit u ≡ false → decimal m ++ t ≡ decimal n ++ u → m ≡ n
same_number m n t u small-m small_n t-ends u-ends e =
    let p : found m (0 + length (decimal m)) ≡ found n (0 + length (decimal n)) =
    sym (written_in true m 0 t (always m small-m) t-ends) ∙ rw e (written_in true n 0 u (always n small_n) u-ends) in
    ap value_of p

-- the number that no digit follows is one that a digit b behind n goes on to: n is not 0, and with b it fits
pub digit_goes_on : (m n b : ℕ) (t u : List ℕ) → Small m → Small n → starts_digit t ≡ false → is_digit b ≡ true → decimal m ++ t ≡ decimal n ++ (b ∷ u) → (0 < n) × Small (n * 10 + (b - 48))
unfolding digits_from
digit_goes_on m n b t u small-m small_n t-ends digit e = go n small_n (sym (rw (← e) (written_in true m 0 t (always m small-m) t-ends)))
  where
    go : (n : ℕ) → Small n → found m (0 + length (decimal m)) ≡ number_in true 0 (decimal n ++ (b ∷ u)) → (0 < n) × Small (n * 10 + (b - 48))
    go zero small h = differ (let w : found m (0 + length (decimal m)) ≡ wrong BadNumber (0 + length (decimal 0)) = h ∙ (zero_in true 0 (b ∷ u) ∙ rw digit) in cc)
    go (suc k) small h =
        by_test (ltb (suc k * 10 + (b - 48)) (2 ^ 64))
        (λ g. (omega arith, ltb-true (suc k * 10 + (b - 48)) (2 ^ 64) g))
        (λ g. differ (let w : found m (0 + length (decimal m)) ≡ wrong NumberTooLarge (0 + length (decimal (suc k))) = h ∙ (many_in (suc k) 0 (b ∷ u) (omega arith) small ∙ rw (digit, g)) in cc))
