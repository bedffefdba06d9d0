-- What may stand behind the first bytes of a good line: the bytes lead to a place in a key, before a number, or in one; and what is due there.
-- Assumes nothing.
use mathlib.Core.Path.{◌≡◌, refl, sym, ◌∙◌, ap}
use mathlib.Core.Bool.{Bool, true, false, cond}
use mathlib.Core.List.{List, [], ◌∷◌, ◌++◌, append_assoc}
use mathlib.Core.Logic.{◌⊎◌, inl, inr}
use Prim.Native.Nat.{ℕ, ◌+◌, ◌-◌, ◌*◌, ◌<◌}
use native.Mathlib.Omega.{arith}
use lib.Dec.{eqb}
use lib.ListN.{get_or}
use Rattle.rules.specs.declared.Fault.{Fault}
use Rattle.rules.specs.declared.Fault.TheVariants.{WrongKey, NoLineEnd}
use Rattle.rules.specs.Text.{lf, decimal}
use Rattle.rules.proofs.base.Bools.{by_test}
use Rattle.trace.specs.declared.Kind.{Kind}
use Rattle.trace.specs.Numbers.{is_digit}
use Rattle.trace.specs.Trace.{Field, op_text}
use Rattle.trace.specs.Written.{Small, starts_digit}
use Rattle.trace.specs.Columns.{Continues}
use Rattle.trace.proofs.Digits.{digit_least, digit_most}
use Rattle.trace.proofs.lines.Decimal.{Fit, TooMany, NotFirst, none_fits, digit_alone, digit_behind, first_digit, same_number, digit_goes_on}
use Rattle.trace.proofs.lines.GoodLines.{Keyed, Good, FieldThen, first_byte, Begins, begins, first_plain, same_rest, same_byte}

-- ---- what is due

-- the first letter of an op's name, which stands behind `op=`
abbrev pub letter : Kind → ℕ
letter k = get_or (op_text k) 3 0

-- the first letter of some op; a byte of fixed text; the first digit of a number, and whether its key is used; or more digits of a number, or the byte behind it
pub data Due : Type 0 where
  some_op : Due
  text : ℕ → Due
  digit : Bool → Due
  behind : ℕ → ℕ → Due

-- the byte may stand there
abbrev pub Accepts : Due → ℕ → Type 0
Accepts some_op c = (k : Kind) × (c ≡ letter k)
Accepts (text k) c = c ≡ k
Accepts (digit used) c = (is_digit c ≡ true) × (used ≡ false → c ≡ 48)
Accepts (behind v k) c = (c ≡ k) ⊎ ((is_digit c ≡ true) × (0 < v) × Small (v * 10 + (c - 48)))

-- fixed text is broken off; LF is the line's end
abbrev pub text_fault : ℕ → Fault
text_fault k = cond (eqb k 10) NoLineEnd WrongKey

-- the text goes on with what is not due
abbrev pub Off : Due → Fault → List ℕ → Type 0
Off some_op f [] = f ≡ NoLineEnd
Off some_op f (b ∷ rest) = ((k : Kind) → b ≡ letter k → ⊥) × (f ≡ WrongKey)
Off (text k) f [] = f ≡ NoLineEnd
Off (text k) f (b ∷ rest) = (b ≡ k → ⊥) × (f ≡ text_fault k)
Off (digit used) f rest = NotFirst used f rest
Off (behind v k) f [] = f ≡ NoLineEnd
Off (behind v k) f (b ∷ rest) = ((is_digit b ≡ true) × TooMany v b f) ⊎ ((is_digit b ≡ false) × (b ≡ k → ⊥) × (f ≡ text_fault k))

-- ---- where the first bytes of a line lead

-- in the first field, behind which c comes; or further
pub data InField (f : Field) (c : ℕ) (Further : List ℕ → Due → Type 0) (p : List ℕ) (q : Due) : Type 0 where
  in_key : (k : ℕ) (others : List ℕ) → f.key ≡ p ++ (k ∷ others) → q ≡ text k → InField f c Further p q
  at_number : p ≡ f.key → q ≡ digit f.used → InField f c Further p q
  in_number : (v : ℕ) → Fit f.used v → p ≡ f.key ++ decimal v → q ≡ behind v c → InField f c Further p q
  further : (v b : ℕ) (more : List ℕ) → Fit f.used v → p ≡ f.key ++ (decimal v ++ (b ∷ more)) → is_digit b ≡ false → Further (b ∷ more) q → InField f c Further p q

-- q is due behind the bytes p of a line over the fields
unfoldable pub Leads : List Field → List ℕ → Due → Type 0
Leads [] p q = ⊥
Leads (f ∷ fs) p q = InField f (first_byte fs) (Leads fs) p q

-- some numbers make the line good
pub record GoodLine (fs : List Field) (line : List ℕ) : Type 0 where
  pub values : List ℕ
  pub good : Good fs values line

-- ---- the byte that is due goes on to a good line

-- a field in front of a good line
pub in_front_lem : (f : Field) (fs : List Field) (n : ℕ) (rest line : List ℕ) → Fit f.used n → GoodLine fs rest → line ≡ f.key ++ (decimal n ++ rest) → GoodLine (f ∷ fs) line
unfolding Good
in_front_lem f fs n rest line fit good is =
    record { values = n ∷ good.values; good = record { value = n; values = good.values; rest = rest; all = refl; fit = fit; text = is; others = good.good } }

-- the line whose numbers are 0
pub zero_line : List Field → List ℕ
zero_line [] = lf
zero_line (f ∷ fs) = f.key ++ (decimal 0 ++ zero_line fs)

pub zeros : (fs : List Field) → GoodLine fs (zero_line fs)
unfolding Good zero_line
zeros [] = record { values = []; good = (refl, refl) }
zeros (f ∷ fs) = in_front_lem f fs 0 (zero_line fs) _ (none_fits f.used) (zeros fs) refl

three_parts : (x y z w : List ℕ) → (x ++ (y ++ z)) ++ w ≡ x ++ (y ++ (z ++ w))
three_parts x y z w = append_assoc x (y ++ z) w ∙ ap (λ r. x ++ r) (append_assoc y z w)

pub goes : (fs : List Field) (p : List ℕ) (q : Due) (c : ℕ) → Keyed fs → Leads fs p q → Accepts q c → Continues (GoodLine fs) p c
unfolding Leads Keyed
goes [] p q c keyed leads accepts = absurd leads
goes (f ∷ fs) p q c keyed (in_key k others key q-is) accepts =
    let rest = decimal 0 ++ zero_line fs in
    let same : c ≡ k = rw q-is at accepts in (
      others ++ rest,
      in_front_lem f fs 0 (zero_line fs) _ (none_fits f.used) (zeros fs)
          (rw (same, key) (append_assoc p (k ∷ []) (others ++ rest) ∙ sym (append_assoc p (k ∷ others) rest))),
    )
goes (f ∷ fs) p q c keyed (at_number p-is q-is) accepts =
    let h : Accepts (digit f.used) c = rw q-is at accepts in
    let least = digit_least c h.0 in
    let most = digit_most c h.0 in (
      zero_line fs,
      in_front_lem f fs (c - 48) (zero_line fs) _ (record { small = omega arith; unused = λ e. let z = h.1 e in omega arith }) (zeros fs)
          (rw (p-is, digit_alone (c - 48) c h.0 refl) (append_assoc f.key (c ∷ []) (zero_line fs))),
    )
goes (f ∷ fs) p q c keyed (in_number v fit p-is q-is) accepts = number_goes (rw q-is at accepts)
  where
    one_more : (rest : List ℕ) → ((f.key ++ decimal v) ++ (c ∷ [])) ++ rest ≡ f.key ++ (decimal v ++ (c ∷ rest))
    one_more rest = append_assoc (f.key ++ decimal v) (c ∷ []) rest ∙ append_assoc f.key (decimal v) (c ∷ rest)

    number_goes : Accepts (behind v (first_byte fs)) c → Continues (GoodLine (f ∷ fs)) p c
    number_goes (inl same) =
        let b = begins fs (zeros fs).values (zero_line fs) keyed.2 (zeros fs).good in
        let next : zero_line fs ≡ c ∷ b.others = b.is ∙ rw same in (
          b.others,
          in_front_lem f fs v (zero_line fs) _ fit (zeros fs)
              (rw p-is (one_more b.others) ∙ ap (λ z. f.key ++ (decimal v ++ z)) (sym next)),
        )
    number_goes (inr h) =
        let n = v * 10 + (c - 48) in
        let unused : f.used ≡ false → n ≡ 0 = λ e. absurd (let z = fit.unused e in let s = h.1 in omega arith) in
        let e = digit_behind v c h.1 h.0 h.2 in (
          zero_line fs,
          in_front_lem f fs n (zero_line fs) _ (record { small = h.2; unused = unused }) (zeros fs)
              (rw (p-is, e) (one_more (zero_line fs) ∙ ap (λ z. f.key ++ z) (sym (append_assoc (decimal v) (c ∷ []) (zero_line fs))))),
        )
goes (f ∷ fs) p q c keyed (further v b more fit p-is plain leads) accepts =
    let r = goes fs (b ∷ more) q c keyed.2 leads accepts in (
      r.0,
      in_front_lem f fs v _ _ fit r.1
          (rw p-is (append_assoc (f.key ++ (decimal v ++ (b ∷ more))) (c ∷ []) r.0 ∙ (three_parts f.key (decimal v) (b ∷ more) (c ∷ r.0)
          ∙ ap (λ z. f.key ++ (decimal v ++ z)) (sym (append_assoc (b ∷ more) (c ∷ []) r.0))))),
    )

-- ---- and no other byte does

module _ (f : Field) (fs : List Field) (keyed : Keyed fs) (p : List ℕ) (q : Due) (c : ℕ) (deeper : (p : List ℕ) → Leads fs p q → Continues (GoodLine fs) p c → Accepts q c)
    (more ns : List ℕ) (given : FieldThen f (Good fs) ns ((p ++ (c ∷ [])) ++ more)) where
  abbrev value : ℕ
  value = given.value

  abbrev rest : List ℕ
  rest = given.rest

  whole : p ++ (c ∷ more) ≡ f.key ++ (decimal value ++ rest)
  whole = sym (append_assoc p (c ∷ []) more) ∙ given.text

  next_begins : Begins fs rest
  next_begins = begins fs given.values rest keyed given.others

  ends : starts_digit rest ≡ false
  ends = rw next_begins.is (first_plain fs keyed)

  -- the bytes p are the key and the digits of v, and x is behind them
  number_is : (v : ℕ) (x : List ℕ) → p ++ (c ∷ more) ≡ f.key ++ (decimal v ++ x) → decimal v ++ x ≡ decimal value ++ rest
  number_is v x e = same_rest f.key (decimal v ++ x) (decimal value ++ rest) (sym e ∙ whole)

  -- and no digit is behind them
  rest_is : (v : ℕ) (x : List ℕ) → Small v → starts_digit x ≡ false → p ++ (c ∷ more) ≡ f.key ++ (decimal v ++ x) → x ≡ rest
  rest_is v x small ends-x e =
      let h = number_is v x e in
      let same = same_number v value x rest small given.fit.small ends-x ends h in
      same_rest (decimal value) x rest (rw same at h)

  number_needs : (v : ℕ) → Fit f.used v → p ≡ f.key ++ decimal v → Accepts (behind v (first_byte fs)) c
  number_needs v fit p-is = by_test (is_digit c) (λ h. inr (goes_on h)) (λ h. inl (last h))
    where
      e : p ++ (c ∷ more) ≡ f.key ++ (decimal v ++ (c ∷ more))
      e = ap (λ x. x ++ (c ∷ more)) p-is ∙ append_assoc f.key (decimal v) (c ∷ more)

      goes_on : is_digit c ≡ true → (is_digit c ≡ true) × (0 < v) × Small (v * 10 + (c - 48))
      goes_on h =
          let r = digit_goes_on value v c rest more given.fit.small fit.small ends h (sym (number_is v (c ∷ more) e)) in
          (h, r.0, r.1)

      last : is_digit c ≡ false → c ≡ first_byte fs
      last h = (same_byte c (first_byte fs) more next_begins.others (rest_is v (c ∷ more) fit.small h e ∙ next_begins.is)).0

  first_needs : p ≡ f.key → Accepts (digit f.used) c
  first_needs p-is =
      let e = same_rest f.key (c ∷ more) (decimal value ++ rest) (ap (λ x. x ++ (c ∷ more)) (sym p-is) ∙ whole) in
      let h = first_digit value c rest more given.fit.small (sym e) in
      (h.0, λ u. h.1 (given.fit.unused u))

  key_needs : (k : ℕ) (others : List ℕ) → f.key ≡ p ++ (k ∷ others) → c ≡ k
  key_needs k others key =
      let r = decimal value ++ rest in
      let e : p ++ (c ∷ more) ≡ p ++ (k ∷ (others ++ r)) = whole ∙ (ap (λ x. x ++ r) key ∙ append_assoc p (k ∷ others) r) in
      (same_byte c k more (others ++ r) (same_rest p (c ∷ more) (k ∷ (others ++ r)) e)).0

  field_needs : InField f (first_byte fs) (Leads fs) p q → Accepts q c
  field_needs (in_key k others key q-is) = rw q-is (key_needs k others key)
  field_needs (at_number p-is q-is) = rw q-is (first_needs p-is)
  field_needs (in_number v fit p-is q-is) = rw q-is (number_needs v fit p-is)
  field_needs (further v b others fit p-is plain leads) =
      let x = b ∷ others in
      let e : p ++ (c ∷ more) ≡ f.key ++ (decimal v ++ (x ++ (c ∷ more))) = ap (λ y. y ++ (c ∷ more)) p-is ∙ three_parts f.key (decimal v) x (c ∷ more) in
      let r = rest_is v (x ++ (c ∷ more)) fit.small plain e in
      deeper x leads (more, record { values = given.values; good = rw (append_assoc x (c ∷ []) more, r) given.others })

pub needs : (fs : List Field) (p : List ℕ) (q : Due) (c : ℕ) → Keyed fs → Leads fs p q → Continues (GoodLine fs) p c → Accepts q c
unfolding Leads Keyed Good
needs [] p q c keyed leads line = absurd leads
needs (f ∷ fs) p q c keyed leads line = field_needs f fs keyed.2 p q c (λ p' leads line. needs fs p' q c keyed.2 leads line) line.0 line.1.values line.1.good leads
