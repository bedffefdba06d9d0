-- A step's line is a line of some op; what is due in it is what is due for its op, but behind `op=`, where the first letter of any op may stand.
-- Assumes nothing.
use mathlib.Core.Path.{◌≡◌, refl, sym, ◌∙◌, ap}
use mathlib.Core.List.{List, [], ◌∷◌, ◌++◌, append-nil}
use Prim.Native.Nat.{ℕ, ◌+◌}
use native.Mathlib.Omega.{arith}
use borrow.Author.Tests.{eqb-true, eqb-false, ne_eqb}
use lib.Dec.{eqb}
use lib.ListN.{length, take, drop, get_or, length-append}
use lib.Seq.{take-append_seam, drop-drop}
use Rattle.rules.specs.declared.Fault.{Fault}
use Rattle.rules.specs.Text.{decimal}
use Rattle.rules.proofs.base.Bools.{by_test}
use Rattle.trace.specs.declared.Kind.{Kind}
use Rattle.trace.specs.Trace.{cache_key, op_text, fields_of, kind_by, kind_at}
use Rattle.trace.specs.Columns.{GoodStep, last_number, Starts, Continues}
use Rattle.trace.proofs.lines.Stands.{Stands}
use Rattle.trace.proofs.lines.Due.{Due, letter, Accepts, Off, InField, Leads, GoodLine, zeros}
use Rattle.trace.proofs.lines.Expects.{Expects, leads_expects, expects_starts, letter_plain}
use Rattle.trace.proofs.lines.WrittenLines.{step_keyed, spelt, op_in, step_written}
use Rattle.trace.proofs.ReadsBack.{OpLine, op_text_lem, op_line, by_letter}

-- ---- the lines of all ops

pub of_kind : (k : Kind) (line : List ℕ) → GoodLine (fields_of k) line → GoodStep line
of_kind k line g =
    let w = step_written g.values line k g.good in
    record { op = op_in g.values line k; fits = w.0; written = w.1 }

pub some_kind : (line : List ℕ) → GoodStep line → (k : Kind) × GoodLine (fields_of k) line
some_kind line g =
    let w = spelt g.op g.fits in
    (w.kind, record { values = w.values; good = rw g.written w.good })

pub same_letter : (k j : Kind) → letter k ≡ letter j → k ≡ j
same_letter k j e = sym (by_letter k []) ∙ (ap (λ b. kind_by (b ∷ [])) e ∙ by_letter j [])

-- `op=`
abbrev pub op_key : List ℕ
op_key = 111 ∷ 112 ∷ 61 ∷ []

op_begins : (k : Kind) (line : List ℕ) → GoodLine (fields_of k) line → OpLine k line
op_begins k line g = op_line k g.values line g.good

-- ---- elsewhere than behind `op=`

-- the same bytes start a line of k and, with c behind them, one of j: so do they with c for k
module _ (k j : Kind) (c : ℕ) where
  carry : (p : List ℕ) → (length p ≡ 3 → ⊥) → Starts (GoodLine (fields_of k)) p → Continues (GoodLine (fields_of j)) p c → Continues (GoodLine (fields_of k)) p c
  carry [] elsewhere starts more =
      let x = op_begins k _ starts.1 in
      let y = op_begins j _ more.1 in
      let e : c ≡ 111 = ap (λ t. get_or t 0 0) y.is in
      (112 ∷ 61 ∷ letter k ∷ x.others, rw (e, ← x.is) starts.1)
  carry (a ∷ []) elsewhere starts more =
      let x = op_begins k _ starts.1 in
      let y = op_begins j _ more.1 in
      let e : c ≡ 112 = ap (λ t. get_or t 1 0) y.is in
      let m : starts.0 ≡ 112 ∷ 61 ∷ letter k ∷ x.others = ap (drop 1) x.is in
      (61 ∷ letter k ∷ x.others, rw (e, ← m) starts.1)
  carry (a ∷ b ∷ []) elsewhere starts more =
      let x = op_begins k _ starts.1 in
      let y = op_begins j _ more.1 in
      let e : c ≡ 61 = ap (λ t. get_or t 2 0) y.is in
      let m : starts.0 ≡ 61 ∷ letter k ∷ x.others = ap (drop 2) x.is in
      (letter k ∷ x.others, rw (e, ← m) starts.1)
  carry (a ∷ b ∷ d ∷ []) elsewhere starts more = absurd (elsewhere refl)
  carry (a ∷ b ∷ d ∷ l ∷ p) elsewhere starts more =
      let x = op_begins k _ starts.1 in
      let y = op_begins j _ more.1 in
      let e : letter j ≡ letter k = sym (ap (λ t. get_or t 3 0) y.is) ∙ ap (λ t. get_or t 3 0) x.is in
      rw (← same_letter j k e) more

elsewhere_expects : (k : Kind) (p : List ℕ) (q : Due) → Leads (fields_of k) p q → (length p ≡ 3 → ⊥) → Expects GoodStep p q
elsewhere_expects k p q leads elsewhere =
    let x = leads_expects (fields_of k) p q (step_keyed k) leads in
    record {
      goes_on = λ c a. let l = x.goes_on c a in (l.0, of_kind k _ l.1);
      needed = λ c l. let j = some_kind _ l.1 in x.needed c (carry k j.0 c p elsewhere (expects_starts (GoodLine (fields_of k)) p q x) (l.0, j.1));
      ends_with = x.ends_with;
      sound = x.sound;
    }

-- ---- behind `op=`

op_expects : Expects GoodStep op_key Due.some_op
unfolding last_number
op_expects = record { goes_on = goes; needed = needs; ends_with = refl; sound = tt }
  where
    goes : (c : ℕ) → Accepts Due.some_op c → Continues GoodStep op_key c
    goes c a =
        let g = zeros (fields_of a.0) in
        let o = op_begins a.0 _ g in
        (o.others, of_kind a.0 _ (rw (a.1, ← o.is) g))

    needs : (c : ℕ) → Continues GoodStep op_key c → Accepts Due.some_op c
    needs c l =
        let j = some_kind _ l.1 in
        (j.0, ap (λ t. get_or t 3 0) (op_begins j.0 _ j.1).is)

-- the key is longer than `op=`
too_long : {P : Type 0} (k : Kind) (x : List ℕ) → op_key ≡ (op_text k ++ cache_key) ++ x → P
too_long k x e =
    let o = op_text_lem k in
    absurd (omega (arith, ap length (e ∙ ap (λ t. t ++ x) o.1), length-append o.0 x))

-- the op's name goes on there
op_leads : (k : Kind) (q : Due) → Leads (fields_of k) op_key q → q ≡ Due.text (letter k)
unfolding Leads
op_leads k q (InField.in_key b others key q-is) = q-is ∙ ap Due.text (ap (λ t. get_or t 3 0) (sym key ∙ (op_text_lem k).1))
op_leads k q (InField.at_number p-is q-is) = too_long k [] (p-is ∙ sym (append-nil (op_text k ++ cache_key)))
op_leads k q (InField.in_number v fit p-is q-is) = too_long k (decimal v) p-is
op_leads k q (InField.further v b more fit p-is nondigit deeper) = too_long k (decimal v ++ (b ∷ more)) p-is

-- no op begins with the letter there, since the line was read as of the op whose letter it is
op_off : (s : List ℕ) (at : ℕ) (f : Fault) (rest : List ℕ) → drop (at + 3) s ≡ rest → Off (Due.text (letter (kind_at s at))) f rest → Off Due.some_op f rest
unfolding kind_at
op_off s at f [] e off = off
op_off s at f (b ∷ rest) e off = (none, off.1 ∙ rw (ne_eqb (letter (kind_at s at)) 10 (λ z. (letter_plain (kind_at s at)).1 (sym z))))
  where
    none : (k : Kind) → b ≡ letter k → ⊥
    none k h =
        let is : kind_at s at ≡ k = rw (drop-drop 3 at s, e, h) (by_letter k rest) in
        off.0 (h ∙ rw is)

-- ---- anywhere

-- the bytes that lead to it are `op=`
op_stands : (k : Kind) (p : List ℕ) → Starts (GoodLine (fields_of k)) p → length p ≡ 3 → p ≡ op_key
op_stands k p starts h = sym (rw h at (take-append_seam p starts.0)) ∙ ap (take 3) (op_begins k _ starts.1).is

-- what is due in a step's line
pub record StepDue (p : List ℕ) (f : Fault) (rest : List ℕ) : Type 0 where
  pub due : Due
  pub expects : Expects GoodStep p due
  pub off : Off due f rest

pub step_due : (s : List ℕ) (at place : ℕ) (p : List ℕ) (q : Due) (f : Fault) → Leads (fields_of (kind_at s at)) p q → Off q f (drop place s) → Stands s at p place → StepDue p f (drop place s)
step_due s at place p q f leads off stood =
    by_test (eqb (length p) 3) (λ e. behind_op (eqb-true (length p) 3 e)) (λ e. record { due = q; expects = elsewhere_expects (kind_at s at) p q leads (eqb-false (length p) 3 e); off = off })
  where
    behind_op : length p ≡ 3 → StepDue p f (drop place s)
    behind_op h =
        let k = kind_at s at in
        let is : p ≡ op_key = op_stands k p (expects_starts (GoodLine (fields_of k)) p q (leads_expects (fields_of k) p q (step_keyed k) leads)) h in
        let there : at + 3 ≡ place = omega (arith, stood.after, h) in
        let text : q ≡ Due.text (letter k) = op_leads k q (rw is at leads) in
        record { due = Due.some_op; expects = rw is op_expects; off = op_off s at f (drop place s) (rw there) (rw text at off) }
