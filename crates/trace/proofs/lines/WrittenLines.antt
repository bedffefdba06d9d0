-- The good lines over the fields of the first line, and of a step's, are those that are written.
-- Assumes nothing.
use mathlib.Core.Path.{◌≡◌, refl, sym, ◌∙◌, ap}
use mathlib.Core.Bool.{true, false}
use mathlib.Core.List.{List, [], ◌∷◌, ◌++◌, append_assoc}
use Prim.Native.Nat.{ℕ, ◌<◌}
use native.Mathlib.Omega.{arith}
use lib.ListN.{length, get_or}
use Rattle.rules.specs.declared.Op.{Op}
use Rattle.rules.specs.declared.Op.TheVariants.{Load, Store, Commit, Abort, Reset, Evict}
use Rattle.rules.specs.Text.{lf, data_key, decimal}
use Rattle.trace.specs.declared.Kind.{Kind}
use Rattle.trace.specs.declared.Kind.TheVariants.{AskLoad, AskStore, AskCommit, AskAbort, AskReset, AskEvict}
use Rattle.trace.specs.Trace.{cache_key, vid_key, at_key, op_text, uses_of, fields_of, first_fields, op_of}
use Rattle.trace.specs.Written.{first_text, written_line, step_text, Small, Fits}
use Rattle.trace.proofs.lines.Decimal.{Fit, always, none_fits}
use Rattle.trace.proofs.lines.GoodLines.{Keyed, Good, plain}

-- ---- the first line

pub first_keyed : Keyed first_fields
unfolding Keyed plain
first_keyed = (omega arith, refl, tt)

pub first_good : (n : ℕ) (line : List ℕ) → Small n → line ≡ first_text n → Good first_fields (n ∷ []) line
unfolding Good
first_good n line small e = record { value = n; values = []; rest = lf; all = refl; fit = always n small; text = e; others = (refl, refl) }

pub first_written : (ns line : List ℕ) → Good first_fields ns line → Small (get_or ns 0 0) × (line ≡ first_text (get_or ns 0 0))
unfolding Good
first_written ns line good =
    let n : get_or ns 0 0 ≡ good.value = rw good.all in
    rw n (good.fit.small, good.text ∙ rw good.others.1)

-- ---- a step's line

key_plain : (k : Kind) → (0 < length (op_text k ++ cache_key)) × (plain (op_text k ++ cache_key) ≡ true)
unfolding plain
key_plain AskLoad = (omega arith, refl)
key_plain AskStore = (omega arith, refl)
key_plain AskCommit = (omega arith, refl)
key_plain AskAbort = (omega arith, refl)
key_plain AskReset = (omega arith, refl)
key_plain AskEvict = (omega arith, refl)

pub step_keyed : (k : Kind) → Keyed (fields_of k)
unfolding Keyed plain
step_keyed k = ((key_plain k).0, (key_plain k).1, (omega arith, refl, (omega arith, refl, (omega arith, refl, tt))))

-- the four numbers of a line
pub record Four (k : Kind) (ns line : List ℕ) : Type 0 where
  pub cache : ℕ
  pub vid : ℕ
  pub at : ℕ
  pub word : ℕ
  pub all : ns ≡ cache ∷ vid ∷ at ∷ word ∷ []
  pub text : line ≡ written_line k cache vid at word
  pub cache_fits : Fit (uses_of k).cache cache
  pub vid_fits : Fit (uses_of k).vid vid
  pub at_fits : Fit (uses_of k).at at
  pub word_fits : Fit (uses_of k).word word

pub good_four : (k : Kind) (ns line : List ℕ) → Good (fields_of k) ns line → Four k ns line
unfolding Good written_line
good_four k ns line c =
    let v = c.others in
    let x = v.others in
    let d = x.others in
    record {
      cache = c.value;
      vid = v.value;
      at = x.value;
      word = d.value;
      all = c.all ∙ ap (λ t. c.value ∷ t) (v.all ∙ ap (λ t. v.value ∷ t) (x.all ∙ ap (λ t. x.value ∷ t) (d.all ∙ ap (λ t. d.value ∷ t) d.others.0)));
      text =
          c.text ∙ (append_assoc (op_text k) cache_key (decimal c.value ++ c.rest)
          ∙ ap (λ t. op_text k ++ (cache_key ++ (decimal c.value ++ t))) (v.text
          ∙ ap (λ t. vid_key ++ (decimal v.value ++ t)) (x.text
          ∙ ap (λ t. at_key ++ (decimal x.value ++ t)) (d.text
          ∙ ap (λ t. data_key ++ (decimal d.value ++ t)) d.others.1))));
      cache_fits = c.fit;
      vid_fits = v.fit;
      at_fits = x.fit;
      word_fits = d.fit;
    }

module _ (k : Kind) (c v x d : ℕ) (c-fits : Fit (uses_of k).cache c) (v-fits : Fit (uses_of k).vid v) (x_Fits : Fit (uses_of k).at x) (d-fits : Fit (uses_of k).word d) where
  pub four_good : Good (fields_of k) (c ∷ v ∷ x ∷ d ∷ []) (written_line k c v x d)
  unfolding Good written_line
  four_good =
      let word = data_key ++ (decimal d ++ lf) in
      let place = at_key ++ (decimal x ++ word) in
      let vid = vid_key ++ (decimal v ++ place) in
      record {
        value = c;
        values = v ∷ x ∷ d ∷ [];
        rest = vid;
        all = refl;
        fit = c-fits;
        text = sym (append_assoc (op_text k) cache_key (decimal c ++ vid));
        others = record {
          value = v;
          values = x ∷ d ∷ [];
          rest = place;
          all = refl;
          fit = v-fits;
          text = refl;
          others = record {
            value = x;
            values = d ∷ [];
            rest = word;
            all = refl;
            fit = x_Fits;
            text = refl;
            others = record { value = d; values = []; rest = lf; all = refl; fit = d-fits; text = refl; others = (refl, refl) };
          };
        };
      }

-- the kind and the numbers that a step's line is written with
pub record Spelt (op : Op) : Type 0 where
  pub kind : Kind
  pub values : List ℕ
  pub good : Good (fields_of kind) values (step_text op)
  pub is : op_of kind (get_or values 0 0) (get_or values 1 0) (get_or values 2 0) (get_or values 3 0) ≡ op

pub spelt : (op : Op) → Fits op → Spelt op
unfolding step_text
spelt (Load c v x) fits =
    record { kind = AskLoad; values = c ∷ v ∷ x ∷ 0 ∷ []; good = four_good AskLoad c v x 0 (always c fits.0) (always v fits.1) (always x fits.2) (none_fits false); is = refl }
spelt (Store c v x d) fits =
    record { kind = AskStore; values = c ∷ v ∷ x ∷ d ∷ []; good = four_good AskStore c v x d (always c fits.0) (always v fits.1) (always x fits.2) (always d fits.3); is = refl }
spelt (Commit v) fits =
    record { kind = AskCommit; values = 0 ∷ v ∷ 0 ∷ 0 ∷ []; good = four_good AskCommit 0 v 0 0 (none_fits false) (always v fits) (none_fits false) (none_fits false); is = refl }
spelt Abort fits =
    record { kind = AskAbort; values = 0 ∷ 0 ∷ 0 ∷ 0 ∷ []; good = four_good AskAbort 0 0 0 0 (none_fits false) (none_fits false) (none_fits false) (none_fits false); is = refl }
spelt Reset fits =
    record { kind = AskReset; values = 0 ∷ 0 ∷ 0 ∷ 0 ∷ []; good = four_good AskReset 0 0 0 0 (none_fits false) (none_fits false) (none_fits false) (none_fits false); is = refl }
spelt (Evict c t) fits =
    record { kind = AskEvict; values = c ∷ 0 ∷ t ∷ 0 ∷ []; good = four_good AskEvict c 0 t 0 (always c fits.0) (none_fits false) (always t fits.1) (none_fits false); is = refl }

-- and the step that a good line is written for
module _ (ns line : List ℕ) where
  abbrev pub op_in : Kind → Op
  op_in k = op_of k (get_or ns 0 0) (get_or ns 1 0) (get_or ns 2 0) (get_or ns 3 0)

  written_as : (k : Kind) → Four k ns line → Fits (op_in k) × (line ≡ step_text (op_in k))
  unfolding step_text
  written_as AskLoad f = rw f.all ((f.cache_fits.small, f.vid_fits.small, f.at_fits.small), f.text ∙ rw (f.word_fits.unused refl))
  written_as AskStore f = rw f.all ((f.cache_fits.small, f.vid_fits.small, f.at_fits.small, f.word_fits.small), f.text)
  written_as AskCommit f = rw f.all (f.vid_fits.small, f.text ∙ rw (f.cache_fits.unused refl, f.at_fits.unused refl, f.word_fits.unused refl))
  written_as AskAbort f = (tt, f.text ∙ rw (f.cache_fits.unused refl, f.vid_fits.unused refl, f.at_fits.unused refl, f.word_fits.unused refl))
  written_as AskReset f = (tt, f.text ∙ rw (f.cache_fits.unused refl, f.vid_fits.unused refl, f.at_fits.unused refl, f.word_fits.unused refl))
  written_as AskEvict f = rw f.all ((f.cache_fits.small, f.at_fits.small), f.text ∙ rw (f.vid_fits.unused refl, f.word_fits.unused refl))

  pub step_written : (k : Kind) → Good (fields_of k) ns line → Fits (op_in k) × (line ≡ step_text (op_in k))
  step_written k good = written_as k (good_four k ns line good)
