-- A text that stands at a place of a longer one, and the place after it: put together, taken apart, and as a key.
-- Assumes nothing.
use mathlib.Core.Path.{◌≡◌, refl, sym, ◌∙◌, ap}
use mathlib.Core.Bool.{Bool, true}
use mathlib.Core.List.{List, [], ◌∷◌, ◌++◌, append_assoc}
use Prim.Native.Nat.{ℕ, ◌+◌}
use native.Mathlib.Omega.{arith}
use borrow.Author.Tests.{eqb-true, eqb-false, eq-eqb, ne_eqb}
use lib.Dec.{eqb}
use lib.ListN.{length, drop, length-append}
use lib.Seq.{drop-append_seam, drop-drop}
use Rattle.rules.proofs.base.Bools.{by_test}
use Rattle.trace.specs.Numbers.{wrong, agreeing, key_fault, number_at, field_at}

-- the text stands at the place, and the next place is the one after it
pub record Stands (s : List ℕ) (at : ℕ) (text : List ℕ) (next : ℕ) : Type 0 where
  pub after : next ≡ at + length text
  pub holds : drop at s ≡ text ++ drop next s

module _ (s : List ℕ) (at : ℕ) where
  -- behind the text is the rest
  pub behind : (text rest : List ℕ) → drop at s ≡ text ++ rest → drop (at + length text) s ≡ rest
  behind text rest h = sym (drop-drop (length text) at s) ∙ rw h (drop-append_seam text rest)

  pub stands : (text rest : List ℕ) → drop at s ≡ text ++ rest → Stands s at text (at + length text)
  stands text rest h = record { after = refl; holds = rw (behind text rest h) h }

  module _ (x y : List ℕ) (next : ℕ) where
    pub stands_both : {mid : ℕ} → Stands s at x mid → Stands s mid y next → Stands s at (x ++ y) next
    stands_both {mid} f g = record { after = omega (arith, f.after, g.after, length-append x y); holds = f.holds ∙ rw g.holds (sym (append_assoc x y (drop next s))) }

    module _ (h : Stands s at (x ++ y) next) where
      split : drop at s ≡ x ++ (y ++ drop next s)
      split = h.holds ∙ append_assoc x y (drop next s)

      pub first_part : Stands s at x (at + length x)
      first_part = stands x (y ++ drop next s) split

      pub second_part : Stands s (at + length x) y next
      second_part = record { after = omega (arith, h.after, length-append x y); holds = behind x (y ++ drop next s) split }

-- ---- keys

-- another byte than k is next, or none
abbrev pub NotNext : ℕ → List ℕ → Type 0
NotNext k [] = Unit
NotNext k (b ∷ t) = b ≡ k → ⊥

-- the text goes with the key for the bytes `same`, and no further
pub record Parts (key t : List ℕ) : Type 0 where
  pub same : List ℕ
  pub due : ℕ
  pub others : List ℕ
  pub rest : List ℕ
  pub in_key : key ≡ same ++ (due ∷ others)
  pub in_text : t ≡ same ++ rest
  pub differs : NotNext due rest
  pub count : agreeing key t ≡ length same

pub agreeing_whole : (key t : List ℕ) → agreeing key (key ++ t) ≡ length key
unfolding agreeing
agreeing_whole [] t = refl
agreeing_whole (k ∷ ks) t = rw (eq-eqb k k refl, agreeing_whole ks t) (omega arith)

further : (k b : ℕ) (ks t : List ℕ) → eqb b k ≡ true → Parts ks t → Parts (k ∷ ks) (b ∷ t)
unfolding agreeing
further k b ks t e p =
    let q = eqb-true b k e in
    record {
      same = k ∷ p.same;
      due = p.due;
      others = p.others;
      rest = p.rest;
      in_key = rw (← p.in_key);
      in_text = rw (q, ← p.in_text);
      differs = p.differs;
      count = rw (e, p.count) (omega arith);
    }

-- either the whole key stands at the text's front, or they part
pub by_key : {P : Type 0} (key t : List ℕ) → ((rest : List ℕ) → t ≡ key ++ rest → P) → (Parts key t → P) → P
unfolding agreeing
by_key [] t whole parts = whole t refl
by_key (k ∷ ks) [] whole parts = parts (record { same = []; due = k; others = ks; rest = []; in_key = refl; in_text = refl; differs = tt; count = refl })
by_key (k ∷ ks) (b ∷ t) whole parts =
    by_test (eqb b k)
    (λ e. by_key ks t (λ rest h. whole rest (rw (eqb-true b k e, h))) (λ p. parts (further k b ks t e p)))
    (λ e. parts (record { same = []; due = k; others = ks; rest = b ∷ t; in_key = refl; in_text = refl; differs = eqb-false b k e; count = rw e }))

module _ (key : List ℕ) (used : Bool) (s : List ℕ) (at : ℕ) where
  -- the number is read behind a key that stands there
  pub field_whole : (next : ℕ) → Stands s at key next → field_at key used s at ≡ number_at used s next
  unfolding field_at
  field_whole next h =
      rw (h.holds, agreeing_whole key (drop next s), eq-eqb (length key) (length key) refl, ← h.after)

  -- where they part, that is wrong
  pub field_parts : (p : Parts key (drop at s)) → field_at key used s at ≡ wrong (key_fault p.rest) (at + length p.same)
  unfolding field_at
  field_parts p =
      let short : length p.same ≡ length key → ⊥ = λ e. absurd (omega (arith, e, ap length p.in_key, length-append p.same (p.due ∷ p.others))) in
      rw (p.count, ne_eqb (length p.same) (length key) short, behind s at p.same p.rest p.in_text)
