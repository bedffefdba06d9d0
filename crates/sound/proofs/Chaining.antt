-- The chains of a machine, one slot more: from the last slot down.
-- Assumes nothing.
use Rattle.std.proofs.Common.{◌≡◌, refl, sym, ◌∙◌, true, false, ℕ, suc, ◌≤◌, ◌<◌, ◌≢◌, Option, Some, None, length, get_or, set, replicate, arith, get_or-set_same, get_or-set_other}
use Rattle.std.proofs.Math.Dec.{eqb}
use Rattle.std.proofs.Math.Decide.{ℕ_discrete}
use Rattle.std.specs.Cmp.Derive.{both_true}
use Rattle.std.proofs.lemmas.Bool.{eqb-true, eq-eqb, ne_eqb, and_parts, and_right, both_ways}
use Rattle.std.proofs.lemmas.List.{get_or-replicate, length-replicate, length-set}
use Rattle.rules.specs.declared.Held.{Held}
use Rattle.rules.specs.declared.Machine.{Machine}
use Rattle.rules.specs.Line.{live}
use Rattle.rules.specs.HouseTest.{slot_fits}
use Rattle.sound.specs.declared.Chains.{Chains}
use Rattle.sound.specs.Numbered.{line_no, held_no, slot_no, holds, NoneIn, IsFirst, Chained}
use Rattle.sound.proofs.Small.{fits_small}

pub chained_none : (μ : Machine) → Chained μ 64 (record { first = replicate 64 None; next = replicate 64 None })
chained_none μ = record {
  fits = λ j h q. absurd (omega arith);
  starts = λ x h. rw (get_or-replicate {A = Option ℕ} 64 x None None h) (λ j p q. absurd (omega arith));
  follows = λ x j h q. absurd (omega arith);
  firsts = length-replicate {A = Option ℕ} 64 None;
  nexts = length-replicate {A = Option ℕ} 64 None;
}

-- ---- where a slot fits, its address is below 64

fits_address : (μ : Machine) (l : Held) → slot_fits μ l.place l.line ≡ true → l.line.address < 64
fits_address μ l f = (fits_small μ l.place l.line f).address

pub small : (μ : Machine) (i : ℕ) (chains : Chains) → Chained μ 0 chains → i < 64 → (line_no μ i).address < 64
small μ i chains g h = fits_address μ (held_no μ i) (g.fits i (omega arith) h)

-- ---- whether a slot holds a live line of x

holds_says : (μ : Machine) (x j : ℕ) → holds μ x j ≡ true → (live μ.lcvid (line_no μ j) ≡ true) × ((line_no μ j).address ≡ x)
unfolding holds
holds_says μ x j e = let (a, b) = and_parts (live μ.lcvid (line_no μ j)) (eqb (line_no μ j).address x) e in (a, eqb-true (line_no μ j).address x b)

holds_own : (μ : Machine) (j : ℕ) → live μ.lcvid (line_no μ j) ≡ true → holds μ (line_no μ j).address j ≡ true
unfolding holds
holds_own μ j e = both_true e (eq-eqb (line_no μ j).address (line_no μ j).address refl)

holds_other : (μ : Machine) (x j : ℕ) → ((line_no μ j).address ≡ x → ⊥) → holds μ x j ≡ false
unfolding holds
holds_other μ x j n = and_right _ _ (ne_eqb (line_no μ j).address x n)

holds_dead : (μ : Machine) (x j : ℕ) → live μ.lcvid (line_no μ j) ≡ false → holds μ x j ≡ false
unfolding holds
holds_dead μ x j e = rw e

-- ---- from n on, what holds from n + 1 on and at n

from : (P : ℕ → Type 0) (n : ℕ) → P n → ((j : ℕ) → suc n ≤ j → P j) → (j : ℕ) → n ≤ j → P j
from P n e was j h = go (ℕ_discrete j n)
  where
    go : Dec (j ≡ n) → P j
    go (yes d) = rw d e
    go (no d) = was j (omega arith)

none_down : (μ : Machine) (x n r : ℕ) → holds μ x n ≡ false → NoneIn μ x (suc n) r → NoneIn μ x n r
none_down μ x n r e w = from (λ j. j < r → holds μ x j ≡ false) n (λ q. e) w

first_here : (μ : Machine) (x n : ℕ) → n < 64 → holds μ x n ≡ true → IsFirst μ x n (Some n)
first_here μ x n h e = (omega arith, h, e, λ j p q. absurd (omega arith))

first_down : (μ : Machine) (x n : ℕ) (o : Option ℕ) → holds μ x n ≡ false → IsFirst μ x (suc n) o → IsFirst μ x n o
first_down μ x n (Some r) e w = (omega (arith, w.0), w.1, w.2, none_down μ x n r e w.3)
first_down μ x n None e w = none_down μ x n 64 e w

module _ (μ : Machine) (n m : ℕ) (s : m ≡ suc n) (k : Held) (q : k ≡ held_no μ n) (chains : Chains) (was : Chained μ m chains) (h : n < 64)
    (fit : slot_fits μ k.place k.line ≡ true) where
  abbrev x : ℕ
  x = k.line.address

  w : Chained μ (suc n) chains
  w = rw s at was

  fits_more : (j : ℕ) → n ≤ j → j < 64 → slot_no μ j ≡ true
  fits_more = from (λ j. j < 64 → slot_no μ j ≡ true) n (λ _. rw q at fit) w.fits

  -- no live line stands there
  pub chained_dead : live μ.lcvid k.line ≡ false → Chained μ n chains
  chained_dead e = record {
    fits = fits_more;
    starts = λ x i. first_down μ x n _ (dead x) (w.starts x i);
    follows = λ x. from (λ j. j < 64 → holds μ x j ≡ true → IsFirst μ x (suc j) (get_or chains.next j None)) n (λ i t. absurd (both_ways _ (dead x) t)) (w.follows x);
    firsts = w.firsts;
    nexts = w.nexts;
  }
    where
      dead : (x : ℕ) → holds μ x n ≡ false
      dead x = holds_dead μ x n (rw q at e)

  -- the live line k does
  pub chained_live : live μ.lcvid k.line ≡ true → Chained μ n (record { first = set chains.first x (Some n); next = set chains.next n (get_or chains.first x None) })
  chained_live e = record {
    fits = fits_more;
    starts = λ y i. start y i (ℕ_discrete y x);
    follows = λ y. from (λ j. j < 64 → holds μ y j ≡ true → IsFirst μ y (suc j) (get_or (set chains.next n (get_or chains.first x None)) j None)) n (here y) (later y);
    firsts = simp length-set w.firsts;
    nexts = simp length-set w.nexts;
  }
    where
      x_is : x ≡ (line_no μ n).address
      x_is = rw q

      room : x < length chains.first
      room = omega (arith, fits_address μ k fit, w.firsts)

      own : holds μ x n ≡ true
      own = rw x_is (holds_own μ n (rw q at e))

      start : (y : ℕ) → y < 64 → Dec (y ≡ x) → IsFirst μ y n (get_or (set chains.first x (Some n)) y None)
      start y i (yes d) = rw (d, get_or-set_same chains.first x (Some n) None room) (first_here μ x n h own)
      start y i (no d) =
          rw (get_or-set_other chains.first x y (Some n) None d)
          (first_down μ y n _ (holds_other μ y n (λ r. d (sym r ∙ sym x_is))) (w.starts y i))

      here : (y : ℕ) → n < 64 → holds μ y n ≡ true → IsFirst μ y (suc n) (get_or (set chains.next n (get_or chains.first x None)) n None)
      here y i t =
          let d : y ≡ x = sym (holds_says μ y n t).1 ∙ sym x_is in
          rw (d, get_or-set_same chains.next n (get_or chains.first x None) None (omega (arith, w.nexts))) (w.starts x (fits_address μ k fit))

      later : (y j : ℕ) → suc n ≤ j → j < 64 → holds μ y j ≡ true → IsFirst μ y (suc j) (get_or (set chains.next n (get_or chains.first x None)) j None)
      later y j p i t = let d : j ≢ n = omega arith in rw (get_or-set_other chains.next n j (get_or chains.first x None) None d) (w.follows y j p i t)
