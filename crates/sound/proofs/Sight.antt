-- What a live line has seen of the lines of its address, up to the next one of the chain.
-- Assumes nothing.
use Rattle.std.proofs.Common.{◌≡◌, refl, ◌∙◌, true, false, ℕ, zero, suc, ◌≤◌, ◌<◌, Option, Some, None, eqb, get_or, arith}
use Rattle.std.proofs.Math.Logic.{⊎_elim}
use Rattle.std.proofs.Math.Nat.{eq-or-lt_of_le, le_of_suc-le-suc}
use Rattle.std.proofs.Math.Bool.{and-true, or-false}
use Rattle.std.proofs.lemmas.Bool.{and_cases, and_parts}
use Rattle.rules.specs.declared.Held.{Held}
use Rattle.rules.specs.declared.Machine.{Machine}
use Rattle.rules.specs.Line.{live}
use Rattle.rules.specs.Machine.{memory_at}
use Rattle.rules.proofs.base.Bools.{by_test}
use Rattle.sound.specs.declared.seen.Seen.{Seen}
use Rattle.sound.specs.Numbered.{all_below, any_below, line_no, held_no, holds, seeing, seen_below, suffices, stands_in, NoneIn, IsFirst}

-- what it has seen before it looks
abbrev pub nothing : Seen
nothing = record { fits = true; o = false; top = false; low = false; next = false; owner = false }

-- s is what k has seen before it comes to the next line of its chain
abbrev pub Sees : Machine → Held → Option ℕ → Seen → Type 0
Sees μ k (Some j) s = (j < 64) × (holds μ k.line.address j ≡ true) × (s ≡ seen_below μ k j)
Sees μ k None s = s ≡ seen_below μ k 64

module _ (μ : Machine) (k : Held) where
  abbrev x : ℕ
  x = k.line.address

  -- ---- one slot more, and up to the next of its address

  seen_more : (j : ℕ) → holds μ x j ≡ true → seeing μ.lcvid k (held_no μ j) (seen_below μ k j) ≡ seen_below μ k (suc j)
  unfolding holds seeing seen_below all_below any_below
  seen_more j e = let (a, b) = and_parts (live μ.lcvid (line_no μ j)) (eqb (line_no μ j).address x) e in rw (a, b)

  seen_skip : (j : ℕ) → holds μ x j ≡ false → seen_below μ k j ≡ seen_below μ k (suc j)
  unfolding holds seen_below all_below any_below
  seen_skip j e =
      ⊎_elim (λ a. rw a (simp (and-true, or-false)))
      (λ b. by_test (live μ.lcvid (line_no μ j)) (λ a. rw a (rw b (simp (and-true, or-false)))) (λ a. rw a (simp (and-true, or-false))))
      (and_cases (live μ.lcvid (line_no μ j)) (eqb (line_no μ j).address x) e)

  seen_to : (n r : ℕ) → n ≤ r → NoneIn μ x n r → seen_below μ k n ≡ seen_below μ k r
  seen_to n zero q none = let z : n ≡ 0 = omega arith in rw z
  seen_to n (suc r) q none =
      ⊎_elim (λ (z : n ≡ suc r). rw z)
      (λ (z : n < suc r). seen_to n r (le_of_suc-le-suc z) (λ j a b. none j a (omega arith)) ∙ seen_skip r (none r (le_of_suc-le-suc z) (omega arith)))
      (eq-or-lt_of_le q)

  -- up to the first of its address from n on
  sees_from : (n : ℕ) (o : Option ℕ) (s : Seen) → n ≤ 64 → s ≡ seen_below μ k n → IsFirst μ x n o → Sees μ k o s
  sees_from n (Some r) s h e f = (f.1, f.2, e ∙ seen_to n r f.0 f.3)
  sees_from n None s h e f = e ∙ seen_to n 64 h f

  pub sees_first : (o : Option ℕ) → IsFirst μ x 0 o → Sees μ k o nothing
  sees_first o f = sees_from 0 o nothing (omega arith) (unfold seen_below in unfold all_below in unfold any_below in refl) f

  pub sees_next : (j : ℕ) (l : Held) (o : Option ℕ) (s t : Seen) → Sees μ k (Some j) s → l ≡ held_no μ j → t ≡ seeing μ.lcvid k l s → IsFirst μ x (suc j) o → Sees μ k o t
  sees_next j l o s t w q e f = sees_from (suc j) o t (omega (arith, w.0)) (e ∙ rw (q, w.2) (seen_more j w.1)) f

  -- ---- whether it stands

  -- a line that is not live does
  pub stands_dead : live μ.lcvid k.line ≡ false → true ≡ stands_in μ k
  unfolding stands_in
  stands_dead e = rw e

  -- at the end of the chain it has seen all of them
  pub sees_all : (s : Seen) → live μ.lcvid k.line ≡ true → Sees μ k None s → suffices k.line (get_or μ.memory x 0) s ≡ stands_in μ k
  unfolding stands_in memory_at
  sees_all s e w = rw (e, w)
