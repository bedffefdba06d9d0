-- A plain load of an address that other caches hold in plain lines: M becomes O, E becomes S. Nothing that is seen changes.
-- Assumes nothing.
use mathlib.Core.Path.{◌≡◌, refl, sym, ◌∙◌}
use mathlib.Core.Logic.{◌≢◌, ◌⊎◌, inl, inr}
use mathlib.Core.Bool.{true, ◌&&◌, ◌||◌, not}
use Prim.Native.Nat.{ℕ}
use lib.Dec.{eqb}
use borrow.Author.Tests.{eq-eqb, ne_eqb}
use Rattle.rules.specs.declared.State.{State}
use Rattle.rules.specs.declared.State.TheVariants.{I, M, O, E, S, SM, SO, SE, SS}
use Rattle.rules.specs.declared.Line.{Line}
use Rattle.rules.specs.declared.Pos.{Pos}
use Rattle.rules.specs.Data.{Data}
use Rattle.rules.specs.States.{is_i, is_o, is_e, is_s, is_so, is_se, is_ss, plain, spec, ranged, top, owns, stands}
use Rattle.rules.specs.Line.{line, empty}
use Rattle.rules.specs.Load.{demote, demote_line}
use Rattle.std.specs.Cmp.Derive.{both_true}
use Rattle.rules.proofs.base.Bools.{by_test}
use Rattle.rules.proofs.base.States.{state_rule, state_never, states_rule, owns_spec, top_spec}
use Rattle.rules.proofs.base.Lines.{Here}
use Rattle.rules.proofs.address.Sound.{Stand, There, IsO, Meets, GoodAt, Sees, from_owner, from_plain, from_memory, KeepsAt}
use Rattle.rules.proofs.address.Owners.{plain_all, plain_alone}

demote_i : (s : State) → is_i (demote s) ≡ is_i s
demote_i s = elim s as (λ (s : State). is_i (demote s) ≡ is_i s) [ I ↦ refl | M ↦ refl | O ↦ refl | E ↦ refl | S ↦ refl | SM ↦ refl | SO ↦ refl | SE ↦ refl | SS ↦ refl ]

demote_ranged : (s : State) → ranged (demote s) ≡ ranged s
demote_ranged s = elim s as (λ (s : State). ranged (demote s) ≡ ranged s) [ I ↦ refl | M ↦ refl | O ↦ refl | E ↦ refl | S ↦ refl | SM ↦ refl | SO ↦ refl | SE ↦ refl | SS ↦ refl ]

abbrev pub demoted : Line → Line
demoted l = line (demote l.state) l.address l.m l.h l.word

-- lines of x are demoted, others stay
module _ (x : ℕ) where
  pub demote_empty : demote_line x empty ≡ empty
  unfolding demote_line
  demote_empty = by_test (eqb 0 x) (λ i. rw i) (λ i. rw i)

  pub demote_of : (l : Line) → l.address ≡ x → demote_line x l ≡ demoted l
  unfolding demote_line
  demote_of l i = rw (eq-eqb l.address x i)

  pub demote_other : (l : Line) → l.address ≢ x → demote_line x l ≡ l
  unfolding demote_line
  demote_other l n = rw (ne_eqb l.address x n)

pub here_demoted : (lc x : ℕ) (l : Line) → Here lc x l → Here lc x (demoted l)
here_demoted lc x l h = record { alive = record { some = demote_i l.state ∙ h.alive.some; fresh = λ r. h.alive.fresh (sym (demote_ranged l.state) ∙ r) }; at = h.at }

pub demoted_here : (lc x : ℕ) (l : Line) → Here lc x (demoted l) → Here lc x l
demoted_here lc x l h = record { alive = record { some = sym (demote_i l.state) ∙ h.alive.some; fresh = λ r. h.alive.fresh (demote_ranged l.state ∙ r) }; at = h.at }

-- a plain line lives at r; the live lines of x are demoted
module _ {N : ℕ} {f g : Pos → Line} {lc x : ℕ} {w : Data} (s : GoodAt N f lc x w) (r : Pos) (hr : Here lc x (f r)) (pr : plain (f r).state ≡ true)
    (is : (p : Pos) → (f p).address ≡ x → g p ≡ demoted (f p)) (was : (p : Pos) → Here lc x (g p) → (f p).address ≡ x) where
  old : (p : Pos) → Here lc x (g p) → Here lc x (f p)
  old p h = demoted_here lc x (f p) (rw (is p (was p h)) at h)

  new : (p : Pos) → Here lc x (f p) → Here lc x (g p)
  new p h = rw (is p h.at) (here_demoted lc x (f p) h)

  plain_f : (p : Pos) → Here lc x (f p) → plain (f p).state ≡ true
  plain_f p h = plain_all s r p hr h pr

  pub demoted_kind : (p : Pos) → Here lc x (g p) → (is_o (g p).state || is_s (g p).state) ≡ true
  demoted_kind p h = rw (is p (was p h)) (state_rule plain (λ s. is_o (demote s) || is_s (demote s)) refl (f p).state (plain_f p (old p h)))

  stand : (p q : Pos) → p ≢ q → Here lc x (g p) → Here lc x (g q) → Stand p q (g p) (g q)
  stand p q n hp hq = rw (is p (was p hp), is q (was q hq)) (go (s.sound.stand p q n (old p hp) (old q hq)))
    where
      go : Stand p q (f p) (f q) → Stand p q (demoted (f p)) (demoted (f q))
      go t = record {
        table = states_rule (λ s t. stands s t && plain s) (λ s t. stands (demote s) (demote t)) refl (f p).state (f q).state (both_true t.table (plain_f p (old p hp)));
        plains = λ i. t.plains (plain_f p (old p hp));
        ranges = λ i j. state_never plain (λ s. owns (demote s)) refl (f p).state (plain_f p (old p hp)) i;
        shares = λ i j. state_never plain (λ s. is_ss (demote s)) refl (f p).state (plain_f p (old p hp)) i;
      }

  meets : (p : Pos) → Here lc x (g p) → Meets g lc x w p (g p)
  meets p h = rw (is p (was p h)) (record {
    clean = λ i. state_never plain (λ s. is_e (demote s) || is_se (demote s)) refl (f p).state (plain_f p hp) i;
    shared = λ i. by_test (is_e (f p).state) (λ j. inl ((s.sound.meets p hp).clean (state_rule is_e (λ s. is_e s || is_se s) refl (f p).state j)))
        (λ j. beside ((s.sound.meets p hp).shared (state_rule (λ s. is_s (demote s) && not (is_e s)) is_s refl (f p).state (both_true i (rw j)))));
    newest = λ i. state_never plain (λ s. spec (demote s)) refl (f p).state (plain_f p hp) i;
    lowest = λ i. state_never plain (λ s. spec (demote s)) refl (f p).state (plain_f p hp) i;
    next = λ i. state_never plain (λ s. is_so (demote s)) refl (f p).state (plain_f p hp) i;
    owner = λ i. state_never plain (λ s. is_ss (demote s)) refl (f p).state (plain_f p hp) i;
  })
    where
      hp : Here lc x (f p)
      hp = old p h

      beside : ((f p).word ≡ w) ⊎ There f lc x IsO → ((f p).word ≡ w) ⊎ There g lc x IsO
      beside (inl e) = inl e
      beside (inr (q, hq, i)) = inr (q, new q hq, rw (is q hq.at) (state_rule is_o (λ s. is_o (demote s)) refl (f q).state i))

  pub keeps_demoted : (a : ℕ) → KeepsAt f g lc x a w w
  keeps_demoted a = record {
    sound = record { stand = stand; meets = meets };
    sees = λ b v i. sees b v;
    keeps = λ b i (p, h, (t, j)). plain_alone s r p hr h pr (top_spec (f p).state t);
    made = λ b i (p, h, (t, j)). state_never (λ s. is_o s || is_s s) top refl (g p).state (demoted_kind p h) t;
  }
    where
      sees : (b : ℕ) (v : Data) → Sees f lc x w b v → Sees g lc x w b v
      sees b v (from_owner p o e) = plain_alone s r p hr o.here pr (owns_spec (f p).state o.owning)
      sees b v (from_plain p h i e) = from_plain p (new p h) (rw (is p h.at) (state_rule plain (λ s. plain (demote s)) refl (f p).state i)) (rw (is p h.at) e)
      sees b v (from_memory n e) =
          from_memory (λ p h. rw (is p (was p h)) (record
          { same = λ i. (n p (old p h)).same (plain_f p (old p h)); later = λ i. state_never plain (λ s. owns (demote s)) refl (f p).state (plain_f p (old p h)) i }))
          e
