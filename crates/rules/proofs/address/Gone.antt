-- Lines go from an address: S-S lines that drop; and what an eviction empties: E or S, M or O with its word to memory, a settled S-M or S-E.
-- Nothing that is seen changes.
-- Assumes nothing.
use mathlib.Core.Path.{◌≡◌, refl, sym, ◌∙◌}
use mathlib.Core.Logic.{◌≢◌, ◌⊎◌, inl, inr}
use mathlib.Core.Bool.{Bool, true, false, ◌&&◌, ◌||◌, not}
use Prim.Native.Nat.{ℕ, ◌≤◌}
use native.Mathlib.Omega.{arith}
use Rattle.rules.specs.declared.State.{State}
use Rattle.rules.specs.declared.Line.{Line}
use Rattle.rules.specs.declared.Pos.{Pos}
use Rattle.rules.specs.Data.{Data}
use Rattle.rules.specs.States.{is_o, is_e, is_s, is_so, is_se, is_ss, plain, spec, ranged, top, owns, stands, dirty}
use Rattle.rules.specs.Line.{empty}
use Rattle.std.specs.Cmp.Derive.{both_true}
use Rattle.std.proofs.lemmas.Bool.{both_ways, not_from_false}
use Rattle.rules.proofs.base.Bools.{by_test}
use Rattle.rules.proofs.base.States.{state_rule, state_not, state_never, states_rule, owns_spec, top_owns, top_spec, so_ranged, beside_top}
use Rattle.rules.proofs.base.Lines.{Here, not_here}
use Rattle.rules.proofs.address.Sound.{There, IsO, Meets, SoundAt, GoodAt, Passes, Sees, from_owner, from_plain, from_memory, KeepsAt}
use Rattle.rules.proofs.address.Owners.{plain_same, plain_alone, so_below, newest_once, mark_on}
use Rattle.rules.proofs.address.Rebuild.{like_same, Needed, the_o, the_newest, the_next, the_owner, sound_kept, sound_none}

-- a line that another may need
abbrev wanted : State → Bool
wanted s = owns s || is_o s

needed_wanted : (lc : ℕ) (p q : Pos) (k l : Line) → Needed lc p k q l → wanted l.state ≡ true
needed_wanted lc p q k l (the_o i t) = state_rule is_o wanted refl l.state t
needed_wanted lc p q k l (the_newest i t) = state_rule top wanted refl l.state t
needed_wanted lc p q k l (the_next i t) = state_rule owns wanted refl l.state t.0
needed_wanted lc p q k l (the_owner i t) = state_rule owns wanted refl l.state t.owning

-- each line stays, or is one that no other needs and goes
pub record Thinned (f g : Pos → Line) (lc x : ℕ) : Type 0 where
  pub back : (p : Pos) → Here lc x (g p) → g p ≡ f p
  pub stays : (p : Pos) → Here lc x (f p) → wanted (f p).state ≡ true → g p ≡ f p

sound_thinned : {f g : Pos → Line} {lc x : ℕ} {w : Data} → Thinned f g lc x → SoundAt f lc x w → SoundAt g lc x w
sound_thinned {f} {g} {lc} {x} {w} T s = sound_kept (record {
  back = λ p h. (rw (T.back p h) at h, like_same 0 (T.back p h));
  stays = λ p q hp hq n. let e = T.stays q hq (needed_wanted lc p q (f p) (f q) n) in (rw e hq, like_same 0 e);
  lows = λ p h i (q, hq, (o, l)). let e = T.stays q hq (state_rule owns wanted refl (f q).state o) in (q, rw e hq, rw e (o, l));
  up = λ p h i. omega arith;
  memory = λ p h i. refl;
}) s

keeps_thinned : {f g : Pos → Line} {lc x : ℕ} {w : Data} (a : ℕ) → Thinned f g lc x → SoundAt f lc x w
    → ((p : Pos) (v : Data) → Here lc x (f p) → plain (f p).state ≡ true → v ≡ (f p).word → (b : ℕ) → Sees g lc x w b v) → KeepsAt f g lc x a w w
keeps_thinned {f} {g} {lc} {x} {w} a T s plains = record {
  sound = sound_thinned T s;
  sees = λ b v i. sees b v;
  keeps = λ b i (p, h, (t, j)). let e = T.stays p h (state_rule top wanted refl (f p).state t) in (p, rw e h, rw e (t, j));
  made = λ b i (p, h, (t, j)). let e = T.back p h in inl (p, rw e at h, (rw e at t, rw e at j));
}
  where
    sees : (b : ℕ) (v : Data) → Sees f lc x w b v → Sees g lc x w b v
    sees b v (from_owner p o e) =
        let d = T.stays p o.here (state_rule owns wanted refl (f p).state o.owning) in
        from_owner p (record { here = rw d o.here; owning = rw d o.owning; hit = rw d o.hit }) (rw d e)
    sees b v (from_plain p h i e) = plains p v h i e b
    sees b v (from_memory n e) = from_memory (λ p h. rw (T.back p h) (n p (rw (T.back p h) at h))) e

-- ---- S-S lines drop

pub keeps_shares_gone : {f g : Pos → Line} {lc x : ℕ} {w : Data} (a : ℕ) → ((p : Pos) → (g p ≡ f p) ⊎ ((is_ss (f p).state ≡ true) × (g p ≡ empty))) → SoundAt f lc x w
    → KeepsAt f g lc x a w w
keeps_shares_gone {f} {g} {lc} {x} {w} a k s = keeps_thinned a T s (λ p v h i e b. let d = others p i (state_not plain is_ss refl) (k p) in from_plain p (rw d h) (rw d i) (rw d e))
  where
    others : (p : Pos) {t : State → Bool} → t (f p).state ≡ true → ((s : State) → t s ≡ true → is_ss s ≡ false) → (g p ≡ f p) ⊎ ((is_ss (f p).state ≡ true) × (g p ≡ empty)) → g p ≡ f p
    others p i n (inl e) = e
    others p i n (inr (j, e)) = absurd (both_ways _ (n (f p).state i) j)

    back : (p : Pos) → Here lc x (g p) → (g p ≡ f p) ⊎ ((is_ss (f p).state ≡ true) × (g p ≡ empty)) → g p ≡ f p
    back p h (inl e) = e
    back p h (inr (j, e)) = not_here lc x (rw e at h)

    T : Thinned f g lc x
    T = record { back = λ p h. back p h (k p); stays = λ p h i. others p i (state_not wanted is_ss refl) (k p) }

-- ---- the line at o is emptied, the others stay

module _ {N : ℕ} {f g : Pos → Line} {lc x : ℕ} {w : Data} (s : GoodAt N f lc x w) (o : Pos) (ho : Here lc x (f o)) (gone : g o ≡ empty) (rest : (p : Pos) → p ≢ o → g p ≡ f p) where
  back : (p : Pos) → Here lc x (g p) → g p ≡ f p
  back p h = rest p (λ e. not_here lc x (rw (e, gone) at h))

  -- E or S: its word is memory's or that of an O beside it
  pub keeps_spare_gone : (a : ℕ) → (is_e (f o).state || is_s (f o).state) ≡ true → KeepsAt f g lc x a w w
  keeps_spare_gone a c =
      keeps_thinned a (record { back = back; stays = λ p h i. rest p (λ e. state_never (λ s. is_e s || is_s s) wanted refl (f o).state c (rw e at i)) }) s.sound plains
    where
      plain_o : plain (f o).state ≡ true
      plain_o = state_rule (λ s. is_e s || is_s s) plain refl (f o).state c

      -- every plain line has the word of o
      word : (p : Pos) → Here lc x (f p) → (f p).word ≡ (f o).word
      word p h = sym (plain_same s o p ho h plain_o)

      lost : (v : Data) → v ≡ (f o).word → (b : ℕ) → ((f o).word ≡ w) ⊎ There f lc x IsO → Sees g lc x w b v
      lost v e b (inl d) =
          from_memory (λ p h. let q = back p h in let hp = rw q at h in record
          { same = λ i. rw q (word p hp ∙ d); later = λ i. plain_alone s o p ho hp plain_o (owns_spec (f p).state (rw q at i)) }) (e ∙ d)
      lost v e b (inr (q, hq, i)) =
          let d = rest q (λ r. state_never (λ s. is_e s || is_s s) is_o refl (f o).state c (rw r at i)) in
          from_plain q (rw d hq) (rw d (state_rule is_o plain refl (f q).state i)) (rw d (e ∙ sym (word q hq)))

      unshared : ((f o).word ≡ w) ⊎ There f lc x IsO
      unshared =
          by_test (is_s (f o).state) (s.sound.meets o ho).shared (λ i. inl
          ((s.sound.meets o ho).clean (state_rule (λ s. (is_e s || is_s s) && not (is_s s)) (λ s. is_e s || is_se s) refl (f o).state (both_true c (not_from_false _ i)))))

      plains : (p : Pos) (v : Data) → Here lc x (f p) → plain (f p).state ≡ true → v ≡ (f p).word → (b : ℕ) → Sees g lc x w b v
      plains p v h i e b = lost v (e ∙ word p h) b unshared

  -- M or O: its word goes to memory, and the S lines that are left have it
  pub keeps_dirty_gone : (a : ℕ) → dirty (f o).state ≡ true → KeepsAt f g lc x a w (f o).word
  keeps_dirty_gone a c = record {
    sound = record { stand = λ p q d hp hq. rw (back p hp, back q hq) (s.sound.stand p q d (rw (back p hp) at hp) (rw (back q hq) at hq)); meets = λ p h. only_s p h };
    sees = λ b v i. sees b v;
    keeps = λ b i (p, h, (t, j)). plain_alone s o p ho h plain_o (top_spec (f p).state t);
    made = λ b i (p, h, (t, j)). let e = back p h in plain_alone s o p ho (rw e at h) plain_o (top_spec (f p).state (rw e at t));
  }
    where
      plain_o : plain (f o).state ≡ true
      plain_o = state_rule dirty plain refl (f o).state c

      word : (p : Pos) → Here lc x (g p) → (g p).word ≡ (f o).word
      word p h = rw (back p h) (sym (plain_same s o p ho (rw (back p h) at h) plain_o))

      left : (p : Pos) → Here lc x (g p) → is_s (g p).state ≡ true
      left p h =
          let e = back p h in
          rw e (states_rule (λ s t. stands s t && dirty s) (λ s t. is_s t) refl (f o).state (f p).state
          (both_true (s.sound.stand o p (λ d. not_here lc x (rw (← d, gone) at h)) ho (rw e at h)).table c))

      only_s : (p : Pos) → Here lc x (g p) → Meets g lc x (f o).word p (g p)
      only_s p h = record {
        clean = λ i. word p h;
        shared = λ i. inl (word p h);
        newest = λ i. state_never is_s spec refl (g p).state (left p h) i;
        lowest = λ i. state_never is_s spec refl (g p).state (left p h) i;
        next = λ i. state_never is_s is_so refl (g p).state (left p h) i;
        owner = λ i. state_never is_s is_ss refl (g p).state (left p h) i;
      }

      past : (b : ℕ) (p : Pos) → Here lc x (g p) → Passes b (f o).word (g p)
      past b p h = record { same = λ i. word p h; later = λ i. state_never is_s owns refl (g p).state (left p h) i }

      sees : (b : ℕ) (v : Data) → Sees f lc x w b v → Sees g lc x (f o).word b v
      sees b v (from_owner p i e) = plain_alone s o p ho i.here plain_o (owns_spec (f p).state i.owning)
      sees b v (from_plain p h i e) = from_memory (past b) (e ∙ sym (plain_same s o p ho h plain_o))
      sees b v (from_memory n e) = from_memory (past b) (e ∙ sym ((n o ho).same plain_o))

  -- a settled S-M or S-E whose S-S lines have dropped: no other line lives, and its word goes to memory (or is there)
  pub keeps_settled_gone : (a : ℕ) → top (f o).state ≡ true → (f o).h ≤ lc → ((p : Pos) → Here lc x (f p) → is_ss (f p).state ≡ true → (f p).m ≢ (f o).m)
      → KeepsAt f g lc x a w (f o).word
  keeps_settled_gone a t done unshared = record {
    sound = sound_none none;
    sees = λ b v i k. from_memory (λ p h. absurd (none p h)) (saw b v i k);
    keeps = λ b i k. absurd (omega (arith, mark_on s o ho t b k));
    made = λ b i (p, h, j). absurd (none p h);
  }
    where
      -- an S-O would end at or below the newest's m, and so be dead
      no_so : (p : Pos) → Here lc x (f p) → is_so (f p).state ≡ true → ⊥
      no_so p h i = omega (arith, so_below s p o h ho i t, (s.fits o).newest t, h.alive.fresh (so_ranged (f p).state i))

      owner_o : (q : Pos) → Here lc x (f q) → owns (f q).state ≡ true → q ≡ o
      owner_o q h i =
          by_test (is_so (f q).state) (λ j. absurd (no_so q h j)) (λ j. newest_once s q o h ho
          (state_rule (λ s. owns s && not (is_so s)) top refl (f q).state (both_true i (not_from_false _ j))) t)

      none : (p : Pos) → Here lc x (g p) → ⊥
      none p h =
          let e = back p h in let hp = rw e at h in
          let d : o ≢ p = λ d. not_here lc x (rw (← d, gone) at h) in
          let r = beside_top (f o).state (f p).state (s.sound.stand o p d ho hp).table t in
          by_test (is_so (f p).state) (no_so p hp) (λ j. shared p hp (state_rule (λ s. ranged s && not (is_so s)) is_ss refl (f p).state (both_true r (not_from_false _ j))))
        where
          shared : (p : Pos) → Here lc x (f p) → is_ss (f p).state ≡ true → ⊥
          shared p h i = let (q, hq, y) = (s.sound.meets p h).owner i in unshared p h i (sym y.same_m ∙ rw (owner_o q hq y.owning) refl)

      saw : (b : ℕ) (v : Data) → lc ≤ b → Sees f lc x w b v → v ≡ (f o).word
      saw b v i (from_owner p O e) = e ∙ rw (owner_o p O.here O.owning) refl
      saw b v i (from_plain p h j e) = plain_alone s p o h ho j (top_spec (f o).state t)
      saw b v i (from_memory n e) = absurd (omega (arith, (n o ho).later (top_owns (f o).state t), (s.fits o).newest t))
