-- Abort: what LCVID's owner becomes is alone, and every number then sees what LCVID saw. Reset leaves the same lines, under LCVID 0.
-- Assumes nothing.
use mathlib.Core.Path.{◌≡◌, refl, ◌∙◌}
use mathlib.Core.Logic.{◌⊎◌, inl, inr}
use mathlib.Core.Bool.{Bool, true, false, ◌&&◌, ◌||◌}
use Prim.Native.Nat.{ℕ}
use native.Mathlib.Omega.{arith}
use Rattle.rules.specs.declared.State.{State}
use Rattle.rules.specs.declared.Line.{Line}
use Rattle.rules.specs.declared.Pos.{Pos}
use Rattle.rules.specs.Data.{Data}
use Rattle.rules.specs.States.{is_i, is_e, is_se, plain, spec, ranged, top, owns}
use Rattle.rules.specs.Line.{empty, hits}
use Rattle.rules.specs.Abort.{settle, settled, abort_line}
use Rattle.std.specs.Cmp.Derive.{both_true}
use Rattle.std.proofs.lemmas.Bool.{and_parts, both_ways}
use Rattle.rules.proofs.base.Bools.{by_test}
use Rattle.rules.proofs.base.States.{state_rule, state_not, state_never, owns_spec, top_spec, plain_or_spec}
use Rattle.rules.proofs.base.Lines.{Here, hits_test, not_here, whole_here}
use Rattle.rules.proofs.address.Sound.{SoundAt, GoodAt, OwnerAt, Passes, Sees, from_owner, from_plain, from_memory, Mark}
use Rattle.rules.proofs.address.Owners.{owner_once, plain_alone}
use Rattle.rules.proofs.address.Rebuild.{like_same, Kept, sound_kept, clean, sound_lone}

module _ {N : ℕ} {f g : Pos → Line} {lc x : ℕ} {w : Data} (s : GoodAt N f lc x w) (is : (p : Pos) → g p ≡ abort_line lc (f p)) where
  -- a line that is left was plain, or LCVID's owner
  data Was (p : Pos) : Type 0 where
    kept : spec (f p).state ≡ false → g p ≡ f p → Here lc x (f p) → Was p
    set : OwnerAt f lc x lc p → g p ≡ settled (f p) → Was p

  was : (p : Pos) → Here lc x (g p) → Was p
  unfolding abort_line
  was p h =
      by_test (spec (f p).state)
      (λ i. by_test (owns (f p).state && hits lc (f p))
      (λ j. let e : g p ≡ settled (f p) = is p ∙ rw (i, j) in
      let t = (hits_test lc (f p)).says ((and_parts (owns (f p).state) (hits lc (f p)) j).1) in
      set (record {
        here = record { alive = record { some = state_not spec is_i refl (f p).state i; fresh = t.until }; at = rw e at h.at };
        owning = (and_parts (owns (f p).state) (hits lc (f p)) j).0;
        hit = t;
      }) e)
      (λ j. let e : g p ≡ empty = is p ∙ rw (i, j) in not_here lc x (rw e at h)))
      (λ i. let e : g p ≡ f p = is p ∙ rw i in kept i e (rw e at h))

  sets : (p : Pos) → OwnerAt f lc x lc p → g p ≡ settled (f p)
  unfolding abort_line
  sets p o = is p ∙ rw (owns_spec (f p).state o.owning, o.owning, (hits_test lc (f p)).when o.hit)

  keeps : (p : Pos) → spec (f p).state ≡ false → g p ≡ f p
  unfolding abort_line
  keeps p i = is p ∙ rw i

  unspec : (p : Pos) → Here lc x (f p) → spec (f p).state ≡ false → plain (f p).state ≡ true
  unspec p h i = go (plain_or_spec (f p).state h.alive.some)
    where
      go : (plain (f p).state ≡ true) ⊎ (spec (f p).state ≡ true) → plain (f p).state ≡ true
      go (inl j) = j
      go (inr j) = absurd (both_ways _ i j)

  alone : (o : Pos) → OwnerAt f lc x lc o → (q : Pos) → Here lc x (g q) → q ≡ o
  alone o O q h = go (was q h)
    where
      go : Was q → q ≡ o
      go (kept i e h) = plain_alone s q o h O.here (unspec q h i) (owns_spec (f o).state O.owning)
      go (set Q e) = owner_once s lc q o Q O

  -- where a plain line lives all lines are plain, and stay
  unmoved : (r : Pos) → Here lc x (f r) → plain (f r).state ≡ true → Kept 0 f g lc lc x w w
  unmoved r hr pr = record {
    back = λ p h. let e = back p (was p h) in (rw e at h, like_same 0 e);
    stays = λ p q hp hq n. let e = there q hq in (rw e hq, like_same 0 e);
    lows = λ p h i. plain_alone s r p hr (rw (back p (was p h)) at h) pr i;
    up = λ p h i. omega arith;
    memory = λ p h i. refl;
  }
    where
      back : (p : Pos) → Was p → g p ≡ f p
      back p (kept i e h) = e
      back p (set o e) = plain_alone s r p hr o.here pr (owns_spec (f p).state o.owning)

      there : (p : Pos) → Here lc x (f p) → g p ≡ f p
      there p h = by_test (spec (f p).state) (λ i. plain_alone s r p hr h pr i) (keeps p)

  pub sound_abort : SoundAt g lc x w
  sound_abort = record { stand = λ p q n hp hq. (whole p hp (was p hp)).stand p q n hp hq; meets = λ p h. (whole p h (was p h)).meets p h }
    where
      whole : (p : Pos) → Here lc x (g p) → Was p → SoundAt g lc x w
      whole p h (kept i e k) = sound_kept (unmoved p k (unspec p k i)) s.sound
      whole p h (set o e) = sound_lone p (alone p o) (rw e (record {
        whole = state_not owns (λ s. ranged (settle s)) refl (f p).state o.owning;
        equal = λ c. (s.sound.meets p o.here).clean (state_rule (λ s. owns s && clean (settle s)) (λ s. is_e s || is_se s) refl (f p).state (both_true o.owning c));
        covers = λ c. state_never owns (λ s. spec (settle s)) refl (f p).state o.owning c;
      }))

  pub sees_abort : (a : ℕ) (v : Data) → Sees f lc x w lc v → Sees g lc x w a v
  sees_abort a v (from_owner p o e) =
      let d = sets p o in let i = o.owning in
      from_plain p (rw d (whole_here lc x (settled (f p)) (state_not owns (λ s. is_i (settle s)) refl (f p).state i)
      (state_not owns (λ s. ranged (settle s)) refl (f p).state i) o.here.at))
      (rw d (state_rule owns (λ s. plain (settle s)) refl (f p).state i)) (rw d e)
  sees_abort a v (from_plain p h i e) = let d = keeps p (state_not plain spec refl (f p).state i) in from_plain p (rw d h) (rw d i) (rw d e)
  sees_abort a v (from_memory n e) = from_memory (λ p h. go p (was p h)) e
    where
      go : (p : Pos) → Was p → Passes a w (g p)
      go p (kept i d h) = rw d (record { same = (n p h).same; later = λ o. absurd (both_ways _ i (owns_spec (f p).state o)) })
      go p (set o d) = absurd (omega (arith, (n p o.here).later o.owning, o.hit.from))

-- no speculative line is left, of any address
pub abort_plain : (lc : ℕ) (l : Line) → spec (abort_line lc l).state ≡ false
unfolding abort_line
abort_plain lc l =
    by_test (spec l.state)
    (λ i. by_test (owns l.state && hits lc l) (λ j. rw (i, j) (state_not spec (λ s. spec (settle s)) refl l.state i)) (λ j. rw (i, j) refl))
    (λ i. rw i i)

-- ---- lines none of which is speculative: no mark, and sound and seen alike under every LCVID

module _ (f : Pos → Line) (lc lc' x : ℕ) (none : (p : Pos) → spec (f p).state ≡ false) where
  never : {P : Type 0} (k : State → Bool) → ((s : State) → k s ≡ true → spec s ≡ true) → (p : Pos) → k (f p).state ≡ true → P
  never k r p i = absurd (both_ways _ (none p) (r (f p).state i))

  pub no_mark : (b : ℕ) → Mark f lc x b → ⊥
  no_mark b (p, h, (t, j)) = never top top_spec p t

  under : {c d : ℕ} (p : Pos) → Here c x (f p) → Here d x (f p)
  under p h = record { alive = record { some = h.alive.some; fresh = λ r. never ranged (state_rule ranged spec refl) p r }; at = h.at }

  pub sound_under : {w : Data} → SoundAt f lc x w → SoundAt f lc' x w
  sound_under {w} s = sound_kept (record {
    back = λ p h. (under p h, like_same 0 refl);
    stays = λ p q hp hq n. (under q hq, like_same 0 refl);
    lows = λ p h i. absurd (both_ways _ (none p) i);
    up = λ p h i. absurd (both_ways _ (none p) i);
    memory = λ p h i. refl;
  }) s

  pub sees_under : {w : Data} (a b : ℕ) (v : Data) → Sees f lc x w a v → Sees f lc' x w b v
  sees_under a b v (from_owner p o e) = never owns owns_spec p o.owning
  sees_under a b v (from_plain p h i e) = from_plain p (under p h) i e
  sees_under a b v (from_memory n e) = from_memory (λ p h. record { same = (n p (under p h)).same; later = λ o. never owns owns_spec p o }) e
