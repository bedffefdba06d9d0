-- The four lines of document 01's "Easy to get wrong", each as a theorem about the definitions.
-- Assumes nothing.
use mathlib.Core.Path.{◌≡◌, refl, sym, ◌∙◌, ap, subst}
use mathlib.Core.Logic.{◌⊎◌, inl, inr}
use mathlib.Core.Bool.{Bool, true, false, true≢false}
use Prim.Native.Nat.{ℕ, zero, suc, ◌≤◌, ◌<◌}
use native.Mathlib.Omega.{arith}
use borrow.Author.Tests.{lt-ltb, le-leb, lt-leb, le-ltb, eq-eqb, ne_eqb}
use Rattle.std.specs.Prelude.{Option, Some, None}
use Rattle.rules.specs.declared.State.TheVariants.{M, SM, SO}
use Rattle.rules.specs.declared.Line.{Line}
use Rattle.rules.specs.declared.Machine.{Machine}
use Rattle.rules.specs.declared.Pos.{Pos}
use Rattle.rules.specs.declared.Op.TheVariants.{Load, Store, Evict}
use Rattle.rules.specs.declared.Answer.{Answer}
use Rattle.rules.specs.declared.Answer.TheVariants.{Value, Done, Misspec, Overflow, Refused}
use Rattle.rules.specs.declared.Reason.TheVariants.{NoRoom}
use Rattle.rules.specs.declared.Answered.{Answered}
use Rattle.rules.specs.Data.{Data, read, line_of, word_of}
use Rattle.rules.specs.States.{is_i, is_sm, is_so, ranged, top, owns, dirty}
use Rattle.rules.specs.Line.{line, empty, dead, hits, is_owner, is_share}
use Rattle.rules.specs.Machine.{pos, at, memory_at, vids, change, drop, put, find, gives}
use Rattle.rules.specs.House.{Sized, House, Lives}
use Rattle.rules.specs.Abort.{abort_line, abort_of}
use Rattle.rules.specs.Load.{is_of}
use Rattle.rules.specs.Store.{misspeculates, bared, store_owned, store_by, store_of}
use Rattle.rules.specs.Evict.{spare, write_back, with_shares, settled_out, evict_of}
use Rattle.rules.specs.Step.{acts_with, has_vid, rule_of, step_of}
use Rattle.std.proofs.lemmas.Bool.{both_ways}
use Rattle.rules.proofs.base.Bools.{by_test}
use Rattle.rules.proofs.base.States.{state_rule, state_not}
use Rattle.rules.proofs.base.Lines.{share_test, owner_test, top_hits, whole_here}
use Rattle.rules.proofs.machines.Sound.{good}
use Rattle.rules.proofs.address.Owners.{owner_once}
use Rattle.rules.proofs.machines.Places.{drop_gone, drop_stays, at_put_any, find_some, find_none}
use Rattle.rules.proofs.machines.View.{empty_owner, owner_at, owner_view}
use Rattle.rules.proofs.machines.Moves.{write_memory}
use Rattle.rules.proofs.machines.Settle.{abort_at}
use Rattle.rules.proofs.machines.StepLaw.{last_of, word_view, word_marked, LawOf}
use Rattle.rules.proofs.history.Laws.{Evicts}
use Rattle.rules.proofs.address.Sound.{OwnerAt}
use Rattle.rules.proofs.machines.Branches.{store_cases}
use Rattle.rules.proofs.machines.Admitted.{Admitted}
use Rattle.rules.proofs.Theorems.{step_sound, step_lawful, rule_is_step, store_is_rule, load_returns}
use Rattle.rules.proofs.machines.House.{house_sound}

-- ---- "On abort keeping S-M and dropping S-O by state alone."

-- with LCVID 3, of S-O (0, 2), S-O (2, 5) and S-M (5, 7) of an address only the second survives, as M
pub abort_keeps_what_lcvid_hits : (μ : Machine) → μ.lcvid ≡ 3 → (x : ℕ) (u v w : Data) (p q r : Pos) → at μ p ≡ line SO x 0 2 u → at μ q ≡ line SO x 2 5 v → at μ r ≡ line SM x 5 7 w
    → (at (abort_of μ) p ≡ empty) × (at (abort_of μ) q ≡ line M x 0 0 v) × (at (abort_of μ) r ≡ empty)
unfolding abort_line hits
abort_keeps_what_lcvid_hits μ l x u v w p q r a b c = (
  abort_at μ p ∙ ap (λ (n : ℕ). abort_line n (at μ p)) l ∙ ap (abort_line 3) a,
  abort_at μ q ∙ ap (λ (n : ℕ). abort_line n (at μ q)) l ∙ ap (abort_line 3) b,
  abort_at μ r ∙ ap (λ (n : ℕ). abort_line n (at μ r)) l ∙ ap (abort_line 3) c,
)

-- an answer that is not done
is_done : Answer → Bool
is_done (Value w) = false
is_done Done = true
is_done Misspec = false
is_done Overflow = false
is_done (Refused r) = false

not_done : {P : Type 0} (r : Answer) → is_done r ≡ false → r ≡ Done → P
not_done r i e = absurd (true≢false (unfold is_done in sym (ap is_done e) ∙ i))

-- the owner is one place
owner_is : (μ : Machine) → Sized μ → House μ → (x a : ℕ) → μ.lcvid ≤ a → (o p : Pos) → is_owner x a (at μ o) ≡ true → is_owner x a (at μ p) ≡ true → p ≡ o
owner_is μ z h x a up o p i j = let s = (house_sound z h).lines in owner_once (good s x) a p o (owner_at s x a up p j) (owner_at s x a up o i)

-- ---- "Leaving S-S lines in place on a store: a later load with the same VID reads the old word."

module _ (x m : ℕ) where
  empty_unshared : is_share x m empty ≡ false
  empty_unshared = unfold is_share in refl

  put_unshared : (μ : Machine) (p : Pos) (l : Line) → is_share x m l ≡ false → ((q : Pos) → is_share x m (at μ q) ≡ false) → (q : Pos) → is_share x m (at (put p l μ) q) ≡ false
  put_unshared μ p l i f q = go (at_put_any μ p q l)
    where
      go : (at (put p l μ) q ≡ l) ⊎ (at (put p l μ) q ≡ at μ q) → is_share x m (at (put p l μ) q) ≡ false
      go (inl e) = rw e i
      go (inr e) = rw e (f q)

  -- where every S-S with that m of x is among the lines that drop
  drop_unshared : (t : Pos → Line → Bool) (μ : Machine) → ((q : Pos) (l : Line) → is_share x m l ≡ true → t q l ≡ true) → (q : Pos) → is_share x m (at (drop t μ) q) ≡ false
  drop_unshared t μ k q =
      by_test (t q (at μ q)) (λ i. rw (drop_gone t μ q i) empty_unshared) (λ i. rw (drop_stays t μ q i)
      (by_test (is_share x m (at μ q)) (λ j. absurd (both_ways _ i (k q (at μ q) j))) (λ j. j)))

-- after a store over an owner no S-S with the owner's m is left at that address
pub store_drops_shares : (μ : Machine) → Sized μ → House μ → (vid : Bool) (c a x : ℕ) (d : Data) → μ.lcvid ≤ a → (o : Pos) → is_owner x a (at μ o) ≡ true
    → (store_of μ vid c a x d).answer ≡ Done
    → (q : Pos) → is_share x (at μ o).m (at (store_of μ vid c a x d).machine q) ≡ false
store_drops_shares μ z h vid c a x d up o is = store_cases P μ vid c a x d (record {
  misspec = λ p i e. not_done Misspec (unfold is_done in refl) e;
  over = λ v p i n j e s k. put_unshared x m _ _ _ (unfold is_share in refl) (put_unshared x m _ p empty (empty_unshared x m) (bare p i));
  split = λ v p i n j e s k. put_unshared x m _ _ _ (unfold is_share in refl) (put_unshared x m _ p _ (unfold is_share in refl) (bare p i));
  first = λ v n. absurd (both_ways _ (n o) is);
  plain_owned = λ v p i n e s k. put_unshared x m _ _ _ (unfold is_share in refl) all_gone;
  plain_unowned = λ v n. absurd (both_ways _ (n o) is);
  full = λ e. not_done (Refused NoRoom) (unfold is_done in refl) e;
})
  where
    m : ℕ
    m = (at μ o).m

    P : Answered → Type 0
    P r = r.answer ≡ Done → (q : Pos) → is_share x (at μ o).m (at r.machine q) ≡ false

    bare : (p : Pos) → is_owner x a (at μ p) ≡ true → (q : Pos) → is_share x m (at (bared μ x p) q) ≡ false
    bare p i = subst (λ (t : Pos). (q : Pos) → is_share x m (at (bared μ x t) q) ≡ false) (sym (owner_is μ z h x a up o p is i)) (drop_unshared x m (λ q l. is_share x m l) μ (λ q l j. j))

    all_gone : (q : Pos) → is_share x m (at (drop (is_of x) μ) q) ≡ false
    all_gone = drop_unshared x m (is_of x) μ (λ q l j. unfold is_of in eq-eqb l.address x ((share_test x m l).says j).1.0)

-- ---- "Letting a store past when a = m but h > a: a later transaction has read the word."

pub later_read_misspeculates : (μ : Machine) → Sized μ → House μ → (c v at₀ w : ℕ) → Admitted μ c v at₀ → μ.lcvid < v → (o : Pos) → Lives μ (line_of at₀) is_sm o
    → (at μ o).m ≡ v → v < (at μ o).h → (step_of μ (Store c v at₀ w)).answer ≡ Misspec
later_read_misspeculates μ z h c v at₀ w A new o l own read-later =
    rw (store_is_rule μ z h c v at₀ w A) (unfold store_of in rw (has v new, acts v new) (go _ (find (λ p k. is_owner (line_of at₀) v k) μ) refl))
  where
    has : (v : ℕ) → μ.lcvid < v → has_vid v ≡ true
    has v i = rw (ne_eqb v 0 (omega arith))

    acts : (v : ℕ) → μ.lcvid < v → acts_with μ.lcvid v ≡ v
    acts zero i = absurd (omega arith)
    acts (suc v) i = refl

    is : is_owner (line_of at₀) v (at μ o) ≡ true
    is =
        (owner_test (line_of at₀) v (at μ o)).when (record {
          owning = state_rule is_sm owns refl (at μ o).state l.kind;
          at = l.here;
          hit = top_hits v (at μ o) (state_rule is_sm top refl (at μ o).state l.kind) (omega arith);
        })

    judged : misspeculates v (at μ o) ≡ true
    judged = unfold misspeculates in rw (state_not is_sm is_so refl (at μ o).state l.kind, lt-ltb v (at μ o).h read-later)

    go : (d : Data) (r : Option Pos) → find (λ p k. is_owner (line_of at₀) v k) μ ≡ r → (store_by μ c v (line_of at₀) d r).answer ≡ Misspec
    go d (Some p) e = rw (owner_is μ z h (line_of at₀) v (omega arith) o p is (find_some (λ p k. is_owner (line_of at₀) v k) μ p e)) (unfold store_owned in rw judged)
    go d None e = absurd (both_ways _ (find_none (λ p k. is_owner (line_of at₀) v k) μ (λ q. empty_owner (line_of at₀) v) e o) is)

-- ---- "Treating a settled S-M as clean at eviction. Its word is lost."

module _ (μ : Machine) (z : Sized μ) (h : House μ) (c t : ℕ) (in_use : c < μ.count) (slot : t ≤ 15) (state : is_sm (at μ (pos c t)).state ≡ true)
    (settled : (at μ (pos c t)).h ≤ μ.lcvid) where
  abbrev p : Pos
  p = pos c t

  evicted : evict_of μ p ≡ gives Done (write_back p μ (with_shares μ p))
  evicted =
      unfold evict_of settled_out dead in rw (
        state_not is_sm ranged refl (at μ p).state state,
        state_not is_sm spare refl (at μ p).state state,
        state_not is_sm dirty refl (at μ p).state state,
        state_rule is_sm top refl (at μ p).state state,
        le-leb (at μ p).h μ.lcvid settled,
        state,
      )

  step_evicts : step_of μ (Evict c t) ≡ gives Done (write_back p μ (with_shares μ p))
  step_evicts = rule_is_step μ z h (Evict c t) ∙ unfold rule_of in rw (lt-leb μ.count c in_use, le-ltb 15 t slot, state_not is_sm is_i refl (at μ p).state state) evicted

  pub settled_word_reaches_memory : ((step_of μ (Evict c t)).answer ≡ Done) × (memory_at (step_of μ (Evict c t)).machine (at μ p).address ≡ (at μ p).word)
  settled_word_reaches_memory =
      rw step_evicts (refl, write_memory (with_shares μ p) (at μ p).address (at μ p).word (unfold with_shares put drop change in omega (arith, h.addresses p, z.words)))

  abbrev ν : Machine
  ν = (step_of μ (Evict c t)).machine

  -- it is the owner for every number from LCVID up, and evicting it changes nothing that is seen
  seen : (at₀ a : ℕ) → line_of at₀ ≡ (at μ p).address → ν.lcvid ≤ a → word_view ν at₀ a ≡ read (at μ p).word (word_of at₀)
  seen at₀ a e i = E.same at₀ a i ∙ ap (λ (d : Data). read d (word_of at₀)) (sym (owner_view (house_sound z h).lines (line_of at₀) a up p O))
    where
      E : Evicts Machine line_of last_of word_view word_marked μ ν
      E = subst (λ (r : Answer). LawOf (vids μ) μ ν (Evict c t) r) settled_word_reaches_memory.0 (step_lawful μ z h (Evict c t))

      up : μ.lcvid ≤ a
      up = omega (arith, E.last)

      tp : top (at μ p).state ≡ true
      tp = state_rule is_sm top refl (at μ p).state state

      O : OwnerAt (at μ) μ.lcvid (line_of at₀) a p
      O = record {
        here = whole_here μ.lcvid (line_of at₀) (at μ p) (state_not is_sm is_i refl (at μ p).state state) (state_not is_sm ranged refl (at μ p).state state) (sym e);
        owning = state_rule is_sm owns refl (at μ p).state state;
        hit = top_hits a (at μ p) tp (omega (arith, up, (h.lines p).newest tp));
      }

  -- and the next load of that address, plain or not, from any cache, returns it (if there is room for the line that it places)
  pub settled_word_is_loaded : (c' v at₀ : ℕ) → line_of at₀ ≡ (at μ p).address → Admitted ν c' v at₀
      → ((step_of ν (Load c' v at₀)).answer ≡ Value (read (at μ p).word (word_of at₀))) ⊎ ((step_of ν (Load c' v at₀)).answer ≡ Refused NoRoom)
  settled_word_is_loaded c' v at₀ e A =
      subst (λ (w : ℕ). ((step_of ν (Load c' v at₀)).answer ≡ Value w) ⊎ ((step_of ν (Load c' v at₀)).answer ≡ Refused NoRoom)) (seen at₀ (acts_with ν.lcvid v) e (at_least v A.fresh))
      (load_returns ν (step_sound μ z h (Evict c t)).1 (step_sound μ z h (Evict c t)).0 c' v at₀ A)
    where
      at_least : (v : ℕ) → (v ≡ 0) ⊎ (ν.lcvid < v) → ν.lcvid ≤ acts_with ν.lcvid v
      at_least zero i = omega arith
      at_least (suc v) (inl i) = absurd (omega arith)
      at_least (suc v) (inr i) = omega arith
