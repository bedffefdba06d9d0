-- The house rules over the numbered slots are `is_sound`: a test of all lines of a machine, or of some line, is a test of the 64 slots.
-- Assumes nothing.
use mathlib.Core.Path.{◌≡◌, refl, sym}
use mathlib.Core.Logic.{◌⊎◌, inl, inr}
use mathlib.Core.Bool.{Bool, true, false, ◌&&◌, not, and-false, or-true, false≢true}
use Prim.Native.Nat.{ℕ, ◌+◌, ◌*◌, ◌<◌}
use native.Mathlib.Omega.{arith}
use native.Mathlib.Decide.{dec_lt}
use lib.Dec.{leb, ltb, eqb}
use lib.ListN.{get_or, get_or-eq_default}
use Rattle.std.specs.List.{list_all, range_with_len}
use Rattle.std.proofs.lemmas.Bool.{both_ways}
use Rattle.std.proofs.lemmas.Bool.Decides.{same_from_decides}
use Rattle.rules.specs.declared.Line.{Line}
use Rattle.rules.specs.declared.Machine.{Machine}
use Rattle.rules.specs.declared.Pos.{Pos}
use Rattle.rules.specs.Data.{same_data}
use Rattle.rules.specs.Line.{empty, live}
use Rattle.rules.specs.Machine.{no_cache, at, any_line, all_lines}
use Rattle.rules.specs.HouseTest.{imp, line_fits, slot_fits, same_pos, pair_fits, pairs_fit, some, needs_met, is_sound}
use Rattle.rules.proofs.base.Bools.{by_test}
use Rattle.rules.proofs.base.Tests.{Decides, is_test, as_test}
use Rattle.rules.proofs.machines.Places.{all_lines_lem, any_line_lem}
use Rattle.rules.proofs.Shape.{Shape}
use Rattle.sound.specs.Numbered.{all_below, any_below, pos_of, line_no, slot_no, seen_below, suffices, stands_in, stands_no}
use Rattle.sound.proofs.Below.{all_test, any_test, range_test}
use Rattle.sound.proofs.Slots.{place_is}

-- two tests that decide the same are equal
pub same_test : {a b : Bool} {P Q : Type 0} → Decides a P → Decides b Q → (P → Q) → (Q → P) → a ≡ b
same_test {a} {b} p q f g = same_from_decides a b (p.says, p.when) (λ h. g (q.says h), λ h. q.when (f h))

alike : {a b : Bool} {P : Type 0} → Decides a P → Decides b P → a ≡ b
alike p q = same_test p q (λ h. h) (λ h. h)

fails : {b : Bool} {P : Type 0} → Decides b P → (P → ⊥) → b ≡ false
fails {b} p n = by_test b (λ h. absurd (n (p.says h))) (λ h. h)

-- p is one of the 64 slots
record Slot (p : Pos) : Type 0 where
  number : ℕ
  small : number < 64
  place : pos_of number ≡ p

module _ (μ : Machine) (w : Shape μ) where
  -- a place is a slot, or nothing is there
  slot : (p : Pos) → Slot p ⊎ (at μ p ≡ empty)
  unfolding at
  slot p = go (dec_lt p.cache 4) (dec_lt p.slot 16)
    where
      go : Dec (p.cache < 4) → Dec (p.slot < 16) → Slot p ⊎ (at μ p ≡ empty)
      go (yes c) (yes s) = inl (record { number = 16 * p.cache + p.slot; small = omega arith; place = place_is p.cache p.slot s })
      go (no c) s = inr (rw (get_or-eq_default μ.caches no_cache {n = p.cache} (omega (arith, w.four))))
      go (yes c) (no s) = inr (get_or-eq_default (get_or μ.caches p.cache no_cache).lines empty (omega (arith, w.sixteen p.cache c)))

  all_slots : (k : Pos → Line → Bool) → ((p : Pos) → k p empty ≡ true) → Decides (all_lines k μ) ((i : ℕ) → i < 64 → k (pos_of i) (line_no μ i) ≡ true)
  all_slots k e = as_test (all_lines_lem k (λ p l. k p l ≡ true) μ (λ p l. is_test (k p l)) e) (λ h i q. h (pos_of i)) (λ h p. from h p (slot p))
    where
      from : ((i : ℕ) → i < 64 → k (pos_of i) (line_no μ i) ≡ true) → (p : Pos) → Slot p ⊎ (at μ p ≡ empty) → k p (at μ p) ≡ true
      from h p (inl q) = rw (← q.place) (h q.number q.small)
      from h p (inr q) = rw q (e p)

  any_slot : (k : Pos → Line → Bool) → ((p : Pos) → k p empty ≡ false) → Decides (any_line k μ) ((i : ℕ) × (i < 64) × (k (pos_of i) (line_no μ i) ≡ true))
  any_slot k e =
      as_test (any_line_lem k (λ p l. k p l ≡ true) μ (λ p l. is_test (k p l)) (λ p h. false≢true (rw (← e p) h)))
      (λ h. from h.0 h.1 (slot h.0)) (λ h. (pos_of h.0, h.2))
    where
      from : (p : Pos) → k p (at μ p) ≡ true → Slot p ⊎ (at μ p ≡ empty) → (i : ℕ) × (i < 64) × (k (pos_of i) (line_no μ i) ≡ true)
      from p h (inl q) = (q.number, q.small, rw q.place h)
      from p h (inr q) = absurd (false≢true (rw (← e p, ← q) h))

  -- a live line of the address passes
  some_numbered : (x : ℕ) (t : Pos → Line → Bool) → some μ x t
      ≡ any_below 64 (λ j. live μ.lcvid (line_no μ j) && (eqb (line_no μ j).address x && t (pos_of j) (line_no μ j)))
  unfolding some
  some_numbered x t = alike (any_slot (λ q l. live μ.lcvid l && (eqb l.address x && t q l)) (λ q. unfold live in refl)) (any_test _ 64)

  pairs_numbered : (p : Pos) (k : Line) → pairs_fit μ p k
      ≡ all_below 64 (λ j. imp (live μ.lcvid (line_no μ j) && (eqb (line_no μ j).address k.address && not (same_pos p (pos_of j)))) (pair_fits p (pos_of j) k (line_no μ j)))
  unfolding pairs_fit
  pairs_numbered p k =
      alike (all_slots (λ q l. imp (live μ.lcvid l && (eqb l.address k.address && not (same_pos p q))) (pair_fits p q k l)) (λ q. unfold live in refl)) (all_test _ 64)

  stands_numbered : (i : ℕ) → imp (live μ.lcvid (line_no μ i)) (pairs_fit μ (pos_of i) (line_no μ i) && needs_met μ (pos_of i) (line_no μ i)) ≡ stands_no μ i
  unfolding stands_in suffices seen_below needs_met
  stands_numbered i = rw pairs_numbered (simp some_numbered)

  slots_test : Decides (all_lines (slot_fits μ) μ) ((i : ℕ) → i < 64 → slot_no μ i ≡ true)
  slots_test = all_slots (slot_fits μ) (λ p. unfold slot_fits in unfold line_fits in unfold same_data in rw or-true)

  stands_test : Decides (all_lines (λ p k. imp (live μ.lcvid k) (pairs_fit μ p k && needs_met μ p k)) μ) ((i : ℕ) → i < 64 → stands_no μ i ≡ true)
  stands_test =
      as_test (all_slots (λ p k. imp (live μ.lcvid k) (pairs_fit μ p k && needs_met μ p k)) (λ p. unfold live in refl))
      (λ h i q. rw (← stands_numbered i) (h i q)) (λ h i q. rw (stands_numbered i) (h i q))

  -- all rules, over the 64 slots
  pub numbered : is_sound μ ≡ (leb 1 μ.count && (leb μ.count 4 && ltb μ.lcvid 64) && (all_below 64 (slot_no μ) && all_below 64 (stands_no μ)))
  unfolding is_sound
  numbered = rw (alike slots_test (all_test (slot_no μ) 64), alike stands_test (all_test (stands_no μ) 64))

  -- the count or LCVID is wrong
  pub no_numbers : false ≡ (leb 1 μ.count && (leb μ.count 4 && ltb μ.lcvid 64)) → false ≡ is_sound μ
  unfolding is_sound
  no_numbers e = rw (← e)

  -- a slot does not fit by itself
  pub no_fit : (i : ℕ) → i < 64 → slot_no μ i ≡ false → false ≡ is_sound μ
  unfolding is_sound
  no_fit i h e = rw (fails slots_test (λ f. both_ways _ e (f i h))) (sym (and-false _))

  -- each slot fits, and each live line is asked
  pub each : true ≡ (leb 1 μ.count && (leb μ.count 4 && ltb μ.lcvid 64)) → ((i : ℕ) → i < 64 → slot_no μ i ≡ true) → list_all (stands_no μ) (range_with_len 0 64) ≡ is_sound μ
  unfolding is_sound
  each e f = rw (← e, slots_test.when f, alike stands_test (range_test (stands_no μ) 64))
