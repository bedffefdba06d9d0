-- The branches of load, store and evict: a property of the outcome from what each branch comes to. Laws use these instead of opening the rules again.
-- Assumes nothing.
use mathlib.Core.Path.{◌≡◌, refl}
use mathlib.Core.Logic.{◌≢◌}
use mathlib.Core.Bool.{Bool, true, false, cond, ◌&&◌}
use Prim.Native.Nat.{ℕ, ◌≤◌}
use lib.Dec.{leb, eqb}
use borrow.Author.Tests.{eqb-true, eqb-false, leb-true}
use Rattle.std.specs.Prelude.{Option, Some, None}
use Rattle.rules.specs.declared.State.TheVariants.{M, E, S, SM, SO, SE}
use Rattle.rules.specs.declared.Line.{Line}
use Rattle.rules.specs.declared.Machine.{Machine}
use Rattle.rules.specs.declared.Pos.{Pos}
use Rattle.rules.specs.declared.Answer.{Answer}
use Rattle.rules.specs.declared.Answer.TheVariants.{Value, Done, Misspec, Overflow, Refused}
use Rattle.rules.specs.declared.Reason.TheVariants.{NoRoom}
use Rattle.rules.specs.declared.Answered.{Answered}
use Rattle.rules.specs.Data.{Data, read}
use Rattle.rules.specs.States.{is_i, is_sm, top, dirty}
use Rattle.rules.specs.Line.{line, empty, dead, live, is_owner, is_plain}
use Rattle.rules.specs.Machine.{pos, at, memory_at, change, drop, put, find, gives, free_slot, placed_in, place, placed_two_in, place_two}
use Rattle.rules.specs.Abort.{abort_of}
use Rattle.rules.specs.Load.{value_of, after_read, share_line, without_stale, is_own_share, load_away, load_owned, plain_data, demote_line, load_cached, load_plain, is_of, is_dirty, load_new, load_by, load_of}
use Rattle.rules.specs.Store.{misspeculates, misspeculates_plain, bared, version, closed, store_over, store_split, store_new, store_owned, store_by, store_m, store_plain_by, store_of}
use Rattle.rules.specs.Evict.{spare, write_back, settled_out, evict_of}
use Rattle.std.proofs.lemmas.Bool.{and_parts}
use Rattle.rules.proofs.base.Bools.{by_test}
use Rattle.rules.proofs.base.Lines.{Live, live_test}
use Rattle.rules.proofs.machines.Places.{find_some, find_none}
use Rattle.rules.proofs.machines.View.{empty_owner, empty_plain}

-- ---- placing

module _ (P : Answered → Type 0) (μ : Machine) (r : Answer) (c : ℕ) where
  pub place_cases : (l : Line) (δ : Machine) → ((e : ℕ) → free_slot δ c ≡ Some e → P (gives r (put (pos c e) l δ))) → P (gives (Refused NoRoom) μ) → P (place μ r c l δ)
  unfolding place
  place_cases l δ some none = go (free_slot δ c) refl
    where
      go : (z : Option ℕ) → free_slot δ c ≡ z → P (placed_in μ r c l δ z)
      go (Some e) q = some e q
      go None q = none

  pub place_two_cases : (k l : Line) (δ : Machine)
      → ((e f : ℕ) → free_slot δ c ≡ Some e → free_slot (put (pos c e) k δ) c ≡ Some f → P (gives r (put (pos c f) l (put (pos c e) k δ)))) → P (gives (Refused NoRoom) μ) →
      P (place_two μ r c k l δ)
  unfolding place_two
  place_two_cases k l δ some none = go (free_slot δ c) refl
    where
      go : (z : Option ℕ) → free_slot δ c ≡ z → P (placed_two_in μ r c k l δ z)
      go (Some e) q = place_cases l (put (pos c e) k δ) (λ f j. some e f q j) none
      go None q = none

-- ---- load

abbrev pub Unowned : Machine → ℕ → ℕ → Type 0
Unowned μ x a = (q : Pos) → is_owner x a (at μ q) ≡ false

pub record LoadBranches (μ : Machine) (vid : Bool) (c a x i : ℕ) (P : Answered → Type 0) : Type 0 where
  -- the asker holds the owner; an S-S of its own that hits; or it places one
  pub owner : (o : Pos) → is_owner x a (at μ o) ≡ true → P (gives (value_of (at μ o) i) (after_read μ vid a o))
  pub share : (q : Pos) → is_own_share c x a q (at μ q) ≡ true → P (gives (value_of (at μ q) i) μ)
  pub copy : (o : Pos) → is_owner x a (at μ o) ≡ true → o.cache ≢ c → (e : ℕ) → free_slot (without_stale μ vid c a x o) c ≡ Some e
      → P (gives (value_of (at μ o) i) (put (pos c e) (share_line x a (at μ o)) (without_stale μ vid c a x o)))
  -- with a VID, otherwise
  pub first : vid ≡ true → Unowned μ x a → (e : ℕ) → free_slot (drop (is_of x) μ) c ≡ Some e
      → P (gives (Value (read (plain_data μ x) i)) (put (pos c e) (line (cond (is_dirty μ x) SM SE) x 0 a (plain_data μ x)) (drop (is_of x) μ)))
  -- plain, otherwise: the asker holds a plain line; another cache does; none
  pub held : vid ≡ false → Unowned μ x a → (q : Pos) → is_plain x (at μ q) ≡ true → P (gives (value_of (at μ q) i) μ)
  pub shared : vid ≡ false → Unowned μ x a → ((p : Pos) → (eqb p.cache c && is_plain x (at μ p)) ≡ false) → (q : Pos) → is_plain x (at μ q) ≡ true
      → (e : ℕ) → free_slot (change (λ p l. demote_line x l) μ) c ≡ Some e → P (gives (value_of (at μ q) i)
      (put (pos c e) (line S x 0 0 (at μ q).word) (change (λ p l. demote_line x l) μ)))
  pub fetched : vid ≡ false → Unowned μ x a → ((p : Pos) → is_plain x (at μ p) ≡ false) → (e : ℕ) → free_slot μ c ≡ Some e
      → P (gives (Value (read (memory_at μ x) i)) (put (pos c e) (line E x 0 0 (memory_at μ x)) μ))
  pub full : P (gives (Refused NoRoom) μ)

pub load_cases : (P : Answered → Type 0) (μ : Machine) (vid : Bool) (c a x i : ℕ) → LoadBranches μ vid c a x i P → P (load_of μ vid c a x i)
unfolding load_of
load_cases P μ vid c a x i B = go (find (λ p l. is_owner x a l) μ) refl
  where
    away : (o : Pos) → is_owner x a (at μ o) ≡ true → o.cache ≢ c → (r : Option Pos) → find (is_own_share c x a) μ ≡ r → P (load_away μ vid c a x i o r)
    away o is n (Some q) e = B.share q (find_some (is_own_share c x a) μ q e)
    away o is n None e = place_cases P μ (value_of (at μ o) i) c _ (without_stale μ vid c a x o) (B.copy o is n) B.full

    owned : (o : Pos) → is_owner x a (at μ o) ≡ true → P (load_owned μ vid c a x i o)
    owned o is = unfold load_owned in by_test (eqb o.cache c) (λ j. rw j (B.owner o is)) (λ j. rw j (away o is (eqb-false o.cache c j) (find (is_own_share c x a) μ) refl))

    first : Unowned μ x a → vid ≡ true → P (load_new μ c a x i)
    first none v = unfold load_new in place_cases P μ _ c _ (drop (is_of x) μ) (B.first v none) B.full

    cached : Unowned μ x a → vid ≡ false → ((p : Pos) → (eqb p.cache c && is_plain x (at μ p)) ≡ false) → (r : Option Pos) → find (λ p l. is_plain x l) μ ≡ r → P (load_cached μ c x i r)
    cached none v own (Some q) e = place_cases P μ _ c _ (change (λ p l. demote_line x l) μ) (B.shared v none own q (find_some (λ p l. is_plain x l) μ q e)) B.full
    cached none v own None e = place_cases P μ _ c _ μ (B.fetched v none (find_none (λ p l. is_plain x l) μ (λ q. empty_plain x) e)) B.full

    plainly : Unowned μ x a → vid ≡ false → (r : Option Pos) → find (λ p l. eqb p.cache c && is_plain x l) μ ≡ r → P (load_plain μ c x i r)
    plainly none v (Some q) e = B.held v none q ((and_parts (eqb q.cache c) (is_plain x (at μ q)) (find_some (λ p l. eqb p.cache c && is_plain x l) μ q e)).1)
    plainly none v None e =
        cached none v (find_none (λ p l. eqb p.cache c && is_plain x l) μ (λ q. by_test (eqb q.cache c) (λ j. rw (j, empty_plain x)) (λ j. rw j)) e)
        (find (λ p l. is_plain x l) μ) refl

    go : (r : Option Pos) → find (λ p l. is_owner x a l) μ ≡ r → P (load_by μ vid c a x i r)
    go (Some o) e = owned o (find_some (λ p l. is_owner x a l) μ o e)
    go None e =
        let none = find_none (λ p l. is_owner x a l) μ (λ q. empty_owner x a) e in
        by_test vid (λ v. rw v (first none v)) (λ v. rw v (plainly none v (find (λ p l. eqb p.cache c && is_plain x l) μ) refl))

-- ---- store

pub record StoreBranches (μ : Machine) (vid : Bool) (c a x : ℕ) (d : Data) (P : Answered → Type 0) : Type 0 where
  pub misspec : (o : Pos) → is_owner x a (at μ o) ≡ true → P (gives Misspec (abort_of μ))
  -- with a VID: over the owner, which is the store's own version; above it; where there is none
  pub over : vid ≡ true → (o : Pos) → is_owner x a (at μ o) ≡ true → misspeculates a (at μ o) ≡ false → (at μ o).m ≡ a → (e : ℕ) → free_slot (put o empty (bared μ x o)) c ≡ Some e
      → P (gives Done (put (pos c e) (version x a d) (put o empty (bared μ x o))))
  pub split : vid ≡ true → (o : Pos) → is_owner x a (at μ o) ≡ true → misspeculates a (at μ o) ≡ false → (is_sm (at μ o).state && eqb a (at μ o).m) ≡ false
      → (e : ℕ) → free_slot (put o (closed a (at μ o)) (bared μ x o)) c ≡ Some e → P (gives Done (put (pos c e) (version x a d) (put o (closed a (at μ o)) (bared μ x o))))
  pub first : vid ≡ true → Unowned μ x a → (e f : ℕ) → free_slot (drop (is_of x) μ) c ≡ Some e → free_slot (put (pos c e) (line SO x 0 a (plain_data μ x)) (drop (is_of x) μ)) c ≡ Some f
      → P (gives Done (put (pos c f) (version x a d) (put (pos c e) (line SO x 0 a (plain_data μ x)) (drop (is_of x) μ))))
  -- plain: a settled owner, or none
  pub plain_owned : vid ≡ false → (o : Pos) → is_owner x a (at μ o) ≡ true → misspeculates_plain μ (at μ o) ≡ false → (e : ℕ) → free_slot (drop (is_of x) μ) c ≡ Some e
      → P (gives Done (put (pos c e) (line M x 0 0 d) (drop (is_of x) μ)))
  pub plain_unowned : vid ≡ false → Unowned μ x a → (e : ℕ) → free_slot (drop (is_of x) μ) c ≡ Some e → P (gives Done (put (pos c e) (line M x 0 0 d) (drop (is_of x) μ)))
  pub full : P (gives (Refused NoRoom) μ)

pub store_cases : (P : Answered → Type 0) (μ : Machine) (vid : Bool) (c a x : ℕ) (d : Data) → StoreBranches μ vid c a x d P → P (store_of μ vid c a x d)
unfolding store_of
store_cases P μ vid c a x d B = by_test vid (λ v. rw v (with_vid v (find (λ p l. is_owner x a l) μ) refl)) (λ v. rw v (plainly v (find (λ p l. is_owner x a l) μ) refl))
  where
    over : vid ≡ true → (o : Pos) → is_owner x a (at μ o) ≡ true → misspeculates a (at μ o) ≡ false → (at μ o).m ≡ a → P (store_over μ c a x d o)
    over v o is n e = unfold store_over in place_cases P μ Done c _ (put o empty (bared μ x o)) (B.over v o is n e) B.full

    split : vid ≡ true → (o : Pos) → is_owner x a (at μ o) ≡ true → misspeculates a (at μ o) ≡ false → (is_sm (at μ o).state && eqb a (at μ o).m) ≡ false → P (store_split μ c a x d o)
    split v o is n j = unfold store_split in place_cases P μ Done c _ (put o (closed a (at μ o)) (bared μ x o)) (B.split v o is n j) B.full

    owned : vid ≡ true → (o : Pos) → is_owner x a (at μ o) ≡ true → P (store_owned μ c a x d o)
    owned v o is = unfold store_owned in by_test (misspeculates a (at μ o)) (λ n. rw n (B.misspec o is))
        (λ n. by_test (is_sm (at μ o).state && eqb a (at μ o).m) (λ j. rw (n, j) (over v o is n (own j))) (λ j. rw (n, j) (split v o is n j)))
      where
        own : (is_sm (at μ o).state && eqb a (at μ o).m) ≡ true → (at μ o).m ≡ a
        own j = let e : a ≡ (at μ o).m = eqb-true a (at μ o).m ((and_parts (is_sm (at μ o).state) (eqb a (at μ o).m) j).1) in cc e

    with_vid : vid ≡ true → (r : Option Pos) → find (λ p l. is_owner x a l) μ ≡ r → P (store_by μ c a x d r)
    with_vid v (Some o) e = owned v o (find_some (λ p l. is_owner x a l) μ o e)
    with_vid v None e = unfold store_new in place_two_cases P μ Done c _ _ (drop (is_of x) μ) (B.first v (find_none (λ p l. is_owner x a l) μ (λ q. empty_owner x a) e)) B.full

    plainly : vid ≡ false → (r : Option Pos) → find (λ p l. is_owner x a l) μ ≡ r → P (store_plain_by μ c x d r)
    plainly v (Some o) e =
        let is = find_some (λ p l. is_owner x a l) μ o e in
        by_test (misspeculates_plain μ (at μ o)) (λ n. rw n (B.misspec o is))
        (λ n. rw n (unfold store_m in place_cases P μ Done c _ (drop (is_of x) μ) (B.plain_owned v o is n) B.full))
    plainly v None e = unfold store_m in place_cases P μ Done c _ (drop (is_of x) μ) (B.plain_unowned v (find_none (λ p l. is_owner x a l) μ (λ q. empty_owner x a) e)) B.full

-- ---- evict a slot that is not empty

pub record EvictBranches (μ : Machine) (p : Pos) (P : Answered → Type 0) : Type 0 where
  pub dead_line : dead μ.lcvid (at μ p) ≡ true → P (gives Done (put p empty μ))
  pub spare_line : Live μ.lcvid (at μ p) → spare (at μ p).state ≡ true → P (gives Done (put p empty μ))
  pub dirty_line : Live μ.lcvid (at μ p) → dirty (at μ p).state ≡ true → P (gives Done (write_back p μ (put p empty μ)))
  pub settled : Live μ.lcvid (at μ p) → top (at μ p).state ≡ true → (at μ p).h ≤ μ.lcvid → P (gives Done (settled_out μ p))
  pub over : P (gives Overflow (abort_of μ))

pub evict_cases : (P : Answered → Type 0) (μ : Machine) (p : Pos) → is_i (at μ p).state ≡ false → EvictBranches μ p P → P (evict_of μ p)
unfolding evict_of
evict_cases P μ p some B =
    by_test (dead μ.lcvid (at μ p)) (λ d. rw d (B.dead_line d))
    (λ d. by_test (spare (at μ p).state) (λ c. rw (d, c) (B.spare_line (alive d) c))
    (λ c. by_test (dirty (at μ p).state) (λ e. rw (d, c, e) (B.dirty_line (alive d) e))
    (λ e. by_test (top (at μ p).state && leb (at μ p).h μ.lcvid)
    (λ t. rw (d, c, e, t) (B.settled (alive d) ((and_parts (top (at μ p).state) (leb (at μ p).h μ.lcvid) t).0)
    (leb-true (at μ p).h μ.lcvid ((and_parts (top (at μ p).state) (leb (at μ p).h μ.lcvid) t).1))))
    (λ t. rw (d, c, e, t) B.over))))
  where
    alive : dead μ.lcvid (at μ p) ≡ false → Live μ.lcvid (at μ p)
    alive d = (live_test μ.lcvid (at μ p)).says (unfold live in rw (some, d) refl)
