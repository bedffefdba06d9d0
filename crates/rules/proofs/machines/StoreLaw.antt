-- A store on a sound machine sets what is seen from its own number up; or it misspeculates and the machine aborts; or there is no room, and it is refused.
-- Assumes nothing.
use mathlib.Core.Path.{◌≡◌, refl, sym, ◌∙◌, ap, subst}
use mathlib.Core.Logic.{◌≢◌, ◌⊎◌, inl, inr}
use mathlib.Core.Bool.{Bool, true, false, ◌&&◌, not, false≢true}
use Prim.Native.Nat.{ℕ, ◌≤◌, ◌<◌}
use native.Mathlib.Omega.{arith}
use lib.Dec.{ltb, eqb}
use lib.ListN.{length}
use borrow.Author.Tests.{ltb-false, eq-eqb}
use Rattle.std.specs.Prelude.{Some}
use Rattle.rules.specs.declared.State.TheVariants.{M, SO}
use Rattle.rules.specs.declared.Line.{Line}
use Rattle.rules.specs.declared.Machine.{Machine}
use Rattle.rules.specs.declared.Pos.{Pos}
use Rattle.rules.specs.declared.Answer.TheVariants.{Done, Misspec, Refused}
use Rattle.rules.specs.declared.Reason.TheVariants.{NoRoom}
use Rattle.rules.specs.declared.Answered.{Answered}
use Rattle.rules.specs.Data.{Data}
use Rattle.rules.specs.States.{is_sm, is_so, is_se, is_ss, top, owns}
use Rattle.rules.specs.Line.{line, empty, is_owner, is_share}
use Rattle.rules.specs.Machine.{pos, at, memory_at, drop, put, gives, free_slot}
use Rattle.rules.specs.House.{LineRules}
use Rattle.rules.specs.Abort.{abort_of}
use Rattle.rules.specs.Load.{plain_data, view, is_of}
use Rattle.rules.specs.Store.{misspeculates, misspeculates_plain, bared, version, closed, store_of}
use Rattle.std.specs.Cmp.Derive.{both_true}
use Rattle.std.proofs.lemmas.Bool.{both_ways, not_from_false, or_parts}
use Rattle.rules.proofs.base.Bools.{by_test}
use Rattle.rules.proofs.base.States.{state_rule, owns_not_ss}
use Rattle.rules.proofs.base.Lines.{Here, live_test, share_test, pos_dec, plain_here, not_here}
use Rattle.rules.proofs.base.LineRules.{rules_empty, rules_plain, rules_top, rules_closed}
use Rattle.rules.proofs.address.Sound.{OwnerAt, WritesAt}
use Rattle.rules.proofs.address.Owners.{mark_on}
use Rattle.rules.proofs.address.Rebuild.{like_same, owner_like, Lone}
use Rattle.rules.proofs.address.Alone.{writes_lone}
use Rattle.rules.proofs.address.Version.{writes_split, writes_over, writes_first}
use Rattle.rules.proofs.machines.Places.{drop_gone, drop_stays, at_put_same, at_put_other, some_within}
use Rattle.rules.proofs.machines.Sound.{Sound, good}
use Rattle.rules.proofs.machines.View.{Marked, Quiet, quiet_unmarked, owner_at, unowned, view_sees, plain_view, quiet_flat, top_flat}
use Rattle.rules.proofs.machines.Local.{off_at, off_empty, local_trans, Keeps, Writes, local_writes, keeps_writes}
use Rattle.rules.proofs.machines.Moves.{put_local, put_fits, put_memory, put_width, placed_new, placed_free, placed_local, drop_width}
use Rattle.rules.proofs.machines.Replace.{replaced_new, replaced_only, replaced_local, replaced_fits, replaced_memory}
use Rattle.rules.proofs.machines.Shared.{shares_dropped}
use Rattle.rules.proofs.machines.Branches.{Unowned, store_cases}

-- what a store comes to
pub data StoreOutcome (N : ℕ) (μ : Machine) (a x : ℕ) (d : Data) : Answered → Type 0 where
  wrote : (ν : Machine) → Writes N μ ν a x d → StoreOutcome N μ a x d (gives Done ν)
  misspeculated : StoreOutcome N μ a x d (gives Misspec (abort_of μ))
  no_room : StoreOutcome N μ a x d (gives (Refused NoRoom) μ)

-- an owner over which a store does not misspeculate is S-M or S-E, and was not read above a
pub unread_top : (a : ℕ) (l : Line) → owns l.state ≡ true → misspeculates a l ≡ false → (top l.state ≡ true) × (l.h ≤ a)
unfolding misspeculates
unread_top a l o n = let (i, j) = or_parts (is_so l.state) (ltb a l.h) n in (state_rule (λ s. owns s && not (is_so s)) top refl l.state (both_true o (not_from_false _ i)), ltb-false a l.h j)

version_rules : (N x a : ℕ) (d : Data) → a < N → 1 ≤ a → LineRules N (version x a d)
version_rules N x a d small some = rules_top N (version x a d) refl (omega arith) small some (λ c. absurd (false≢true c))

-- ---- a store over or above the owner o; k is what its slot becomes, after its S-S lines have dropped

module _ {N : ℕ} {μ : Machine} (s : Sound N μ) (c a x e : ℕ) (d : Data) (in_range : c < length μ.caches) (small : a < N) (new : μ.lcvid < a)
    (o : Pos) (is : is_owner x a (at μ o) ≡ true) (good-time : misspeculates a (at μ o) ≡ false) (k : Line) (k-rules : LineRules N k)
    (k-of : (k ≡ empty) ⊎ (k.address ≡ x)) (slot : free_slot (put o k (bared μ x o)) c ≡ Some e) where
  up : μ.lcvid ≤ a
  up = omega arith

  O : OwnerAt (at μ) μ.lcvid x a o
  O = owner_at s x a up o is

  abbrev n : Pos
  n = pos c e

  abbrev δ : Machine
  δ = bared μ x o

  abbrev ε : Machine
  ε = put o k δ

  abbrev ν : Machine
  ν = put n (version x a d) ε

  dropped : Keeps N μ δ a x
  dropped = shares_dropped s (λ p l. is_share x (at μ o).m l) a x (λ p l i. let t = (share_test x (at μ o).m l).says i in (t.0, t.1.0))

  same_o : at δ o ≡ at μ o
  same_o =
      drop_stays (λ p l. is_share x (at μ o).m l) μ o (by_test (is_share x (at μ o).m (at μ o))
      (λ i. owns_not_ss (at μ o).state O.owning ((share_test x (at μ o).m (at μ o)).says i).0) (λ i. i))

  owner_δ : OwnerAt (at δ) δ.lcvid x a o
  owner_δ = subst (λ (lc : ℕ). OwnerAt (at δ) lc x a o) (sym dropped.last) (owner_like (like_same 0 same_o) (rw same_o O.here) O)

  top_δ : top (at δ o).state ≡ true
  top_δ = rw same_o (unread_top a (at μ o) O.owning good-time).0

  unread_δ : (at δ o).h ≤ a
  unread_δ = rw same_o (unread_top a (at μ o) O.owning good-time).1

  bare : (p : Pos) → Here δ.lcvid x (at δ p) → is_ss (at δ p).state ≡ true → (at δ p).m ≢ (at δ o).m
  bare p h i j = by_test (is_share x (at μ o).m (at μ p)) (λ z. not_here δ.lcvid x (rw (drop_gone (λ p l. is_share x (at μ o).m l) μ p z) at h))
      (λ z. let q = drop_stays (λ p l. is_share x (at μ o).m l) μ p z in both_ways _ z
      ((share_test x (at μ o).m (at μ p)).when (rw q at i, (rw q at h.at, sym (ap (λ (t : Line). t.m) q) ∙ j ∙ rw same_o refl))))

  width : c < length ε.caches
  width = rw (put_width δ o k, drop_width (λ p l. is_share x (at μ o).m l) μ) in_range

  new_n : at ν n ≡ version x a d
  new_n = placed_new ε c e (version x a d) slot width

  rest : (p : Pos) → p ≢ o → p ≢ n → at ν p ≡ at δ p
  rest p i j = at_put_other ε n p (version x a d) j ∙ at_put_other δ o p k i

  at_o : at ε o ≡ k
  at_o = at_put_same δ o k (some_within δ o (λ i. let z : owns empty.state ≡ true = rw i at owner_δ.owning in false≢true z))

  -- a live line of x at n can only have been the owner's
  free_n : n ≢ o → Here δ.lcvid x (at δ n) → ⊥
  free_n i h = both_ways _ (placed_free ε c e (version x a d) slot width) ((live_test ε.lcvid (at ε n)).when (rw (at_put_other δ o n k i) (unfold put in h.alive)))

  stored : WritesAt (at δ) (at ν) δ.lcvid x a (memory_at δ x) d → Writes N μ ν a x d
  stored W = keeps_writes dropped up (local_writes dropped.sound
      (local_trans (put_local δ o k x (off_at δ.lcvid x (at δ o) owner_δ.here.at) (off_k k-of)) (placed_local ε c e (version x a d) slot width x refl))
      (put_fits ε n (version x a d) (version_rules N x a d small (omega arith)) (put_fits δ o k k-rules dropped.sound.fits))
      a d (put_memory ε n (version x a d) x ∙ put_memory δ o k x) W (rw dropped.last up) (top_flat dropped.sound x a (rw dropped.last up) o owner_δ top_δ))
    where
      off_k : (k ≡ empty) ⊎ (k.address ≡ x) → (y : ℕ) → y ≢ x → Here δ.lcvid y k → ⊥
      off_k (inl i) = rw i (off_empty δ.lcvid x)
      off_k (inr i) = off_at δ.lcvid x k i

  new_δ : δ.lcvid < a
  new_δ = rw dropped.last new

  -- it is the store's own version, and its slot was emptied
  over_law : k ≡ empty → (at μ o).m ≡ a → Writes N μ ν a x d
  over_law i j =
      stored (writes_over (good dropped.sound x) a d new_δ o n owner_δ.here top_δ unread_δ bare new_n rest (rw same_o j)
      (λ z. at_put_other ε n o (version x a d) z ∙ at_o ∙ i) (λ h. go h (pos_dec n o)))
    where
      go : Here δ.lcvid x (at δ n) → Dec (n ≡ o) → n ≡ o
      go h (yes z) = z
      go h (no z) = absurd (free_n z h)

  -- it was closed at a in its slot
  split_law : k ≡ closed a (at μ o) → (at μ o).m < a → Writes N μ ν a x d
  split_law i j =
      stored (writes_split (good dropped.sound x) a d new_δ o n owner_δ.here top_δ unread_δ bare new_n rest (rw same_o j) apart (free_n (λ z. apart (sym z)))
      (at_put_other ε n o (version x a d) apart ∙ at_o ∙ i ∙ rw same_o refl))
    where
      alive_o : Here δ.lcvid x k
      alive_o = rw i (record { alive = record { some = refl; fresh = λ r. new_δ }; at = O.here.at })

      apart : o ≢ n
      apart z = both_ways _ (placed_free ε c e (version x a d) slot width) ((live_test ε.lcvid (at ε n)).when (rw (← z, at_o) (unfold put in alive_o.alive)))

-- ---- no version yet

module _ {N : ℕ} {μ : Machine} (s : Sound N μ) (c a x e f : ℕ) (d : Data) (in_range : c < length μ.caches) (small : a < N) (new : μ.lcvid < a) (none : Unowned μ x a)
    (slot : free_slot (drop (is_of x) μ) c ≡ Some e) (slot' : free_slot (put (pos c e) (line SO x 0 a (plain_data μ x)) (drop (is_of x) μ)) c ≡ Some f) where
  abbrev old : Line
  old = line SO x 0 a (plain_data μ x)

  abbrev β : Machine
  β = put (pos c e) old (drop (is_of x) μ)

  abbrev γ : Machine
  γ = put (pos c f) (version x a d) β

  up' : μ.lcvid ≤ a
  up' = omega arith

  quiet : Quiet μ x
  quiet = unowned s x a up' none

  width_β : c < length β.caches
  width_β = rw (put_width (drop (is_of x) μ) (pos c e) old, drop_width (is_of x) μ) in_range

  last_β : β.lcvid ≡ μ.lcvid
  last_β = (replaced_local μ x c e old slot in_range refl).last

  at_e : at β (pos c e) ≡ old
  at_e = replaced_new μ x c e old slot in_range refl

  two : pos c e ≢ pos c f
  two z =
      both_ways _ (placed_free β c f (version x a d) slot' width_β)
      ((live_test β.lcvid (at β (pos c f))).when (rw (← z, at_e) (record { some = refl; fresh = λ r. omega (arith, last_β) })))

  only : (q : Pos) → Here μ.lcvid x (at γ q) → (q ≡ pos c e) ⊎ (q ≡ pos c f)
  only q h = go (pos_dec q (pos c f))
    where
      go : Dec (q ≡ pos c f) → (q ≡ pos c e) ⊎ (q ≡ pos c f)
      go (yes z) = inr z
      go (no z) = inl (replaced_only μ x c e old slot in_range refl μ.lcvid q (rw (at_put_other β (pos c f) q (version x a d) z) at h))

  first_law : Writes N μ γ a x d
  first_law = local_writes s (local_trans (replaced_local μ x c e old slot in_range refl) (placed_local β c f (version x a d) slot' width_β x refl))
      (put_fits β (pos c f) (version x a d) (version_rules N x a d small (omega arith))
      (replaced_fits μ x c e old slot in_range refl (rules_closed N x 0 a (plain_data μ x) (omega arith) small) s.fits))
      a d (put_memory β (pos c f) (version x a d) x ∙ replaced_memory μ x c e old slot in_range refl)
      (writes_first a (plain_data μ x) d new (pos c e) (pos c f) two (at_put_other β (pos c f) (pos c e) (version x a d) two ∙ at_e) (placed_new β c f (version x a d) slot' width_β) only
      (λ b v i k. quiet_flat s x a up' quiet b i v k ∙ sym (plain_view s x a up' none)) (quiet_unmarked μ x quiet)) up'
      (λ b i. quiet_flat s x a up' quiet b (omega arith) (view μ x b) (view_sees s x b (omega arith)))

-- ---- a plain store, above whose LCVID nothing is marked

plain_law : {N : ℕ} {μ : Machine} (s : Sound N μ) (c x e : ℕ) (d : Data) → c < length μ.caches → ((b : ℕ) → μ.lcvid < b → Marked μ x b → ⊥)
    → ((b : ℕ) → μ.lcvid ≤ b → view μ x b ≡ view μ x μ.lcvid)
    → free_slot (drop (is_of x) μ) c ≡ Some e → Writes N μ (put (pos c e) (line M x 0 0 d) (drop (is_of x) μ)) μ.lcvid x d
plain_law {N} {μ} s c x e d in_range none flat slot =
    local_writes s (replaced_local μ x c e l slot in_range refl) (replaced_fits μ x c e l slot in_range refl (rules_plain N l refl refl refl) s.fits) μ.lcvid d
    (replaced_memory μ x c e l slot in_range refl) W (omega arith) flat
  where
    l : Line
    l = line M x 0 0 d

    new : at (put (pos c e) l (drop (is_of x) μ)) (pos c e) ≡ l
    new = replaced_new μ x c e l slot in_range refl

    lone : Lone μ.lcvid (memory_at μ x) l
    lone = record { whole = refl; equal = λ i. absurd (false≢true i); covers = λ i. absurd (false≢true i) }

    W : WritesAt (at μ) (at (put (pos c e) l (drop (is_of x) μ))) μ.lcvid x μ.lcvid (memory_at μ x) d
    W = subst (λ (k : Line). WritesAt (at μ) (at (put (pos c e) l (drop (is_of x) μ))) μ.lcvid x μ.lcvid (memory_at μ x) k.word) new
        (writes_lone (pos c e) (replaced_only μ x c e l slot in_range refl μ.lcvid) (rw new (plain_here μ.lcvid x l refl refl)) (rw new lone) (rw new refl) none)

-- ---- the law of stores

module _ {N : ℕ} {μ : Machine} (s : Sound N μ) (vid : Bool) (c a x : ℕ) (d : Data) (in_range : c < length μ.caches) (small : a < N)
    (above : vid ≡ true → μ.lcvid < a) (plainly : vid ≡ false → a ≡ μ.lcvid) where
  abbrev Ok : Answered → Type 0
  Ok r = StoreOutcome N μ a x d r

  over : vid ≡ true → (o : Pos) → is_owner x a (at μ o) ≡ true → misspeculates a (at μ o) ≡ false → (at μ o).m ≡ a → (e : ℕ) → free_slot (put o empty (bared μ x o)) c ≡ Some e
      → Ok (gives Done (put (pos c e) (version x a d) (put o empty (bared μ x o))))
  over v o is n i e slot = wrote _ (over_law s c a x e d in_range small (above v) o is n empty (rules_empty N) (inl refl) slot refl i)

  split : vid ≡ true → (o : Pos) → is_owner x a (at μ o) ≡ true → misspeculates a (at μ o) ≡ false → (is_sm (at μ o).state && eqb a (at μ o).m) ≡ false
      → (e : ℕ) → free_slot (put o (closed a (at μ o)) (bared μ x o)) c ≡ Some e → Ok (gives Done (put (pos c e) (version x a d) (put o (closed a (at μ o)) (bared μ x o))))
  split v o is n j e slot =
      wrote _ (split_law s c a x e d in_range small (above v) o is n (closed a (at μ o)) (rules_closed N _ _ a _ below small) (inr own.here.at) slot refl below)
    where
      own : OwnerAt (at μ) μ.lcvid x a o
      own = owner_at s x a (omega (arith, above v)) o is

      -- m = a would make it the S-E of m 0, and a is above LCVID
      not_own : (at μ o).m ≢ a
      not_own i =
          let t = (unread_top a (at μ o) own.owning n).0 in
          let no-SM : is_sm (at μ o).state ≡ false = by_test (is_sm (at μ o).state) (λ k. absurd (both_ways _ j (both_true k (eq-eqb a (at μ o).m (sym i))))) (λ k. k) in
          omega (arith, above v, (s.fits o).zero (state_rule (λ s. top s && not (is_sm s)) is_se refl (at μ o).state (both_true t (not_from_false _ no-SM))))

      below : (at μ o).m < a
      below = let i = not_own in omega (arith, own.hit.from)

  first : vid ≡ true → Unowned μ x a → (e f : ℕ) → free_slot (drop (is_of x) μ) c ≡ Some e → free_slot (put (pos c e) (line SO x 0 a (plain_data μ x)) (drop (is_of x) μ)) c ≡ Some f
      → Ok (gives Done (put (pos c f) (version x a d) (put (pos c e) (line SO x 0 a (plain_data μ x)) (drop (is_of x) μ))))
  first v none e f slot slot' = wrote _ (first_law s c a x e f d in_range small (above v) none slot slot')

  plain : vid ≡ false → ((b : ℕ) → μ.lcvid < b → Marked μ x b → ⊥) → ((b : ℕ) → μ.lcvid ≤ b → view μ x b ≡ view μ x μ.lcvid) → (e : ℕ) → free_slot (drop (is_of x) μ) c ≡ Some e
      → Ok (gives Done (put (pos c e) (line M x 0 0 d) (drop (is_of x) μ)))
  plain v none flat e slot = wrote ν (subst (λ (b : ℕ). Writes N μ ν b x d) (sym (plainly v)) (plain_law s c x e d in_range none flat slot))
    where
      ν : Machine
      ν = put (pos c e) (line M x 0 0 d) (drop (is_of x) μ)

  plain_owned : vid ≡ false → (o : Pos) → is_owner x a (at μ o) ≡ true → misspeculates_plain μ (at μ o) ≡ false → (e : ℕ) → free_slot (drop (is_of x) μ) c ≡ Some e
      → Ok (gives Done (put (pos c e) (line M x 0 0 d) (drop (is_of x) μ)))
  plain_owned v o is n =
      plain v (λ b i k. omega (arith, t.1, mark_on (good s x) o own.here t.0 b k))
      (λ b i. top_flat s x μ.lcvid (omega arith) o (subst (λ (b : ℕ). OwnerAt (at μ) μ.lcvid x b o) (plainly v) own) t.0 b i)
    where
      own : OwnerAt (at μ) μ.lcvid x a o
      own = owner_at s x a (omega (arith, plainly v)) o is

      t : (top (at μ o).state ≡ true) × ((at μ o).h ≤ μ.lcvid)
      t = unread_top μ.lcvid (at μ o) own.owning n

  plain_unowned : vid ≡ false → Unowned μ x a → (e : ℕ) → free_slot (drop (is_of x) μ) c ≡ Some e → Ok (gives Done (put (pos c e) (line M x 0 0 d) (drop (is_of x) μ)))
  plain_unowned v none = plain v (λ b i. quiet_unmarked μ x quiet' b) (λ b i. quiet_flat s x μ.lcvid (omega arith) quiet' b i (view μ x b) (view_sees s x b i))
    where
      quiet' : Quiet μ x
      quiet' = unowned s x a (omega (arith, plainly v)) none

  pub store_law : StoreOutcome N μ a x d (store_of μ vid c a x d)
  store_law =
      store_cases Ok μ vid c a x d (record
      { misspec = λ o is. misspeculated; over = over; split = split; first = first; plain_owned = plain_owned; plain_unowned = plain_unowned; full = no_room })
