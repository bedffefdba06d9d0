-- A load on a sound machine returns what its number sees, changes nothing that is seen, and leaves its mark; or there is no room, and it is refused.
-- Assumes nothing.
use mathlib.Core.Path.{◌≡◌, refl, sym, ◌∙◌, subst}
use mathlib.Core.Logic.{◌≢◌, ◌⊎◌, inl, inr}
use mathlib.Core.Bool.{Bool, true, false, cond, ◌&&◌, ◌||◌, not, false≢true}
use Prim.Native.Nat.{ℕ, ◌≤◌, ◌<◌, max}
use native.Mathlib.Omega.{arith}
use lib.Dec.{eqb}
use lib.ListN.{length}
use Rattle.std.specs.Prelude.{Some}
use Rattle.rules.specs.declared.State.{State}
use Rattle.rules.specs.declared.State.TheVariants.{E, S, SM, SE}
use Rattle.rules.specs.declared.Line.{Line}
use Rattle.rules.specs.declared.Machine.{Machine}
use Rattle.rules.specs.declared.Pos.{Pos}
use Rattle.rules.specs.declared.Answer.TheVariants.{Value, Refused}
use Rattle.rules.specs.declared.Reason.TheVariants.{NoRoom}
use Rattle.rules.specs.declared.Answered.{Answered}
use Rattle.rules.specs.Data.{Data, read}
use Rattle.rules.specs.States.{is_i, is_o, is_e, is_s, is_so, is_se, is_ss, plain, spec, ranged, top, dirty}
use Rattle.rules.specs.Line.{line, is_owner, is_plain}
use Rattle.rules.specs.Machine.{pos, at, memory_at, change, drop, put, gives, free_slot}
use Rattle.rules.specs.Load.{after_read, share_line, without_stale, is_own_share, plain_data, view, demote_line, is_of, is_dirty, load_of}
use Rattle.std.specs.Cmp.Derive.{both_true}
use Rattle.std.proofs.lemmas.Bool.{both_ways, not_from_false}
use Rattle.rules.proofs.base.Bools.{by_test}
use Rattle.rules.proofs.base.Tests.{Decides, is_test, eq_test, and_test}
use Rattle.rules.proofs.base.States.{state_rule, state_not, owns_spec, owns_cases, ss_ranged, owns_ranged, plain_or_spec}
use Rattle.rules.proofs.base.Lines.{Here, Hits, hits_test, plain_test, plain_here, whole_here}
use Rattle.rules.proofs.base.LineRules.{rules_plain, rules_top}
use Rattle.rules.proofs.address.Sound.{There, IsO, OwnedBy, OwnerAt, Sees, from_owner, from_plain, from_memory}
use Rattle.rules.proofs.address.Owners.{mark_range}
use Rattle.rules.proofs.address.Rebuild.{was, owner_like, clean, Lone}
use Rattle.rules.proofs.address.Added.{keeps_e}
use Rattle.rules.proofs.address.Alone.{keeps_lone}
use Rattle.rules.proofs.machines.Places.{any_line_lem}
use Rattle.rules.proofs.machines.Sound.{Sound, good}
use Rattle.rules.proofs.machines.View.{Marked, Quiet, quiet_unmarked, owner_at, unowned, view_sees, view_is, owner_view, plain_view, quiet_flat}
use Rattle.rules.proofs.machines.Local.{Keeps, local_keeps, keeps_itself, keeps_keeps}
use Rattle.rules.proofs.machines.Moves.{put_fits, put_memory, placed_new, placed_local, placed_added}
use Rattle.rules.proofs.machines.Shared.{share_placed, shared_placed}
use Rattle.rules.proofs.machines.Replace.{replaced_new, replaced_only, replaced_local, replaced_fits, replaced_memory}
use Rattle.rules.proofs.machines.Read.{Reads, reads, reads_mark}
use Rattle.rules.proofs.machines.Branches.{Unowned, load_cases}

-- what a load comes to
pub data LoadOutcome (N : ℕ) (μ : Machine) (a x i : ℕ) : Answered → Type 0 where
  returns : (d : Data) (ν : Machine) → d ≡ view μ x a → Keeps N μ ν a x → (μ.lcvid < a → Marked ν x a) → LoadOutcome N μ a x i (gives (Value (read d i)) ν)
  no_room : LoadOutcome N μ a x i (gives (Refused NoRoom) μ)

own_share_test : (c x a : ℕ) (p : Pos) (l : Line) → Decides (is_own_share c x a p l) ((p.cache ≡ c) × ((is_ss l.state ≡ true) × ((l.address ≡ x) × Hits a l)))
unfolding is_own_share
own_share_test c x a p l = and_test (eq_test p.cache c) (and_test (is_test (is_ss l.state)) (and_test (eq_test l.address x) (hits_test a l)))

-- no M and no O of the address: what is seen without an owner is memory's
clean_memory : {N : ℕ} {μ : Machine} (s : Sound N μ) (x a : ℕ) → μ.lcvid ≤ a → Quiet μ x → is_dirty μ x ≡ false → view μ x a ≡ memory_at μ x
clean_memory {N} {μ} s x a up quiet d = go (view_sees s x a up)
  where
    dirty_test : Decides (is_dirty μ x) ((q : Pos) × ((dirty (at μ q).state ≡ true) × ((at μ q).address ≡ x)))
    dirty_test = unfold is_dirty in any_line_lem (λ q l. dirty l.state && eqb l.address x) (λ q l. (dirty l.state ≡ true) × (l.address ≡ x)) μ
        (λ q l. and_test (is_test (dirty l.state)) (eq_test l.address x)) (λ q h. false≢true h.0)

    not_dirty : {P : Type 0} (q : Pos) → Here μ.lcvid x (at μ q) → dirty (at μ q).state ≡ true → P
    not_dirty q h i = absurd (both_ways _ d (dirty_test.when (q, (i, h.at))))

    beside : (p : Pos) → ((at μ p).word ≡ memory_at μ x) ⊎ There (at μ) μ.lcvid x IsO → (at μ p).word ≡ memory_at μ x
    beside p (inl e) = e
    beside p (inr (q, h, i)) = not_dirty q h (state_rule is_o dirty refl (at μ q).state i)

    go : Sees (at μ) μ.lcvid x (memory_at μ x) a (view μ x a) → view μ x a ≡ memory_at μ x
    go (from_owner p o e) = absurd (quiet p o.here (owns_spec (at μ p).state o.owning))
    go (from_plain p h i e) = e ∙ by_test (is_s (at μ p).state) (λ j. beside p (((s.each x).meets p h).shared j))
        (λ j. by_test (is_e (at μ p).state) (λ k. ((s.each x).meets p h).clean (state_rule is_e (λ s. is_e s || is_se s) refl (at μ p).state k))
        (λ k. not_dirty p h (state_rule (λ s. plain s && (not (is_s s) && not (is_e s))) dirty refl (at μ p).state (both_true i (both_true (not_from_false _ j) (not_from_false _ k))))))
    go (from_memory n e) = e

module _ {N : ℕ} {μ : Machine} (s : Sound N μ) (vid : Bool) (c a x i : ℕ) (in_range : c < length μ.caches) (small : a < N)
    (above : vid ≡ true → μ.lcvid < a) (plainly : vid ≡ false → a ≡ μ.lcvid) where
  up : μ.lcvid ≤ a
  up = by_test vid (λ v. omega (arith, above v)) (λ v. omega (arith, plainly v))

  has_vid_lem : μ.lcvid < a → vid ≡ true
  has_vid_lem j = by_test vid (λ v. v) (λ v. absurd (omega (arith, plainly v)))

  abbrev Ok : Answered → Type 0
  Ok r = LoadOutcome N μ a x i r

  -- a plain load marks nothing
  unmarked : {P : Type 0} → vid ≡ false → μ.lcvid < a → P
  unmarked v j = absurd (omega (arith, plainly v))

  -- nothing changes
  unchanged : (q : Pos) → (at μ q).word ≡ view μ x a → (μ.lcvid < a → Marked μ x a) → Ok (gives (Value (read (at μ q).word i)) μ)
  unchanged q e m = returns (at μ q).word μ e (keeps_itself a x s) m

  -- ---- speculative lines live

  owner_held : (o : Pos) → is_owner x a (at μ o) ≡ true → Ok (gives (Value (read (at μ o).word i)) (after_read μ vid a o))
  owner_held o is =
      let O = owner_at s x a up o is in returns (at μ o).word (after_read μ vid a o) (owner_view s x a up o O) (reads s a x small o O vid).keeps
      (λ j. rw (has_vid_lem j) (reads_mark s a x small o O j))

  -- an S-S hit: its owner line is the owner for a
  share_held : (q : Pos) → is_own_share c x a q (at μ q) ≡ true → Ok (gives (Value (read (at μ q).word i)) μ)
  share_held q is = unchanged q (sym y.same_word ∙ owner_view s x a up p O) mark
    where
      parts : (q.cache ≡ c) × ((is_ss (at μ q).state ≡ true) × (((at μ q).address ≡ x) × Hits a (at μ q)))
      parts = (own_share_test c x a q (at μ q)).says is

      in_q : a < (at μ q).h
      in_q = parts.1.1.1.until (ss_ranged (at μ q).state parts.1.0)

      hq : Here μ.lcvid x (at μ q)
      hq = record { alive = record { some = state_not is_ss is_i refl (at μ q).state parts.1.0; fresh = λ r. omega (arith, in_q, up) }; at = parts.1.1.0 }

      own : There (at μ) μ.lcvid x (OwnedBy μ.lcvid q (at μ q))
      own = ((s.each x).meets q hq).owner parts.1.0

      p : Pos
      p = own.0

      y : OwnedBy μ.lcvid q (at μ q) p (at μ p)
      y = own.2

      O : OwnerAt (at μ) μ.lcvid x a p
      O = record {
        here = own.1;
        owning = y.owning;
        hit =
            record {
              is = owns_spec (at μ p).state y.owning;
              from = omega (arith, y.same_m, parts.1.1.1.from);
              until = λ r. omega (arith, in_q, y.within (owns_ranged (at μ p).state y.owning r));
            };
      }

      mark : μ.lcvid < a → Marked μ x a
      mark j = go (owns_cases (at μ p).state y.owning)
        where
          go : (is_so (at μ p).state ≡ true) ⊎ (top (at μ p).state ≡ true) → Marked μ x a
          go (inl k) = mark_range (good s x) a p own.1 k (omega (arith, in_q, y.within k))
          go (inr t) = (p, own.1, (t, omega (arith, in_q, y.reach)))

  -- the owner is read, stale S-S lines drop, and S-S is placed
  copied : (o : Pos) → is_owner x a (at μ o) ≡ true → o.cache ≢ c → (e : ℕ) → free_slot (without_stale μ vid c a x o) c ≡ Some e
      → Ok (gives (Value (read (at μ o).word i)) (put (pos c e) (share_line x a (at μ o)) (without_stale μ vid c a x o)))
  copied o is away e slot =
      returns (at μ o).word _ (owner_view s x a up o O) (keeps_keeps R.keeps placed)
      (λ j. placed.keeps x a (rw R.keeps.last j) (rw (has_vid_lem j) (reads_mark s a x small o O j)))
    where
      O : OwnerAt (at μ) μ.lcvid x a o
      O = owner_at s x a up o is

      R : Reads N μ (after_read μ vid a o) vid a x o
      R = reads s a x small o O vid

      ρ : Machine
      ρ = after_read μ vid a o

      high : top (at ρ o).state ≡ true → a ≤ max (at ρ o).h ρ.lcvid
      high t = by_test vid (λ v. omega (arith, R.high v (was R.like top t))) (λ v. omega (arith, plainly v, R.keeps.last))

      placed : Keeps N ρ (put (pos c e) (share_line x a (at μ o)) (without_stale μ vid c a x o)) a x
      placed =
          share_placed R.keeps.sound c a x e (at μ o).m (at μ o).word o
          (owner_like R.like R.here (subst (λ (lc : ℕ). OwnerAt (at μ) lc x a o) (sym R.keeps.last) O)) R.like.same_m R.like.word
          (rw R.keeps.last up) small (rw R.width in_range) away high slot

  -- ---- no owner, so no speculative line lives

  first : vid ≡ true → Unowned μ x a → (e : ℕ) → free_slot (drop (is_of x) μ) c ≡ Some e
      → Ok (gives (Value (read (plain_data μ x) i)) (put (pos c e) (line (cond (is_dirty μ x) SM SE) x 0 a (plain_data μ x)) (drop (is_of x) μ)))
  first v none e slot = by_test (is_dirty μ x) (λ j. rw j (go SM refl (λ k. absurd (false≢true k)))) (λ j. rw j (go SE refl (λ k. seen ∙ clean_memory s x a up quiet j)))
    where
      quiet : Quiet μ x
      quiet = unowned s x a up none

      seen : plain_data μ x ≡ view μ x a
      seen = plain_view s x a up none

      go : (t : State) → top t ≡ true → (clean t ≡ true → plain_data μ x ≡ memory_at μ x)
          → Ok (gives (Value (read (plain_data μ x) i)) (put (pos c e) (line t x 0 a (plain_data μ x)) (drop (is_of x) μ)))
      go t j k = returns (plain_data μ x) ν seen K (λ z. (pos c e, rw (new, K.last) here_l, rw new (j, omega arith)))
        where
          l : Line
          l = line t x 0 a (plain_data μ x)

          ν : Machine
          ν = put (pos c e) l (drop (is_of x) μ)

          new : at ν (pos c e) ≡ l
          new = replaced_new μ x c e l slot in_range refl

          here_l : Here μ.lcvid x l
          here_l = whole_here μ.lcvid x l (state_not top is_i refl t j) (state_not top ranged refl t j) refl

          lone : Lone μ.lcvid (memory_at μ x) l
          lone = record { whole = state_not top ranged refl t j; equal = k; covers = λ z. omega arith }

          K : Keeps N μ ν a x
          K =
              local_keeps s (replaced_local μ x c e l slot in_range refl) (replaced_fits μ x c e l slot in_range refl
              (rules_top N l j (omega arith) small (omega (arith, above v)) (λ z. refl)) s.fits) a (replaced_memory μ x c e l slot in_range refl)
              (keeps_lone (pos c e) (replaced_only μ x c e l slot in_range refl μ.lcvid) (rw new here_l) (rw new lone) a
              (λ b d f g. rw new (quiet_flat s x a up quiet b f d g ∙ sym seen)) (quiet_unmarked μ x quiet) (λ z. rw new (omega arith)))

  -- ---- plain, without an owner

  -- a plain line's word is what is seen
  plain_word : Unowned μ x a → (q : Pos) → is_plain x (at μ q) ≡ true → (at μ q).word ≡ view μ x a
  plain_word none q is = let (j, k) = (plain_test x (at μ q)).says is in sym (view_is s x a up (at μ q).word (from_plain q (plain_here μ.lcvid x (at μ q) j k) j refl))

  held : vid ≡ false → Unowned μ x a → (q : Pos) → is_plain x (at μ q) ≡ true → Ok (gives (Value (read (at μ q).word i)) μ)
  held v none q is = unchanged q (plain_word none q is) (unmarked v)

  -- M becomes O, E becomes S, and S is placed beside them
  shared : vid ≡ false → Unowned μ x a → ((p : Pos) → (eqb p.cache c && is_plain x (at μ p)) ≡ false) → (q : Pos) → is_plain x (at μ q) ≡ true
      → (e : ℕ) → free_slot (change (λ p l. demote_line x l) μ) c ≡ Some e → Ok
      (gives (Value (read (at μ q).word i)) (put (pos c e) (line S x 0 0 (at μ q).word) (change (λ p l. demote_line x l) μ)))
  shared v none own q is e slot = returns (at μ q).word _ (plain_word none q is) (shared_placed s c a x e q in_range is own slot) (unmarked v)

  fetched : vid ≡ false → Unowned μ x a → ((p : Pos) → is_plain x (at μ p) ≡ false) → (e : ℕ) → free_slot μ c ≡ Some e
      → Ok (gives (Value (read (memory_at μ x) i)) (put (pos c e) (line E x 0 0 (memory_at μ x)) μ))
  fetched v none bare e slot = returns (memory_at μ x) ν (sym (view_is s x a up (memory_at μ x) (from_memory (λ p h. absurd (no_line p h)) refl))) K (unmarked v)
    where
      l : Line
      l = line E x 0 0 (memory_at μ x)

      ν : Machine
      ν = put (pos c e) l μ

      no_line : (q : Pos) → Here μ.lcvid x (at μ q) → ⊥
      no_line q h = go (plain_or_spec (at μ q).state h.alive.some)
        where
          go : (plain (at μ q).state ≡ true) ⊎ (spec (at μ q).state ≡ true) → ⊥
          go (inl j) = both_ways _ (bare q) ((plain_test x (at μ q)).when (j, h.at))
          go (inr j) = unowned s x a up none q h j

      K : Keeps N μ ν a x
      K = local_keeps s (placed_local μ c e l slot in_range x refl) (put_fits μ (pos c e) l (rules_plain N l refl refl refl) s.fits) a (put_memory μ (pos c e) l x)
          (keeps_e (placed_added μ c e l slot in_range x (plain_here μ.lcvid x l refl refl)) no_line (placed_new μ c e l slot in_range) (s.each x) a)

  -- the law of loads
  pub load_law : LoadOutcome N μ a x i (load_of μ vid c a x i)
  load_law =
      load_cases Ok μ vid c a x i (record
      { owner = owner_held; share = share_held; copy = copied; first = first; held = held; shared = shared; fetched = fetched; full = no_room })
