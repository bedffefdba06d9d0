-- What a load places beside the lines of other caches: S-S beside the owner, S beside plain lines. Nothing that is seen changes.
-- Assumes nothing.
use mathlib.Core.Path.{◌≡◌, refl, sym, ◌∙◌, ap, subst}
use mathlib.Core.Logic.{◌≢◌, inl, inr}
use mathlib.Core.Bool.{Bool, true, false, ◌&&◌, true≢false}
use Prim.Native.Nat.{ℕ, suc, ◌≤◌, ◌<◌, max}
use native.Mathlib.Omega.{arith}
use native.Mathlib.Decide.{ℕ_discrete}
use lib.Dec.{eqb}
use lib.ListN.{length}
use borrow.Author.Tests.{eq-eqb}
use Rattle.std.specs.Prelude.{Some}
use Rattle.rules.specs.declared.State.{State}
use Rattle.rules.specs.declared.State.TheVariants.{I, M, O, E, S, SM, SO, SE, SS}
use Rattle.rules.specs.declared.Line.{Line}
use Rattle.rules.specs.declared.Machine.{Machine}
use Rattle.rules.specs.declared.Pos.{Pos}
use Rattle.rules.specs.Data.{Data}
use Rattle.rules.specs.States.{is_ss, plain, top}
use Rattle.rules.specs.Line.{line, is_plain}
use Rattle.rules.specs.Machine.{pos, at, memory_at, change, drop, put, free_slot}
use Rattle.rules.specs.House.{LineRules}
use Rattle.rules.specs.Load.{is_stale_share, demote, demote_line}
use Rattle.std.specs.Cmp.Derive.{both_true}
use Rattle.std.proofs.lemmas.Bool.{both_ways}
use Rattle.rules.proofs.base.Bools.{by_test}
use Rattle.rules.proofs.base.Tests.{Decides, eq_test, and_test}
use Rattle.rules.proofs.base.States.{state_rule, owns_not_ss}
use Rattle.rules.proofs.base.Lines.{Here, share_test, plain_test, plain_here, not_here}
use Rattle.rules.proofs.base.LineRules.{rules_plain, rules_share}
use Rattle.rules.proofs.address.Sound.{OwnerAt, KeepsAt}
use Rattle.rules.proofs.address.Owners.{plain_all}
use Rattle.rules.proofs.address.Rebuild.{like_same, owner_like}
use Rattle.rules.proofs.address.Gone.{keeps_shares_gone}
use Rattle.rules.proofs.address.Added.{keeps_share, keeps_s}
use Rattle.rules.proofs.address.Demote.{demoted, demote_empty, demote_of, demote_other, here_demoted, demoted_here, demoted_kind, keeps_demoted}
use Rattle.rules.proofs.machines.Places.{at_change, drop_gone, drop_stays}
use Rattle.rules.proofs.machines.Sound.{Sound, good}
use Rattle.rules.proofs.machines.Local.{Keeps, local_keeps, keeps_keeps}
use Rattle.rules.proofs.machines.Moves.{put_fits, put_memory, placed_new, placed_local, placed_added, drop_local, drop_fits, drop_memory, drop_width, change_width, change_local, change_memory}

stale_test : (c x m : ℕ) (p : Pos) (l : Line) → Decides (is_stale_share c x m p l) ((p.cache ≡ c) × ((is_ss l.state ≡ true) × ((l.address ≡ x) × (l.m ≡ m))))
unfolding is_stale_share
stale_test c x m p l = and_test (eq_test p.cache c) (share_test x m l)

-- ---- S-S lines of x drop

pub shares_dropped : {N : ℕ} {μ : Machine} → Sound N μ → (t : Pos → Line → Bool) (a x : ℕ)
    → ((p : Pos) (l : Line) → t p l ≡ true → (is_ss l.state ≡ true) × (l.address ≡ x)) → Keeps N μ (drop t μ) a x
shares_dropped {μ = μ} s t a x k =
    local_keeps s (drop_local t μ x (λ p i. (k p (at μ p) i).1)) (drop_fits t μ s.fits) a (drop_memory t μ x)
    (keeps_shares_gone a (λ p. by_test (t p (at μ p)) (λ i. inr ((k p (at μ p) i).0, drop_gone t μ p i)) (λ i. inl (drop_stays t μ p i))) (s.each x))

-- ---- S-S (m, a + 1) placed beside the owner o, which is in another cache and has been read; the asker's S-S lines with that m drop first

module _ {N : ℕ} {ρ : Machine} (s : Sound N ρ) (c a x e m : ℕ) (d : Data) (o : Pos) (O : OwnerAt (at ρ) ρ.lcvid x a o) (same_m : (at ρ o).m ≡ m)
    (same_word : (at ρ o).word ≡ d) (up : ρ.lcvid ≤ a) (small : a < N)
    (in_range : c < length ρ.caches) (away : o.cache ≢ c) (high : top (at ρ o).state ≡ true → a ≤ max (at ρ o).h ρ.lcvid)
    (slot : free_slot (drop (is_stale_share c x m) ρ) c ≡ Some e) where
  abbrev stale : Pos → Line → Bool
  stale = is_stale_share c x m

  abbrev δ : Machine
  δ = drop stale ρ

  abbrev l : Line
  l = line SS x m (suc a) d

  width : c < length δ.caches
  width = rw (drop_width stale ρ) in_range

  gone : Keeps N ρ δ a x
  gone = shares_dropped s stale a x (λ p k i. let t = (stale_test c x m p k).says i in (t.1.0, t.1.1.0))

  same_o : at δ o ≡ at ρ o
  same_o = drop_stays stale ρ o (by_test (stale o (at ρ o)) (λ i. owns_not_ss (at ρ o).state O.owning ((stale_test c x m o (at ρ o)).says i).1.0) (λ i. i))

  owner_o : OwnerAt (at δ) δ.lcvid x a o
  owner_o = subst (λ (lc : ℕ). OwnerAt (at δ) lc x a o) (sym gone.last) (owner_like (like_same 0 same_o) (rw same_o O.here) O)

  -- what is left in the asking cache has another m
  single : (q : Pos) → Here δ.lcvid x (at δ q) → is_ss (at δ q).state ≡ true → q.cache ≡ c → (at δ q).m ≢ (at δ o).m
  single q h i j k = by_test (stale q (at ρ q)) (λ z. not_here δ.lcvid x (rw (drop_gone stale ρ q z) at h))
      (λ z. let e = drop_stays stale ρ q z in both_ways _ z ((stale_test c x m q (at ρ q)).when (j, (rw e at i, (rw e at h.at, sym (ap (λ (t : Line). t.m) e) ∙ k ∙ rw same_o same_m)))))

  added : KeepsAt (at δ) (at (put (pos c e) l δ)) δ.lcvid x a (memory_at δ x) (memory_at δ x)
  added =
      keeps_share (good gone.sound x) (placed_added δ c e l slot width x (record { alive = record { some = refl; fresh = λ r. omega (arith, gone.last) }; at = refl })) a o owner_o
      (placed_new δ c e l slot width ∙ rw (same_o, same_m, same_word) refl) (rw gone.last up) away (λ t. rw (same_o, gone.last) (high (rw same_o at t))) single a

  pub share_placed : Keeps N ρ (put (pos c e) l δ) a x
  share_placed = keeps_keeps gone (local_keeps gone.sound (placed_local δ c e l slot width x refl)
      (put_fits δ (pos c e) l (rules_share N x m (suc a) d (omega (arith, O.hit.from, same_m)) (omega arith)) gone.sound.fits) a (put_memory δ (pos c e) l x) added)

-- ---- S placed beside plain lines, of which q is one, none of them the asker's; M becomes O and E becomes S first

module _ {N : ℕ} {μ : Machine} (s : Sound N μ) (c a x e : ℕ) (q : Pos) (in_range : c < length μ.caches) (is : is_plain x (at μ q) ≡ true)
    (own : (p : Pos) → (eqb p.cache c && is_plain x (at μ p)) ≡ false)
    (slot : free_slot (change (λ p l. demote_line x l) μ) c ≡ Some e) where
  abbrev demoting : Pos → Line → Line
  demoting p l = demote_line x l

  abbrev ε : Machine
  ε = change demoting μ

  demote_at : (p : Pos) → at ε p ≡ demote_line x (at μ p)
  demote_at = at_change demoting μ (λ p. demote_empty x)

  pq : plain (at μ q).state ≡ true
  pq = ((plain_test x (at μ q)).says is).0

  hq : Here μ.lcvid x (at μ q)
  hq = plain_here μ.lcvid x (at μ q) pq ((plain_test x (at μ q)).says is).1

  demoted_at : (p : Pos) → (at μ p).address ≡ x → at ε p ≡ demoted (at μ p)
  demoted_at p i = demote_at p ∙ demote_of x (at μ p) i

  was_of : (p : Pos) → Here μ.lcvid x (at ε p) → (at μ p).address ≡ x
  was_of p h = go (ℕ_discrete (at μ p).address x)
    where
      go : Dec ((at μ p).address ≡ x) → (at μ p).address ≡ x
      go (yes i) = i
      go (no n) = rw (demote_at p ∙ demote_other x (at μ p) n) at h.at

  ε_rules : (p : Pos) → LineRules N (at ε p)
  ε_rules p = go (ℕ_discrete (at μ p).address x)
    where
      same : (t : State) → plain t ≡ false → demote t ≡ t
      same t =
          elim t as (λ (t : State). plain t ≡ false → demote t ≡ t) [
            | I ↦ λ h. refl
            | M ↦ λ h. absurd (true≢false h)
            | O ↦ λ h. refl
            | E ↦ λ h. absurd (true≢false h)
            | S ↦ λ h. refl
            | SM ↦ λ h. refl
            | SO ↦ λ h. refl
            | SE
                ↦ λ h. refl
            | SS ↦ λ h. refl
          ]

      go : Dec ((at μ p).address ≡ x) → LineRules N (at ε p)
      go (no n) = rw (demote_at p ∙ demote_other x (at μ p) n) (s.fits p)
      go (yes i) = rw (demoted_at p i) (by_test (plain (at μ p).state)
          (λ j. let (k, l) = (s.fits p).flat j in rules_plain N (demoted (at μ p)) (state_rule plain (λ t. plain (demote t)) refl (at μ p).state j) k l)
          (λ j. rw (same (at μ p).state j) (s.fits p)))

  fading : Keeps N μ ε a x
  fading = local_keeps s (change_local demoting μ x (λ p. demote_empty x) (λ p l n. demote_other x l n) (λ p l i. rw (demote_of x l i) i)) ε_rules a (change_memory demoting μ x)
      (keeps_demoted (good s x) q hq pq demoted_at was_of a)

  abbrev new_s : Line
  new_s = line S x 0 0 (at μ q).word

  width_ε : c < length ε.caches
  width_ε = rw (change_width demoting μ) in_range

  under_μ : (p : Pos) → Here ε.lcvid x (at ε p) → Here μ.lcvid x (at ε p)
  under_μ p h = subst (λ (lc : ℕ). Here lc x (at ε p)) fading.last h

  here_ε : Here ε.lcvid x (at ε q)
  here_ε = subst (λ (lc : ℕ). Here lc x (at ε q)) (sym fading.last) (rw (demoted_at q hq.at) (here_demoted μ.lcvid x (at μ q) hq))

  away_ε : (p : Pos) → Here ε.lcvid x (at ε p) → c ≢ p.cache
  away_ε p h d =
      let i = was_of p (under_μ p h) in
      let hp = demoted_here μ.lcvid x (at μ p) (rw (demoted_at p i) at (under_μ p h)) in
      both_ways _ (own p) (both_true (eq-eqb p.cache c (sym d)) ((plain_test x (at μ p)).when (plain_all (good s x) q p hq hp pq, i)))

  pub shared_placed : Keeps N μ (put (pos c e) new_s ε) a x
  shared_placed =
      keeps_keeps fading (local_keeps fading.sound (placed_local ε c e new_s slot width_ε x refl)
      (put_fits ε (pos c e) new_s (rules_plain N new_s refl refl refl) fading.sound.fits) a (put_memory ε (pos c e) new_s x)
      (keeps_s (good fading.sound x) (placed_added ε c e new_s slot width_ε x (plain_here ε.lcvid x new_s refl refl)) q here_ε
      (placed_new ε c e new_s slot width_ε ∙ rw (demoted_at q hq.at) refl)
      (λ p h. demoted_kind (good s x) q hq pq demoted_at was_of p (under_μ p h)) away_ε a))
