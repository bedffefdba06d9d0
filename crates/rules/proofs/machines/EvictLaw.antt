-- An eviction on a sound machine changes nothing that is seen; or it overflows, and the machine aborts.
-- Assumes nothing.
use mathlib.Core.Path.{◌≡◌, refl, sym, ◌∙◌, ap, subst, subst₂}
use mathlib.Core.Logic.{◌≢◌, ◌⊎◌, inl, inr}
use mathlib.Core.Bool.{Bool, true, false, ◌&&◌, ◌||◌, not, true≢false}
use Prim.Native.Nat.{ℕ, ◌≤◌, ◌<◌}
use lib.ListN.{length}
use Rattle.rules.specs.declared.Line.{Line}
use Rattle.rules.specs.declared.Machine.{Machine}
use Rattle.rules.specs.declared.Pos.{Pos}
use Rattle.rules.specs.declared.Answer.TheVariants.{Done, Overflow}
use Rattle.rules.specs.declared.Answered.{Answered}
use Rattle.rules.specs.States.{is_i, is_e, is_s, is_sm, is_se, is_ss, top, dirty}
use Rattle.rules.specs.Line.{empty, dead, live, is_share}
use Rattle.rules.specs.Machine.{at, memory_at, change, drop, put, write, gives}
use Rattle.rules.specs.House.{LineRules}
use Rattle.rules.specs.Abort.{abort_of}
use Rattle.rules.specs.Evict.{spare, write_back, with_shares, settled_out, evict_of}
use Rattle.std.specs.Cmp.Derive.{both_true}
use Rattle.std.proofs.lemmas.Bool.{both_ways, not_from_false}
use Rattle.rules.proofs.base.Bools.{by_test}
use Rattle.rules.proofs.base.States.{state_rule, state_never}
use Rattle.rules.proofs.base.Lines.{Live, live_test, Here, share_test, pos_dec, not_here}
use Rattle.rules.proofs.base.LineRules.{rules_empty}
use Rattle.rules.proofs.address.Sound.{KeepsAt}
use Rattle.rules.proofs.address.Rebuild.{like_same, SameAt, keeps_same}
use Rattle.rules.proofs.address.Gone.{keeps_shares_gone, keeps_spare_gone, keeps_dirty_gone, keeps_settled_gone}
use Rattle.rules.proofs.machines.Places.{drop_gone, drop_stays, at_put_same, at_put_other, some_within}
use Rattle.rules.proofs.machines.Sound.{Sound, good}
use Rattle.rules.proofs.machines.Local.{off_at, off_empty, Local, local_trans, Keeps, local_keeps, keeps_keeps}
use Rattle.rules.proofs.machines.Moves.{put_local, put_fits, put_memory, write_local, write_lines, write_memory}
use Rattle.rules.proofs.machines.Shared.{shares_dropped}
use Rattle.rules.proofs.machines.Branches.{evict_cases}

-- what an eviction comes to
pub data EvictOutcome (N : ℕ) (μ : Machine) (x : ℕ) : Answered → Type 0 where
  emptied : (ν : Machine) → Keeps N μ ν μ.lcvid x → EvictOutcome N μ x (gives Done ν)
  overflowed : EvictOutcome N μ x (gives Overflow (abort_of μ))

-- ---- the slot p is emptied, and its word may go to memory

module _ {N : ℕ} {μ : Machine} (s : Sound N μ) (p : Pos) (some : is_i (at μ p).state ≡ false) where
  abbrev x : ℕ
  x = (at μ p).address

  abbrev ν : Machine
  ν = put p empty μ

  gone : at ν p ≡ empty
  gone = at_put_same μ p empty (some_within μ p (λ e. let z : is_i empty.state ≡ false = rw e at some in true≢false z))

  rest : (q : Pos) → q ≢ p → at ν q ≡ at μ q
  rest q n = at_put_other μ p q empty n

  local : Local μ ν x
  local = put_local μ p empty x (off_at μ.lcvid x (at μ p) refl) (off_empty μ.lcvid x)

  fits : (q : Pos) → LineRules N (at ν q)
  fits = put_fits μ p empty (rules_empty N) s.fits

  clear : (a : ℕ) → KeepsAt (at μ) (at ν) μ.lcvid x a (memory_at μ x) (memory_at μ x) → Keeps N μ ν a x
  clear a K = local_keeps s local fits a (put_memory μ p empty x) K

  clear_back : (a : ℕ) → x < length μ.memory → KeepsAt (at μ) (at ν) μ.lcvid x a (memory_at μ x) (at μ p).word → Keeps N μ (write_back p μ ν) a x
  clear_back a low K =
      local_keeps s (local_trans local (write_local ν x (at μ p).word)) (λ q. rw (write_lines ν x (at μ p).word q) (fits q)) a
      (write_memory ν x (at μ p).word (unfold put in low)) (unfold write at in K)

  dead_law : dead μ.lcvid (at μ p) ≡ true → Keeps N μ ν μ.lcvid x
  dead_law d = clear μ.lcvid (keeps_same same (s.each x))
    where
      not_p : (q : Pos) → Here μ.lcvid x (at μ q) → q ≢ p
      not_p q h e = both_ways (live μ.lcvid (at μ p)) (unfold live in rw (some, d) refl) ((live_test μ.lcvid (at μ p)).when (rw e at h.alive))

      same : SameAt μ.lcvid (at μ) (at ν) μ.lcvid x
      same =
          record {
            there = λ q h. let e = rest q (not_p q h) in (rw e h, like_same μ.lcvid e);
            back = λ q h. let e = rest q (λ e. not_here μ.lcvid x (rw (e, gone) at h)) in (rw e at h, like_same μ.lcvid e);
          }

  module _ (alive : Live μ.lcvid (at μ p)) where
    here : Here μ.lcvid x (at μ p)
    here = record { alive = alive; at = refl }

    spare_law : spare (at μ p).state ≡ true → Keeps N μ ν μ.lcvid x
    spare_law c = clear μ.lcvid (by_test (is_ss (at μ p).state) (λ i. keeps_shares_gone μ.lcvid (λ q. share i q (pos_dec q p)) (s.each x))
        (λ i. keeps_spare_gone (good s x) p here gone rest μ.lcvid (state_rule (λ s. spare s && not (is_ss s)) (λ s. is_e s || is_s s) refl (at μ p).state (both_true c (not_from_false _ i)))))
      where
        share : is_ss (at μ p).state ≡ true → (q : Pos) → Dec (q ≡ p) → (at ν q ≡ at μ q) ⊎ ((is_ss (at μ q).state ≡ true) × (at ν q ≡ empty))
        share i q (yes e) = inr (rw e (i, gone))
        share i q (no n) = inl (rest q n)

    dirty_law : x < length μ.memory → dirty (at μ p).state ≡ true → Keeps N μ (write_back p μ ν) μ.lcvid x
    dirty_law low c = clear_back μ.lcvid low (keeps_dirty_gone (good s x) p here gone rest μ.lcvid c)

-- ---- a settled S-M or S-E: its S-S lines drop first

module _ {N : ℕ} {μ : Machine} (s : Sound N μ) (p : Pos) (alive : Live μ.lcvid (at μ p)) (t : top (at μ p).state ≡ true) (done : (at μ p).h ≤ μ.lcvid) where
  abbrev y : ℕ
  y = (at μ p).address

  abbrev shared : Pos → Line → Bool
  shared q l = is_share y (at μ p).m l

  abbrev δ : Machine
  δ = drop shared μ

  dropped : Keeps N μ δ μ.lcvid y
  dropped = shares_dropped s shared μ.lcvid y (λ q l i. let t = (share_test y (at μ p).m l).says i in (t.0, t.1.0))

  same_p : at δ p ≡ at μ p
  same_p = drop_stays shared μ p (by_test (is_share y (at μ p).m (at μ p)) (λ i. state_never top is_ss refl (at μ p).state t ((share_test y (at μ p).m (at μ p)).says i).0) (λ i. i))

  abbrev z : ℕ
  z = (at δ p).address

  same_address : z ≡ y
  same_address = ap (λ (l : Line). l.address) same_p

  here_p : Here δ.lcvid z (at δ p)
  here_p = record { alive = subst₂ Live (sym dropped.last) (sym same_p) alive; at = refl }

  some_p : is_i (at δ p).state ≡ false
  some_p = here_p.alive.some

  bare : (q : Pos) → Here δ.lcvid z (at δ q) → is_ss (at δ q).state ≡ true → (at δ q).m ≢ (at δ p).m
  bare q h i j = by_test (is_share y (at μ p).m (at μ q)) (λ k. not_here δ.lcvid z (rw (drop_gone shared μ q k) at h))
      (λ k. let e = drop_stays shared μ q k in
      both_ways _ k ((share_test y (at μ p).m (at μ q)).when (
        rw e at i,
        (sym (ap (λ (l : Line). l.address) e) ∙ h.at ∙ same_address, sym (ap (λ (l : Line). l.m) e) ∙ j ∙ ap (λ (l : Line). l.m) same_p),
      )))

  settled_gone : KeepsAt (at δ) (at (put p empty δ)) δ.lcvid z μ.lcvid (memory_at δ z) (at δ p).word
  settled_gone =
      keeps_settled_gone (good dropped.sound z) p here_p (gone dropped.sound p some_p) (rest dropped.sound p some_p) μ.lcvid (rw same_p t)
      (subst₂ (λ (l : Line) (lc : ℕ). l.h ≤ lc) (sym same_p) (sym dropped.last) done) bare

  -- its word goes to memory
  settled_m_law : y < length μ.memory → Keeps N μ (write_back p μ (with_shares μ p)) μ.lcvid y
  unfolding with_shares
  settled_m_law low = keeps_keeps dropped (subst (λ (l : Line). Keeps N δ (write l.address l.word (put p empty δ)) μ.lcvid l.address) same_p
      (clear_back dropped.sound p some_p μ.lcvid (unfold drop change in rw same_address low) settled_gone))

  -- memory has it
  settled_e_law : is_se (at μ p).state ≡ true → Keeps N μ (with_shares μ p) μ.lcvid y
  unfolding with_shares
  settled_e_law c = keeps_keeps dropped (subst (λ (l : Line). Keeps N δ (put p empty δ) μ.lcvid l.address) same_p
      (local_keeps dropped.sound (local dropped.sound p some_p) (fits dropped.sound p some_p) μ.lcvid (put_memory δ p empty z ∙ sym has) settled_gone))
    where
      has : (at δ p).word ≡ memory_at δ z
      has = ((dropped.sound.each z).meets p here_p).clean (rw same_p (state_rule is_se (λ s. is_e s || is_se s) refl (at μ p).state c))

  -- S-M writes it, and S-E has it there
  settled_law : y < length μ.memory → Keeps N μ (settled_out μ p) μ.lcvid y
  unfolding settled_out
  settled_law low =
      by_test (is_sm (at μ p).state) (λ i. rw i (settled_m_law low)) (λ i. rw i
      (settled_e_law (state_rule (λ s. top s && not (is_sm s)) is_se refl (at μ p).state (both_true t (not_from_false _ i)))))

-- ---- the law of evictions

pub evict_law : {N : ℕ} {μ : Machine} (s : Sound N μ) (p : Pos) → is_i (at μ p).state ≡ false → (at μ p).address < length μ.memory → EvictOutcome N μ (at μ p).address (evict_of μ p)
evict_law {N} {μ} s p some low = evict_cases (EvictOutcome N μ (at μ p).address) μ p some (record {
  dead_line = λ d. emptied _ (dead_law s p some d);
  spare_line = λ a c. emptied _ (spare_law s p some a c);
  dirty_line = λ a c. emptied _ (dirty_law s p some a low c);
  settled = λ a t h. emptied _ (settled_law s p a t h low);
  over = overflowed;
})
