-- Commit, abort and reset on a sound machine: sound again; what is seen; marks.
-- Assumes nothing.
use mathlib.Core.Path.{◌≡◌, refl, sym, ◌∙◌, subst, subst₂, fun_ext}
use mathlib.Core.Bool.{Bool, true, false, ◌&&◌, not, false≢true}
use Prim.Native.Nat.{ℕ, suc, ◌≤◌, ◌<◌}
use native.Mathlib.Omega.{arith}
use native.Mathlib.Decide.{dec_le}
use lib.Dec.{ltb}
use Rattle.rules.specs.declared.State.{State}
use Rattle.rules.specs.declared.Line.{Line}
use Rattle.rules.specs.declared.Machine.{Machine}
use Rattle.rules.specs.declared.Pos.{Pos}
use Rattle.rules.specs.Data.{Data}
use Rattle.rules.specs.States.{is_i, is_so, is_ss, plain, spec, ranged, top, owns}
use Rattle.rules.specs.Line.{hits}
use Rattle.rules.specs.Machine.{at, memory_at, change, with_lcvid, any_line}
use Rattle.rules.specs.House.{LineRules}
use Rattle.rules.specs.Abort.{settle, settled, abort_line, abort_of}
use Rattle.rules.specs.Load.{view}
use Rattle.rules.specs.Commit.{commit_of}
use Rattle.rules.specs.Reset.{reset_line, reset_of, unsettled}
use Rattle.std.specs.Cmp.Derive.{both_true}
use Rattle.std.proofs.lemmas.Bool.{both_ways, and_parts, not_from_false}
use Rattle.rules.proofs.base.Bools.{by_test}
use Rattle.rules.proofs.base.Tests.{is_test, lt_test, and_test}
use Rattle.rules.proofs.base.States.{state_rule, state_not, so_ranged, so_owns, owns_spec, top_owns, top_spec}
use Rattle.rules.proofs.base.Lines.{Hits, hits_test, top_hits, Here}
use Rattle.rules.proofs.base.LineRules.{rules_empty, rules_plain}
use Rattle.rules.proofs.address.Sound.{SoundAt, Sees}
use Rattle.rules.proofs.address.Owners.{so_below}
use Rattle.rules.proofs.address.Commit.{sound_commit, sees_commit, mark_commit, mark_before}
use Rattle.rules.proofs.address.Abort.{sound_abort, sees_abort, abort_plain, no_mark, sound_under, sees_under}
use Rattle.rules.proofs.machines.Places.{at_change, any_line_lem}
use Rattle.rules.proofs.machines.Sound.{Sound, good}
use Rattle.rules.proofs.machines.View.{Marked, view_sees, view_is}

-- ---- commit

module _ {N : ℕ} {μ : Machine} (s : Sound N μ) (small : suc μ.lcvid < N) where
  abbrev next : Machine
  next = commit_of μ (suc μ.lcvid)

  pub commit_sound : Sound N next
  unfolding commit_of with_lcvid at memory_at
  commit_sound = record { small = small; fits = s.fits; each = λ x. sound_commit (good s x) }

  pub commit_view : (x a : ℕ) → suc μ.lcvid ≤ a → view next x a ≡ view μ x a
  commit_view x a i =
      view_is commit_sound x a (unfold commit_of with_lcvid in i) (view μ x a) (unfold commit_of with_lcvid at memory_at in sees_commit (good s x) a (view μ x a) i
      (view_sees s x a (omega arith)))

  pub commit_keeps : (x b : ℕ) → Marked μ x b → Marked next x b
  commit_keeps x b k = unfold commit_of with_lcvid at in mark_commit (good s x) b k

  pub commit_made : (x b : ℕ) → Marked next x b → Marked μ x b
  commit_made x b = unfold commit_of with_lcvid at in mark_before (good s x) b

-- ---- abort

pub abort_at : (μ : Machine) (p : Pos) → at (abort_of μ) p ≡ abort_line μ.lcvid (at μ p)
unfolding abort_of
abort_at μ p = at_change (λ p l. abort_line μ.lcvid l) μ (λ p. unfold abort_line in refl) p

module _ {N : ℕ} {μ : Machine} (s : Sound N μ) where
  abort_rules : (p : Pos) → LineRules N (at (abort_of μ) p)
  abort_rules p = rw (abort_at μ p) (unfold abort_line in by_test (spec (at μ p).state)
      (λ i. by_test (owns (at μ p).state && hits μ.lcvid (at μ p))
      (λ j. rw (i, j) (rules_plain N (settled (at μ p)) (state_rule owns (λ s. plain (settle s)) refl (at μ p).state
      ((and_parts (owns (at μ p).state) (hits μ.lcvid (at μ p)) j).0)) refl refl)) (λ j. rw (i, j) (rules_empty N)))
      (λ i. rw i (s.fits p)))

  pub abort_last : (abort_of μ).lcvid ≡ μ.lcvid
  abort_last = unfold abort_of change in refl

  abort_memory : (x : ℕ) → memory_at (abort_of μ) x ≡ memory_at μ x
  abort_memory x = unfold abort_of change memory_at in refl

  sound_each : (x : ℕ) → SoundAt (at (abort_of μ)) μ.lcvid x (memory_at (abort_of μ) x)
  sound_each x = rw (abort_memory x) (sound_abort (good s x) (abort_at μ))

  sees_each : (x a : ℕ) → Sees (at (abort_of μ)) μ.lcvid x (memory_at (abort_of μ) x) a (view μ x μ.lcvid)
  sees_each x a = rw (abort_memory x) (sees_abort (good s x) (abort_at μ) a (view μ x μ.lcvid) (view_sees s x μ.lcvid (omega arith)))

  pub abort_sound : Sound N (abort_of μ)
  abort_sound =
      record {
        small = rw abort_last s.small;
        fits = abort_rules;
        each = λ x. subst (λ (lc : ℕ). SoundAt (at (abort_of μ)) lc x (memory_at (abort_of μ) x))
            (sym abort_last) (sound_each x);
      }

  -- every number sees what LCVID saw
  pub abort_view : (x a : ℕ) → μ.lcvid ≤ a → view (abort_of μ) x a ≡ view μ x μ.lcvid
  abort_view x a i =
      view_is abort_sound x a (rw abort_last i) (view μ x μ.lcvid) (subst (λ (lc : ℕ). Sees (at (abort_of μ)) lc x (memory_at (abort_of μ) x) a (view μ x μ.lcvid))
      (sym abort_last) (sees_each x a))

  abort_none : (p : Pos) → spec (at (abort_of μ) p).state ≡ false
  abort_none p = rw (abort_at μ p) (abort_plain μ.lcvid (at μ p))

  pub abort_clear : (x b : ℕ) → Marked (abort_of μ) x b → ⊥
  abort_clear x b = no_mark (at (abort_of μ)) (abort_of μ).lcvid 0 x abort_none b

  -- ---- reset, where every S-M and S-E is settled: it leaves the lines that abort leaves

  module _ (quiet : unsettled μ ≡ false) where
    pub settled_high : (p : Pos) → top (at μ p).state ≡ true → (at μ p).h ≤ μ.lcvid
    settled_high p t = go (dec_le (at μ p).h μ.lcvid)
      where
        go : Dec ((at μ p).h ≤ μ.lcvid) → (at μ p).h ≤ μ.lcvid
        go (yes d) = d
        go (no d) = absurd (both_ways (any_line (λ q l. top l.state && ltb μ.lcvid l.h) μ) (unfold unsettled in quiet) ((any_line_lem (λ q l. top l.state && ltb μ.lcvid l.h) (λ q l. (top l.state ≡ true) × (μ.lcvid < l.h)) μ
            (λ q l. and_test (is_test (top l.state)) (lt_test μ.lcvid l.h)) (λ q h. false≢true h.0)).when (p, (t, omega arith))))

    -- no S-O hits LCVID: it would live, and end at or below the m of the newest version
    no_so : (p : Pos) → is_so (at μ p).state ≡ true → hits μ.lcvid (at μ p) ≡ false
    no_so p i = by_test (hits μ.lcvid (at μ p)) (λ j. absurd (go ((hits_test μ.lcvid (at μ p)).says j))) (λ j. j)
      where
        go : Hits μ.lcvid (at μ p) → ⊥
        go t =
            let h : Here μ.lcvid (at μ p).address (at μ p) = record { alive = record { some = state_not is_so is_i refl (at μ p).state i; fresh = t.until }; at = refl } in
            let (q, hq, tq) = ((s.each (at μ p).address).meets p h).newest (owns_spec (at μ p).state (so_owns (at μ p).state i)) in
            omega (arith, so_below (good s (at μ p).address) p q h hq i tq, t.until (so_ranged (at μ p).state i), (s.fits q).newest tq, settled_high q tq)

    as_abort : (p : Pos) → reset_line (at μ p) ≡ abort_line μ.lcvid (at μ p)
    unfolding reset_line abort_line
    as_abort p =
        by_test (is_ss (at μ p).state) (λ i. rw (state_rule is_ss ranged refl (at μ p).state i, state_rule is_ss spec refl (at μ p).state i, state_not is_ss owns refl (at μ p).state i))
        (λ i. by_test (is_so (at μ p).state) (λ j. rw (so_ranged (at μ p).state j, owns_spec (at μ p).state (so_owns (at μ p).state j), so_owns (at μ p).state j, no_so p j))
        (λ j. by_test (top (at μ p).state)
        (λ t. rw (
          state_not top ranged refl (at μ p).state t,
          t,
          top_spec (at μ p).state t,
          top_owns (at μ p).state t,
          (hits_test μ.lcvid (at μ p)).when (top_hits μ.lcvid (at μ p) t (omega (arith, (s.fits p).newest t, settled_high p t))),
        ))
        (λ t. let k = both_true (not_from_false _ i) (both_true (not_from_false _ j) (not_from_false _ t)) in rw (state_not plainest ranged refl (at μ p).state k, t, state_not plainest spec refl (at μ p).state k))))
      where
        plainest : State → Bool
        plainest s = not (is_ss s) && (not (is_so s) && not (top s))

    reset_at : (p : Pos) → at (reset_of μ) p ≡ at (abort_of μ) p
    reset_at p =
        let e : at (reset_of μ) p ≡ reset_line (at μ p) = unfold reset_of with_lcvid at in at_change (λ p l. reset_line l) μ (λ p. unfold reset_line in refl) p in
        e ∙ as_abort p ∙ sym (abort_at μ p)

    reset_lines : at (reset_of μ) ≡ at (abort_of μ)
    reset_lines = fun_ext reset_at

    reset_memory : (x : ℕ) → memory_at (reset_of μ) x ≡ memory_at (abort_of μ) x
    reset_memory x = unfold reset_of abort_of with_lcvid change memory_at in refl

    reset_none : (p : Pos) → spec (at (reset_of μ) p).state ≡ false
    reset_none p = rw (reset_at p) (abort_none p)

    reset_last : (reset_of μ).lcvid ≡ 0
    reset_last = unfold reset_of with_lcvid in refl

    pub reset_sound : Sound N (reset_of μ)
    reset_sound = record {
      small = rw reset_last (omega (arith, s.small));
      fits = λ p. rw (reset_at p) (abort_rules p);
      each =
          λ x. sound_under (at (reset_of μ)) μ.lcvid (reset_of μ).lcvid x reset_none
          (subst₂ (λ (f : Pos → Line) (w : Data). SoundAt f μ.lcvid x w) (sym reset_lines) (sym (reset_memory x)) (sound_each x));
    }

    pub reset_view : (x a : ℕ) → view (reset_of μ) x a ≡ view μ x μ.lcvid
    reset_view x a =
        view_is reset_sound x a (rw reset_last (omega arith)) (view μ x μ.lcvid)
        (sees_under (at (reset_of μ)) μ.lcvid (reset_of μ).lcvid x reset_none a a (view μ x μ.lcvid)
        (subst₂ (λ (f : Pos → Line) (w : Data). Sees f μ.lcvid x w a (view μ x μ.lcvid)) (sym reset_lines) (sym (reset_memory x)) (sees_each x a)))

    pub reset_clear : (x b : ℕ) → Marked (reset_of μ) x b → ⊥
    reset_clear x b = no_mark (at (reset_of μ)) (reset_of μ).lcvid 0 x reset_none b
