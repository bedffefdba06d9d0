-- The frame of a machine (its sizes, the count, unused caches, addresses) after each move, and after every rule.
-- Assumes nothing.
use mathlib.Core.Path.{◌≡◌, refl, ◌∙◌, ap}
use mathlib.Core.Logic.{◌⊎◌, inl, inr}
use mathlib.Core.Bool.{Bool, true, false, cond, ◌&&◌, true≢false}
use Prim.Native.Nat.{ℕ, ◌<◌}
use native.Mathlib.Omega.{arith}
use native.Mathlib.Decide.{dec_lt, ℕ_discrete}
use lib.ListN.{length-set}
use Rattle.rules.specs.declared.Line.{Line}
use Rattle.rules.specs.declared.Machine.{Machine}
use Rattle.rules.specs.declared.Pos.{Pos}
use Rattle.rules.specs.Data.{Data}
use Rattle.rules.specs.States.{is_i, is_sm, spec, ranged, top, owns}
use Rattle.rules.specs.Line.{empty, hits, is_owner}
use Rattle.rules.specs.Machine.{pos, at, change, drop, put, write, with_lcvid}
use Rattle.rules.specs.Abort.{abort_line, abort_of}
use Rattle.rules.specs.Load.{read_by, after_read, demote_line, is_of, load_of}
use Rattle.rules.specs.Store.{store_of}
use Rattle.rules.specs.Commit.{commit_of}
use Rattle.rules.specs.Reset.{reset_line, reset_of}
use Rattle.rules.specs.Evict.{with_shares, settled_out, evict_of}
use Rattle.rules.proofs.base.Bools.{by_test}
use Rattle.rules.proofs.base.States.{state_not}
use Rattle.rules.proofs.base.Lines.{owner_test}
use Rattle.rules.proofs.address.Demote.{demote_empty, demote_of, demote_other}
use Rattle.rules.proofs.machines.Places.{at_change, at_put_other, at_put_any}
use Rattle.rules.proofs.machines.Moves.{put_width, change_width}
use Rattle.rules.proofs.machines.Sound.{Frame}
use Rattle.rules.proofs.machines.Branches.{load_cases, store_cases, evict_cases}

-- a frame, with n caches in use
pub record Framed (n : ℕ) (μ : Machine) : Type 0 where
  pub frame : Frame μ
  pub count : μ.count ≡ n

-- ---- moves

put_framed : {n : ℕ} (μ : Machine) (p : Pos) (l : Line) → p.cache < n → l.address < 64 → Framed n μ → Framed n (put p l μ)
put_framed μ p l c h F = record {
  frame = record {
    caches = put_width μ p l ∙ f.caches;
    words = unfold put in f.words;
    some = unfold put in f.some;
    few = unfold put in f.few;
    unused = λ q. unfold put in (λ i. at_put_other μ p q l (λ e. let z : q.cache ≡ p.cache = ap (λ (t : Pos). t.cache) e in omega (arith, F.count)) ∙ f.unused q i);
    addresses = λ q. go q (at_put_any μ p q l);
  };
  count = unfold put in F.count;
}
  where
    f : Frame μ
    f = F.frame

    go : (q : Pos) → (at (put p l μ) q ≡ l) ⊎ (at (put p l μ) q ≡ at μ q) → (at (put p l μ) q).address < 64
    go q (inl e) = rw e h
    go q (inr e) = rw e (f.addresses q)

-- a change that keeps empty slots empty, and of every other line empties it or keeps its address
change_framed : {n : ℕ} (k : Pos → Line → Line) (μ : Machine) → ((p : Pos) → k p empty ≡ empty) → ((p : Pos) (l : Line) → (k p l ≡ empty) ⊎ ((k p l).address ≡ l.address))
    → Framed n μ → Framed n (change k μ)
change_framed k μ e t F = record {
  frame = record {
    caches = change_width k μ ∙ f.caches;
    words = unfold change in f.words;
    some = unfold change in f.some;
    few = unfold change in f.few;
    unused = λ q. unfold change in (λ i. at_change k μ e q ∙ rw (f.unused q i) (e q));
    addresses = λ q. rw (at_change k μ e q) (go q (t q (at μ q)));
  };
  count = unfold change in F.count;
}
  where
    f : Frame μ
    f = F.frame

    go : (q : Pos) → (k q (at μ q) ≡ empty) ⊎ ((k q (at μ q)).address ≡ (at μ q).address) → (k q (at μ q)).address < 64
    go q (inl i) = rw i (omega arith)
    go q (inr i) = rw i (f.addresses q)

drop_framed : {n : ℕ} (t : Pos → Line → Bool) (μ : Machine) → Framed n μ → Framed n (drop t μ)
unfolding drop
drop_framed t μ F = change_framed (λ p l. cond (t p l) empty l) μ (λ p. by_test (t p empty) (λ i. rw i) (λ i. rw i)) (λ p l. by_test (t p l) (λ i. inl (rw i)) (λ i. inr (rw i))) F

write_framed : {n : ℕ} (x : ℕ) (d : Data) (μ : Machine) → Framed n μ → Framed n (write x d μ)
write_framed x d μ F = let f = F.frame in unfold write at in record {
  frame = record { caches = f.caches; words = length-set μ.memory x d ∙ f.words; some = f.some; few = f.few; unused = f.unused; addresses = f.addresses };
  count = F.count;
}

lcvid_framed : {n : ℕ} (v : ℕ) (μ : Machine) → Framed n μ → Framed n (with_lcvid v μ)
lcvid_framed v μ F = let f = F.frame in unfold with_lcvid at in record {
  frame = record { caches = f.caches; words = f.words; some = f.some; few = f.few; unused = f.unused; addresses = f.addresses };
  count = F.count;
}

-- ---- rules

module _ {n : ℕ} {μ : Machine} (F : Framed n μ) where
  -- a line that is there stands in a cache that is used
  used : (p : Pos) → is_i (at μ p).state ≡ false → p.cache < n
  used p some = go (dec_lt p.cache n)
    where
      go : Dec (p.cache < n) → p.cache < n
      go (yes d) = d
      go (no d) = let z : is_i empty.state ≡ false = rw (F.frame.unused p (omega (arith, F.count))) at some in absurd (true≢false z)

  emptied : (p : Pos) → is_i (at μ p).state ≡ false → Framed n (put p empty μ)
  emptied p some = put_framed μ p empty (used p some) (omega arith) F

  pub abort_framed : Framed n (abort_of μ)
  abort_framed = unfold abort_of in change_framed (λ p l. abort_line μ.lcvid l) μ (λ p. unfold abort_line in refl) (λ p l. tame l) F
    where
      tame : (l : Line) → (abort_line μ.lcvid l ≡ empty) ⊎ ((abort_line μ.lcvid l).address ≡ l.address)
      tame l = unfold abort_line in by_test (spec l.state) (λ i. by_test (owns l.state && hits μ.lcvid l) (λ j. inr (rw (i, j))) (λ j. inl (rw (i, j)))) (λ i. inr (rw i))

  pub reset_framed : Framed n (reset_of μ)
  reset_framed = unfold reset_of in lcvid_framed 0 (change (λ p l. reset_line l) μ) (change_framed (λ p l. reset_line l) μ (λ p. unfold reset_line in refl) (λ p l. tame l) F)
    where
      tame : (l : Line) → (reset_line l ≡ empty) ⊎ ((reset_line l).address ≡ l.address)
      tame l = unfold reset_line in by_test (ranged l.state) (λ i. inl (rw i)) (λ i. by_test (top l.state) (λ j. inr (rw (i, j))) (λ j. inr (rw (i, j))))

  pub commit_framed : (v : ℕ) → Framed n (commit_of μ v)
  commit_framed v = unfold commit_of in lcvid_framed v μ F

  owner_some : (x a : ℕ) (o : Pos) → is_owner x a (at μ o) ≡ true → is_i (at μ o).state ≡ false
  owner_some x a o is = state_not owns is_i refl (at μ o).state ((owner_test x a (at μ o)).says is).owning

  read_framed : (vid : Bool) (a : ℕ) (o : Pos) → is_i (at μ o).state ≡ false → Framed n (after_read μ vid a o)
  unfolding after_read
  read_framed true a o some =
      put_framed μ o (read_by a (at μ o)) (used o some) (unfold read_by in by_test (top (at μ o).state) (λ t. rw t (F.frame.addresses o))
      (λ t. rw t (F.frame.addresses o))) F
  read_framed false a o some = F

  demote_framed : (x : ℕ) → Framed n (change (λ p l. demote_line x l) μ)
  demote_framed x = change_framed (λ p l. demote_line x l) μ (λ p. demote_empty x) (λ p l. inr (go l (ℕ_discrete l.address x))) F
    where
      go : (l : Line) → Dec (l.address ≡ x) → (demote_line x l).address ≡ l.address
      go l (yes i) = rw (demote_of x l i)
      go l (no i) = rw (demote_other x l i)

  module _ (c x : ℕ) (asks : c < n) (low : x < 64) where
    pub load_framed : (vid : Bool) (a i : ℕ) → Framed n (load_of μ vid c a x i).machine
    load_framed vid a i = load_cases (λ r. Framed n r.machine) μ vid c a x i (record {
      owner = λ o is. read_framed vid a o (owner_some x a o is);
      share = λ q is. F;
      copy = λ o is w e slot. put_framed _ (pos c e) _ asks low (drop_framed _ _ (read_framed vid a o (owner_some x a o is)));
      first = λ v w e slot. put_framed _ (pos c e) _ asks low (drop_framed (is_of x) μ F);
      held = λ v w q is. F;
      shared = λ v w z q is e slot. put_framed _ (pos c e) _ asks low (demote_framed x);
      fetched = λ v w z e slot. put_framed μ (pos c e) _ asks low F;
      full = F;
    })

    pub store_framed : (vid : Bool) (a : ℕ) (d : Data) → Framed n (store_of μ vid c a x d).machine
    store_framed vid a d = store_cases (λ r. Framed n r.machine) μ vid c a x d (record {
      misspec = λ o is. abort_framed;
      over = λ v o is w z e slot. put_framed _ (pos c e) _ asks low (put_framed _ o empty (used o (owner_some x a o is)) (omega arith) (drop_framed _ μ F));
      split = λ v o is w z e slot. put_framed _ (pos c e) _ asks low (put_framed _ o _ (used o (owner_some x a o is)) (F.frame.addresses o) (drop_framed _ μ F));
      first = λ v w e f slot slot'. put_framed _ (pos c f) _ asks low (put_framed _ (pos c e) _ asks low (drop_framed (is_of x) μ F));
      plain_owned = λ v o is w e slot. put_framed _ (pos c e) _ asks low (drop_framed (is_of x) μ F);
      plain_unowned = λ v w e slot. put_framed _ (pos c e) _ asks low (drop_framed (is_of x) μ F);
      full = F;
    })

  pub evict_framed : (p : Pos) → is_i (at μ p).state ≡ false → Framed n (evict_of μ p).machine
  evict_framed p some = evict_cases (λ r. Framed n r.machine) μ p some (record {
    dead_line = λ d. emptied p some;
    spare_line = λ a c. emptied p some;
    dirty_line = λ a c. write_framed _ _ _ (emptied p some);
    settled = λ a t h. unfold settled_out in by_test (is_sm (at μ p).state) (λ i. rw i (write_framed _ _ _ bare)) (λ i. rw i bare);
    over = abort_framed;
  })
    where
      bare : Framed n (with_shares μ p)
      bare = unfold with_shares in put_framed _ p empty (used p some) (omega arith) (drop_framed _ μ F)
