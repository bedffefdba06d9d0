-- A store with a VID: above older versions, all of them S-O that end at or below a, the newest version S-M (a, a) is placed at n.
-- Three ways to get there: the newest version so far is closed at a, or it is the store's own and drops, or there was no version.
-- Assumes nothing.
use mathlib.Core.Path.{◌≡◌, refl, sym, ◌∙◌}
use mathlib.Core.Logic.{◌≢◌, ◌⊎◌, inl, inr}
use mathlib.Core.Bool.{true, ◌||◌, false≢true}
use Prim.Native.Nat.{ℕ, ◌≤◌, ◌<◌}
use native.Mathlib.Omega.{arith}
use Rattle.rules.specs.declared.State.TheVariants.{SM, SO}
use Rattle.rules.specs.declared.Line.{Line}
use Rattle.rules.specs.declared.Pos.{Pos}
use Rattle.rules.specs.Data.{Data}
use Rattle.rules.specs.States.{is_e, is_s, is_so, is_se, is_ss, ranged, top, owns, stands}
use Rattle.rules.specs.Line.{line, empty}
use Rattle.rules.specs.Store.{version, closed}
use Rattle.rules.proofs.base.States.{state_rule, state_never, top_owns, top_spec, owns_ranged, beside_top, top_not_ranged}
use Rattle.rules.proofs.base.Lines.{Here, pos_dec, not_here, top_hits}
use Rattle.rules.proofs.address.Sound.{Stand, There, Low, From, OwnedBy, Meets, SoundAt, GoodAt, Passes, Sees, from_owner, from_plain, from_memory, Mark, WritesAt}
use Rattle.rules.proofs.address.Owners.{stand_swap, plain_alone, so_below, mark_on}
use Rattle.rules.proofs.address.Rebuild.{pairs_with}

-- the live lines at x but for n: S-O and S-S, ending at or below a
pub record Older (g : Pos → Line) (lc x a : ℕ) (n : Pos) : Type 0 where
  pub kind : (p : Pos) → p ≢ n → Here lc x (g p) → ranged (g p).state ≡ true
  pub ends : (p : Pos) → p ≢ n → Here lc x (g p) → is_so (g p).state ≡ true → (g p).h ≤ a
  pub pairs : (p q : Pos) → p ≢ q → p ≢ n → q ≢ n → Here lc x (g p) → Here lc x (g q) → Stand p q (g p) (g q)
  pub next : (p : Pos) → p ≢ n → Here lc x (g p) → is_so (g p).state ≡ true → ((g p).h ≡ a) ⊎ There g lc x (From (g p).h)
  pub owner : (p : Pos) → p ≢ n → Here lc x (g p) → is_ss (g p).state ≡ true → There g lc x (OwnedBy lc p (g p))
  pub low : There g lc x (Low lc)

module _ {g : Pos → Line} {lc x a : ℕ} (w : Data) {v : Data} {n : Pos} (new : lc < a) (is : g n ≡ version x a v) (old : Older g lc x a n) where
  here_n : Here lc x (g n)
  here_n = rw is (record { alive = record { some = refl; fresh = λ r. absurd (false≢true r) }; at = refl })

  top_n : top (g n).state ≡ true
  top_n = rw is refl

  stand_new : (q : Pos) → q ≢ n → Here lc x (g q) → Stand n q (g n) (g q)
  stand_new q d h = rw is (record {
    table = state_rule ranged (λ t. stands SM t) refl (g q).state (old.kind q d h);
    plains = λ i. absurd (false≢true i);
    ranges = λ i j. let k = owns_ranged (g q).state j (old.kind q d h) in inr (k, old.ends q d h k);
    shares = λ i. absurd (false≢true i);
  })

  meets_old : (p : Pos) → p ≢ n → Here lc x (g p) → Meets g lc x w p (g p)
  meets_old p d h = record {
    clean = λ i. state_never ranged (λ s. is_e s || is_se s) refl (g p).state (old.kind p d h) i;
    shared = λ i. state_never ranged is_s refl (g p).state (old.kind p d h) i;
    newest = λ i. (n, here_n, top_n);
    lowest = λ i. old.low;
    next = λ i. follow (old.next p d h i);
    owner = λ i. old.owner p d h i;
  }
    where
      follow : ((g p).h ≡ a) ⊎ There g lc x (From (g p).h) → There g lc x (From (g p).h)
      follow (inl e) = (n, here_n, (top_owns (g n).state top_n, rw (is, e) refl))
      follow (inr t) = t

  meets_new : Meets g lc x w n (version x a v)
  meets_new = record {
    clean = λ i. absurd (false≢true i);
    shared = λ i. absurd (false≢true i);
    newest = λ i. (n, here_n, top_n);
    lowest = λ i. old.low;
    next = λ i. absurd (false≢true i);
    owner = λ i. absurd (false≢true i);
  }

  sound_version : SoundAt g lc x w
  sound_version = record { stand = pairs_with g lc x n old.pairs stand_new; meets = λ p h. go p h (pos_dec p n) }
    where
      go : (p : Pos) → Here lc x (g p) → Dec (p ≡ n) → Meets g lc x w p (g p)
      go p h (yes e) = rw (e, is) meets_new
      go p h (no e) = meets_old p e h

  -- the store, where below a nothing that was seen has changed, and nothing was marked above a
  writes_version : {f : Pos → Line} → ((b : ℕ) → lc < b → Mark f lc x b → b ≤ a) → ((b : ℕ) (u : Data) → lc ≤ b → b < a → Sees f lc x w b u → Sees g lc x w b u)
      → WritesAt f g lc x a w v
  writes_version above before = record {
    sound = sound_version;
    above = above;
    set = λ b i. from_owner n (record { here = here_n; owning = top_owns (g n).state top_n; hit = top_hits b (g n) top_n (rw is i) }) (rw is refl);
    before = before;
    marks = λ b i j. (n, here_n, (top_n, rw is j));
    made = λ b i (p, h, (t, j)). on_n p h t j (pos_dec p n);
  }
    where
      on_n : {b : ℕ} (p : Pos) → Here lc x (g p) → top (g p).state ≡ true → b ≤ (g p).h → Dec (p ≡ n) → b ≤ a
      on_n p h t j (yes e) = rw (e, is) at j
      on_n p h t j (no e) = top_not_ranged (g p).state t (old.kind p e h)

-- ---- where the newest version so far is at o, none of its S-S lines is left, and it has not been read above a

module _ {N : ℕ} {f g : Pos → Line} {lc x : ℕ} {w : Data} (s : GoodAt N f lc x w) (a : ℕ) (v : Data) (new : lc < a) (o n : Pos) (ho : Here lc x (f o))
    (t : top (f o).state ≡ true) (unread : (f o).h ≤ a)
    (unshared : (p : Pos) → Here lc x (f p) → is_ss (f p).state ≡ true → (f p).m ≢ (f o).m) (is : g n ≡ version x a v) (rest : (p : Pos) → p ≢ o → p ≢ n → g p ≡ f p) where
  above : (b : ℕ) → lc < b → Mark f lc x b → b ≤ a
  above b i k = omega (arith, mark_on s o ho t b k)

  beside : (p : Pos) → p ≢ o → Here lc x (f p) → ranged (f p).state ≡ true
  beside p d h = beside_top (f o).state (f p).state (s.sound.stand o p (λ e. d (sym e)) ho h).table t

  -- an S-S that lives has another owner line
  other_owner : (p : Pos) → Here lc x (f p) → is_ss (f p).state ≡ true → (q : Pos) → OwnedBy lc p (f p) q (f q) → q ≢ o
  other_owner p h i q y e = unshared p h i (sym y.same_m ∙ rw e refl)

  -- ---- it becomes S-O (m, a) in its slot
  module _ (after : (f o).m < a) (apart : o ≢ n) (free : Here lc x (f n) → ⊥) (shut : g o ≡ closed a (f o)) where
    stays : (p : Pos) → p ≢ o → Here lc x (f p) → g p ≡ f p
    stays p d h = rest p d (λ e. free (rw e at h))

    here_o : Here lc x (g o)
    here_o = rw shut (record { alive = record { some = refl; fresh = λ r. new }; at = ho.at })

    back : (p : Pos) → p ≢ o → p ≢ n → Here lc x (g p) → Here lc x (f p)
    back p d e h = rw (rest p d e) at h

    -- an owner before is one now, with its m
    still_owns : (p : Pos) → Here lc x (f p) → owns (f p).state ≡ true → Here lc x (g p) × (owns (g p).state ≡ true) × ((g p).m ≡ (f p).m)
    still_owns p h i = go (pos_dec p o)
      where
        go : Dec (p ≡ o) → Here lc x (g p) × (owns (g p).state ≡ true) × ((g p).m ≡ (f p).m)
        go (yes e) = rw e (here_o, rw shut refl, rw shut refl)
        go (no e) = let d = stays p e h in (rw d h, rw d i, rw d refl)

    stand_o : (q : Pos) → q ≢ o → Here lc x (f q) → Stand o q (g o) (f q)
    stand_o q d h = rw shut (record {
      table = state_rule ranged (λ t. stands SO t) refl (f q).state (beside q d h);
      plains = λ i. absurd (false≢true i);
      ranges = λ i j. let k = owns_ranged (f q).state j (beside q d h) in inr (k, so_below s q o h ho k t);
      shares = λ i. absurd (false≢true i);
    })

    older : Older g lc x a n
    older = record {
      kind = λ p d h. kind p d h (pos_dec p o);
      ends = λ p d h i. ends p d h i (pos_dec p o);
      pairs = λ p q c d e hp hq. pairs p q c d e hp hq (pos_dec p o) (pos_dec q o);
      next = λ p d h i. next p d h i (pos_dec p o);
      owner = λ p d h i. owner p d h i (pos_dec p o);
      low = let (q, hq, (i, l)) = (s.sound.meets o ho).lowest (top_spec (f o).state t) in let (h, j, e) = still_owns q hq i in (q, h, (j, omega (arith, l, e)));
    }
      where
        kind : (p : Pos) → p ≢ n → Here lc x (g p) → Dec (p ≡ o) → ranged (g p).state ≡ true
        kind p d h (yes e) = rw (e, shut) refl
        kind p d h (no e) = rw (rest p e d) (beside p e (back p e d h))

        ends : (p : Pos) → p ≢ n → Here lc x (g p) → is_so (g p).state ≡ true → Dec (p ≡ o) → (g p).h ≤ a
        ends p d h i (yes e) = rw (e, shut) (omega arith)
        ends p d h i (no e) = rw (rest p e d) (let b = so_below s p o (back p e d h) ho (rw (rest p e d) at i) t in omega arith)

        pairs : (p q : Pos) → p ≢ q → p ≢ n → q ≢ n → Here lc x (g p) → Here lc x (g q) → Dec (p ≡ o) → Dec (q ≡ o) → Stand p q (g p) (g q)
        pairs p q c d e hp hq (yes i) (yes j) = absurd (c (i ∙ sym j))
        pairs p q c d e hp hq (yes i) (no j) = rw (i, rest q j e) (stand_o q j (back q j e hq))
        pairs p q c d e hp hq (no i) (yes j) = rw (j, rest p i d) (stand_swap o p (g o) (f p) (stand_o p i (back p i d hp)))
        pairs p q c d e hp hq (no i) (no j) = rw (rest p i d, rest q j e) (s.sound.stand p q c (back p i d hp) (back q j e hq))

        next : (p : Pos) → p ≢ n → Here lc x (g p) → is_so (g p).state ≡ true → Dec (p ≡ o) → ((g p).h ≡ a) ⊎ There g lc x (From (g p).h)
        next p d h i (yes e) = inl (rw (e, shut) refl)
        next p d h i (no e) =
            let (q, hq, (j, l)) = (s.sound.meets p (back p e d h)).next (rw (rest p e d) at i) in
            let (h', j', l') = still_owns q hq j in
            inr (q, h', (j', rw (rest p e d) (l' ∙ l)))

        owner : (p : Pos) → p ≢ n → Here lc x (g p) → is_ss (g p).state ≡ true → Dec (p ≡ o) → There g lc x (OwnedBy lc p (g p))
        owner p d h i (yes e) = absurd (false≢true (rw (e, shut) at i))
        owner p d h i (no e) =
            let r = rest p e d in
            let (q, hq, y) = (s.sound.meets p (back p e d h)).owner (rw r at i) in
            let c = stays q (other_owner p (back p e d h) (rw r at i) q y) hq in
            (q, rw c hq, rw (c, r) y)

    pub writes_split : WritesAt f g lc x a w v
    writes_split = writes_version w new is older above before
      where
        before : (b : ℕ) (u : Data) → lc ≤ b → b < a → Sees f lc x w b u → Sees g lc x w b u
        before b u i j (from_owner p O e) = go (pos_dec p o)
          where
            go : Dec (p ≡ o) → Sees g lc x w b u
            go (yes d) =
                from_owner o (record { here = here_o; owning = rw shut refl; hit = rw shut (record { is = refl; from = rw d at O.hit.from; until = λ r. j }) })
                (rw shut (e ∙ rw d refl))
            go (no d) = let c = stays p d O.here in from_owner p (record { here = rw c O.here; owning = rw c O.owning; hit = rw c O.hit }) (rw c e)
        before b u i j (from_plain p h k e) = plain_alone s p o h ho k (top_spec (f o).state t)
        before b u i j (from_memory k e) = from_memory (λ p h. passes p h (pos_dec p o) (pos_dec p n)) e
          where
            passes : (p : Pos) → Here lc x (g p) → Dec (p ≡ o) → Dec (p ≡ n) → Passes b w (g p)
            passes p h (yes d) c = rw (d, shut) (record { same = λ z. absurd (false≢true z); later = λ z. (k o ho).later (top_owns (f o).state t) })
            passes p h (no d) (yes c) = rw (c, is) (record { same = λ z. absurd (false≢true z); later = λ z. j })
            passes p h (no d) (no c) = rw (rest p d c) (k p (back p d c h))

  -- ---- it is the store's own version, and drops
  module _ (own : (f o).m ≡ a) (gone : o ≢ n → g o ≡ empty) (free : Here lc x (f n) → n ≡ o) where
    not_o : (p : Pos) → p ≢ n → Here lc x (g p) → p ≢ o
    not_o p d h e = not_here lc x (rw (e, gone (λ c. d (e ∙ c))) at h)

    back' : (p : Pos) → p ≢ n → Here lc x (g p) → g p ≡ f p
    back' p d h = rest p (not_o p d h) d

    stays' : (p : Pos) → p ≢ o → Here lc x (f p) → g p ≡ f p
    stays' p d h = rest p d (λ e. d (e ∙ free (rw e at h)))

    older' : Older g lc x a n
    older' = record {
      kind = λ p d h. rw (back' p d h) (beside p (not_o p d h) (rw (back' p d h) at h));
      ends = λ p d h i. rw (back' p d h) (let b = so_below s p o (rw (back' p d h) at h) ho (rw (back' p d h) at i) t in omega arith);
      pairs = λ p q c d e hp hq. rw (back' p d hp, back' q e hq) (s.sound.stand p q c (rw (back' p d hp) at hp) (rw (back' q e hq) at hq));
      next = λ p d h i. let r = back' p d h in let (q, hq, (j, l)) = (s.sound.meets p (rw r at h)).next (rw r at i) in rw r (next p q hq j l (pos_dec q o));
      owner = λ p d h i.
          let r = back' p d h in let (q, hq, y) = (s.sound.meets p (rw r at h)).owner (rw r at i) in
          let c = stays' q (other_owner p (rw r at h) (rw r at i) q y) hq in
          (q, rw c hq, rw (c, r) y);
      low = let (q, hq, (i, l)) = (s.sound.meets o ho).lowest (top_spec (f o).state t) in low q hq i l (pos_dec q o);
    }
      where
        next : (p q : Pos) → Here lc x (f q) → owns (f q).state ≡ true → (f q).m ≡ (f p).h → Dec (q ≡ o) → ((f p).h ≡ a) ⊎ There g lc x (From (f p).h)
        next p q h i l (yes e) = inl (sym l ∙ rw e own)
        next p q h i l (no e) = let c = stays' q e h in inr (q, rw c h, rw c (i, l))

        low : (q : Pos) → Here lc x (f q) → owns (f q).state ≡ true → (f q).m ≤ lc → Dec (q ≡ o) → There g lc x (Low lc)
        low q h i l (yes e) = let z : (f o).m ≤ lc = rw e at l in absurd (omega arith)
        low q h i l (no e) = let c = stays' q e h in (q, rw c h, rw c (i, l))

    pub writes_over : WritesAt f g lc x a w v
    writes_over = writes_version w new is older' above before
      where
        before : (b : ℕ) (u : Data) → lc ≤ b → b < a → Sees f lc x w b u → Sees g lc x w b u
        before b u i j (from_owner p O e) =
            let c = stays' p (λ d. let z : (f o).m ≤ b = rw d at O.hit.from in omega arith) O.here in
            from_owner p (record { here = rw c O.here; owning = rw c O.owning; hit = rw c O.hit }) (rw c e)
        before b u i j (from_plain p h k e) = plain_alone s p o h ho k (top_spec (f o).state t)
        before b u i j (from_memory k e) = from_memory (λ p h. passes p h (pos_dec p n)) e
          where
            passes : (p : Pos) → Here lc x (g p) → Dec (p ≡ n) → Passes b w (g p)
            passes p h (yes c) = rw (c, is) (record { same = λ z. absurd (false≢true z); later = λ z. j })
            passes p h (no c) = rw (back' p c h) (k p (rw (back' p c h) at h))

-- ---- no version: all lines have dropped, and S-O (0, a) is placed at k with the word u that every number saw

pub writes_first : {f g : Pos → Line} {lc x : ℕ} {w : Data} (a : ℕ) (u v : Data) → lc < a → (k n : Pos) → k ≢ n → g k ≡ line SO x 0 a u → g n ≡ version x a v
    → ((p : Pos) → Here lc x (g p) → (p ≡ k) ⊎ (p ≡ n))
    → ((b : ℕ) (d : Data) → lc ≤ b → Sees f lc x w b d → d ≡ u) → ((b : ℕ) → Mark f lc x b → ⊥) → WritesAt f g lc x a w v
writes_first {f} {g} {lc} {x} {w} a u v new k n two at-k is only saw none =
    writes_version w new is older (λ b i m. absurd (none b m))
    (λ b d i j z. rw (saw b d i z) (from_owner k
    (record { here = here_k; owning = rw at-k refl; hit = rw at-k (record { is = refl; from = omega arith; until = λ r. j }) }) (rw at-k refl)))
  where
    here_k : Here lc x (g k)
    here_k = rw at-k (record { alive = record { some = refl; fresh = λ r. new }; at = refl })

    is_k : (p : Pos) → p ≢ n → (p ≡ k) ⊎ (p ≡ n) → p ≡ k
    is_k p d (inl e) = e
    is_k p d (inr e) = absurd (d e)

    older : Older g lc x a n
    older = record {
      kind = λ p d h. rw (is_k p d (only p h), at-k) refl;
      ends = λ p d h i. rw (is_k p d (only p h), at-k) (omega arith);
      pairs = λ p q c d e hp hq. absurd (c (is_k p d (only p hp) ∙ sym (is_k q e (only q hq))));
      next = λ p d h i. inl (rw (is_k p d (only p h), at-k) refl);
      owner = λ p d h i. absurd (false≢true (rw (is_k p d (only p h), at-k) at i));
      low = (k, here_k, rw at-k (refl, omega arith));
    }
