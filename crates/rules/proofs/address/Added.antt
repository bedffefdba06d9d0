-- A line comes to an address, at a place n that held no live line of it: the S-S of a load that another cache owns, the S of a plain load that other caches
-- share, the E of a plain load from memory. Nothing that is seen changes.
-- Assumes nothing.
use mathlib.Core.Path.{◌≡◌, refl, sym}
use mathlib.Core.Logic.{◌≢◌, ◌⊎◌, inl, inr}
use mathlib.Core.Bool.{true, false, ◌&&◌, ◌||◌, not, false≢true}
use Prim.Native.Nat.{ℕ, suc, ◌≤◌, max}
use native.Mathlib.Omega.{arith}
use Rattle.rules.specs.declared.State.TheVariants.{E, S, SS}
use Rattle.rules.specs.declared.Line.{Line}
use Rattle.rules.specs.declared.Pos.{Pos}
use Rattle.rules.specs.Data.{Data}
use Rattle.rules.specs.States.{is_o, is_s, is_so, is_ss, plain, spec, top, stands}
use Rattle.rules.specs.Line.{line}
use Rattle.std.specs.Cmp.Derive.{both_true}
use Rattle.std.proofs.lemmas.Bool.{both_ways, not_from_false}
use Rattle.rules.proofs.base.Bools.{by_test}
use Rattle.rules.proofs.base.States.{state_rule, owns_spec, owns_cases, so_ranged, stands_spec}
use Rattle.rules.proofs.base.Lines.{Here, pos_dec}
use Rattle.rules.proofs.address.Sound.{Stand, There, IsO, Top, Low, From, OwnedBy, Meets, SoundAt, GoodAt, OwnerAt, Passes, Sees, from_owner, from_plain, from_memory, KeepsAt}
use Rattle.rules.proofs.address.Owners.{plain_same}
use Rattle.rules.proofs.address.Rebuild.{pairs_with}

pub record Added (f g : Pos → Line) (lc x : ℕ) (n : Pos) : Type 0 where
  pub rest : (q : Pos) → q ≢ n → g q ≡ f q
  pub free : Here lc x (f n) → ⊥
  pub here : Here lc x (g n)

module _ {f g : Pos → Line} {lc x : ℕ} {n : Pos} (A : Added f g lc x n) where
  stays : (q : Pos) → Here lc x (f q) → g q ≡ f q
  stays q h = A.rest q (λ e. A.free (rw e at h))

  still_there : (P : Pos → Line → Type 0) → There f lc x P → There g lc x P
  still_there P (q, h, i) = (q, rw (stays q h) h, rw (stays q h) i)

  still_beside : {P : Type 0} → P ⊎ There f lc x IsO → P ⊎ There g lc x IsO
  still_beside (inl e) = inl e
  still_beside (inr t) = inr (still_there IsO t)

  meets_still : {w : Data} (p : Pos) (k : Line) → Meets f lc x w p k → Meets g lc x w p k
  meets_still p k m = record {
    clean = m.clean;
    shared = λ i. still_beside (m.shared i);
    newest = λ i. still_there Top (m.newest i);
    lowest = λ i. still_there (Low lc) (m.lowest i);
    next = λ i. still_there (From k.h) (m.next i);
    owner = λ i. still_there (OwnedBy lc p k) (m.owner i);
  }

  sound_added : {w : Data} → SoundAt f lc x w → ((q : Pos) → Here lc x (f q) → Stand n q (g n) (f q)) → Meets g lc x w n (g n) → SoundAt g lc x w
  sound_added {w} s new m = record {
    stand = pairs_with g lc x n (λ p q d i j hp hq. rw (A.rest p i, A.rest q j) (s.stand p q d (rw (A.rest p i) at hp) (rw (A.rest q j) at hq)))
        (λ q i h. rw (A.rest q i) (new q (rw (A.rest q i) at h)));
    meets = λ p h. go p h (pos_dec p n);
  }
    where
      go : (p : Pos) → Here lc x (g p) → Dec (p ≡ n) → Meets g lc x w p (g p)
      go p h (yes e) = rw e m
      go p h (no e) = rw (A.rest p e) (meets_still p (f p) (s.meets p (rw (A.rest p e) at h)))

  -- the new line is no newest version, and where memory is seen it is passed
  keeps_added : {w : Data} (a : ℕ) → top (g n).state ≡ false → SoundAt f lc x w → ((q : Pos) → Here lc x (f q) → Stand n q (g n) (f q)) → Meets g lc x w n (g n)
      → ((b : ℕ) → lc ≤ b → ((p : Pos) → Here lc x (f p) → Passes b w (f p)) → Passes b w (g n)) → KeepsAt f g lc x a w w
  keeps_added {w} a no_top s new m passes = record {
    sound = sound_added s new m;
    sees = sees;
    keeps = λ b i. still_there (λ q l. (top l.state ≡ true) × (b ≤ l.h));
    made = λ b i (p, h, (t, j)). let e = A.rest p (λ d. both_ways _ no_top (rw d at t)) in inl (p, rw e at h, (rw e at t, rw e at j));
  }
    where
      sees : (b : ℕ) (v : Data) → lc ≤ b → Sees f lc x w b v → Sees g lc x w b v
      sees b v i (from_owner p o e) = let d = stays p o.here in from_owner p (record { here = rw d o.here; owning = rw d o.owning; hit = rw d o.hit }) (rw d e)
      sees b v i (from_plain p h j e) = let d = stays p h in from_plain p (rw d h) (rw d j) (rw d e)
      sees b v i (from_memory k e) = from_memory (λ p h. go p h (pos_dec p n)) e
        where
          go : (p : Pos) → Here lc x (g p) → Dec (p ≡ n) → Passes b w (g p)
          go p h (yes d) = rw d (passes b i k)
          go p h (no d) = rw (A.rest p d) (k p (rw (A.rest p d) at h))

-- ---- S-S (m, a + 1), beside the owner o for a, which is in another cache; no S-S with that m is left in the asking cache

module _ {N : ℕ} {f g : Pos → Line} {lc x : ℕ} {w : Data} {n : Pos} (s : GoodAt N f lc x w) (A : Added f g lc x n) (a : ℕ) (o : Pos) (O : OwnerAt f lc x a o)
    (is : g n ≡ line SS x (f o).m (suc a) (f o).word) (up : lc ≤ a) (away : o.cache ≢ n.cache)
    (read : top (f o).state ≡ true → a ≤ max (f o).h lc)
    (single : (q : Pos) → Here lc x (f q) → is_ss (f q).state ≡ true → q.cache ≡ n.cache → (f q).m ≢ (f o).m) where
  speculative : (q : Pos) → Here lc x (f q) → spec (f q).state ≡ true
  speculative q h = go (pos_dec o q)
    where
      go : Dec (o ≡ q) → spec (f q).state ≡ true
      go (yes e) = rw (← e) (owns_spec (f o).state O.owning)
      go (no e) = stands_spec (f o).state (f q).state (s.sound.stand o q e O.here h).table (owns_spec (f o).state O.owning)

  stand_share : (q : Pos) → Here lc x (f q) → Stand n q (g n) (f q)
  stand_share q h = rw is (record {
    table = state_rule spec (λ t. stands SS t) refl (f q).state (speculative q h);
    plains = λ i. absurd (false≢true i);
    ranges = λ i j. absurd (false≢true i);
    shares = λ i j e d. single q h j (sym e) (sym d);
  })

  reach : (is_so (f o).state ≡ true) ⊎ (top (f o).state ≡ true) → suc a ≤ suc (max (f o).h lc)
  reach (inl i) = omega (arith, O.hit.until (so_ranged (f o).state i))
  reach (inr t) = omega (arith, read t)

  meets_share : Meets g lc x w n (g n)
  meets_share = rw is (record {
    clean = λ i. absurd (false≢true i);
    shared = λ i. absurd (false≢true i);
    newest = λ i. m.newest (owns_spec (f o).state O.owning);
    lowest = λ i. m.lowest (owns_spec (f o).state O.owning);
    next = λ i. absurd (false≢true i);
    owner = λ i. still_there A (OwnedBy lc n (line SS x (f o).m (suc a) (f o).word)) (
      o,
      O.here,
      record {
        owning = O.owning;
        same_m = refl;
        away = away;
        same_word = refl;
        reach = reach (owns_cases (f o).state O.owning);
        within = λ i. O.hit.until (so_ranged (f o).state i);
      },
    );
  })
    where
      m : Meets g lc x w o (f o)
      m = meets_still A o (f o) (s.sound.meets o O.here)

  pub keeps_share : (b : ℕ) → KeepsAt f g lc x b w w
  keeps_share b = keeps_added A b (rw is refl) s.sound stand_share meets_share (λ c i k. rw is (record { same = λ j. absurd (false≢true j); later = λ j. absurd (false≢true j) }))

-- ---- S beside O and S lines, of which r is one, in other caches

module _ {N : ℕ} {f g : Pos → Line} {lc x : ℕ} {w : Data} {n : Pos} (s : GoodAt N f lc x w) (A : Added f g lc x n) (r : Pos) (hr : Here lc x (f r))
    (is : g n ≡ line S x 0 0 (f r).word) (all : (q : Pos) → Here lc x (f q) → (is_o (f q).state || is_s (f q).state) ≡ true)
    (away : (q : Pos) → Here lc x (f q) → n.cache ≢ q.cache) where
  plain_r : plain (f r).state ≡ true
  plain_r = state_rule (λ t. is_o t || is_s t) plain refl (f r).state (all r hr)

  stand_s : (q : Pos) → Here lc x (f q) → Stand n q (g n) (f q)
  stand_s q h = rw is (record {
    table = state_rule (λ t. is_o t || is_s t) (λ t. stands S t) refl (f q).state (all q h);
    plains = λ i. (away q h, plain_same s r q hr h plain_r);
    ranges = λ i j. absurd (false≢true i);
    shares = λ i j e d. false≢true i;
  })

  meets_s : Meets g lc x w n (g n)
  meets_s = rw is (record {
    clean = λ i. absurd (false≢true i);
    shared =
        λ i. by_test (is_o (f r).state) (λ j. inr (still_there A IsO (r, hr, j)))
        (λ j. still_beside A ((s.sound.meets r hr).shared (state_rule (λ t. (is_o t || is_s t) && not (is_o t)) is_s refl (f r).state (both_true (all r hr) (not_from_false _ j)))));
    newest = λ i. absurd (false≢true i);
    lowest = λ i. absurd (false≢true i);
    next = λ i. absurd (false≢true i);
    owner = λ i. absurd (false≢true i);
  })

  pub keeps_s : (b : ℕ) → KeepsAt f g lc x b w w
  keeps_s b = keeps_added A b (rw is refl) s.sound stand_s meets_s (λ c i k. rw is (record { same = λ j. (k r hr).same plain_r; later = λ j. absurd (false≢true j) }))

-- ---- E from memory, where no line lives

pub keeps_e : {f g : Pos → Line} {lc x : ℕ} {w : Data} {n : Pos} → Added f g lc x n → ((q : Pos) → Here lc x (f q) → ⊥) → g n ≡ line E x 0 0 w → SoundAt f lc x w
    → (b : ℕ) → KeepsAt f g lc x b w w
keeps_e {w = w} A none is s b = keeps_added A b (rw is refl) s (λ q h. absurd (none q h)) (rw is (record {
  clean = λ i. refl;
  shared = λ i. inl refl;
  newest = λ i. absurd (false≢true i);
  lowest = λ i. absurd (false≢true i);
  next = λ i. absurd (false≢true i);
  owner = λ i. absurd (false≢true i);
})) (λ c i k. rw is (record { same = λ j. refl; later = λ j. absurd (false≢true j) }))
