-- Soundness rebuilt: where lines stay, go or have their h raised; where one line is added; where one line is left.
-- Assumes nothing.
use mathlib.Core.Path.{◌≡◌, refl, sym, ◌∙◌, subst, subst₂}
use mathlib.Core.Logic.{◌≢◌, ◌⊎◌, inl, inr}
use mathlib.Core.Bool.{Bool, true, false, ◌&&◌, ◌||◌, not}
use Prim.Native.Nat.{ℕ, ◌≤◌, max}
use native.Mathlib.Omega.{arith}
use native.Mathlib.Decide.{dec_le}
use Rattle.rules.specs.declared.State.{State}
use Rattle.rules.specs.declared.Line.{Line}
use Rattle.rules.specs.declared.Pos.{Pos}
use Rattle.rules.specs.Data.{Data}
use Rattle.rules.specs.States.{is_i, is_o, is_e, is_s, is_so, is_se, is_ss, plain, spec, ranged, top, owns, stands}
use Rattle.std.specs.Cmp.Derive.{both_true}
use Rattle.std.proofs.lemmas.Bool.{both_ways, not_from_false}
use Rattle.rules.proofs.base.States.{state_rule, so_ranged, ss_ranged}
use Rattle.rules.proofs.base.Lines.{Here, pos_dec}
use Rattle.rules.proofs.address.Sound.{Disjoint, Stand, OwnedBy, There, IsO, Top, Low, From, Meets, SoundAt, OwnerAt, Sees, from_owner, from_plain, from_memory, Mark, KeepsAt}
use Rattle.rules.proofs.address.Owners.{stand_swap}

-- ---- l is k, but for an h of S-M or S-E that was raised to a

pub record Like (a : ℕ) (k l : Line) : Type 0 where
  pub state : l.state ≡ k.state
  pub same_m : l.m ≡ k.m
  pub word : l.word ≡ k.word
  pub more : k.h ≤ l.h
  pub most : l.h ≤ max k.h a
  pub end : ranged k.state ≡ true → l.h ≡ k.h

pub like_same : (a : ℕ) {k l : Line} → l ≡ k → Like a k l
like_same a {k} {l} e = rw e (record { state = refl; same_m = refl; word = refl; more = omega arith; most = omega arith; end = λ r. refl })

module _ {a : ℕ} {k l : Line} (L : Like a k l) where
  pub was : (t : State → Bool) → t l.state ≡ true → t k.state ≡ true
  was t h = subst (λ (s : State). t s ≡ true) L.state h

  pub still : (t : State → Bool) → t k.state ≡ true → t l.state ≡ true
  still t h = subst (λ (s : State). t s ≡ true) (sym L.state) h

pub stand_like : {a : ℕ} (p q : Pos) {k k' l l' : Line} → Like a k k' → Like a l l' → Stand p q k l → Stand p q k' l'
stand_like p q {k} {k'} {l} {l'} K L s = record {
  table = subst₂ (λ (s t : State). stands s t ≡ true) (sym K.state) (sym L.state) s.table;
  plains = λ i. let (c, e) = s.plains (was K plain i) in (c, K.word ∙ e ∙ sym L.word);
  ranges = λ i j. go (s.ranges (was K owns i) (was L owns j));
  shares = λ i j e d. s.shares (was K is_ss i) (was L is_ss j) e (sym K.same_m ∙ d ∙ L.same_m);
}
  where
    go : Disjoint k l → Disjoint k' l'
    go (inl (i, h)) = inl (still K is_so i, omega (arith, h, K.end (so_ranged k.state i), L.same_m))
    go (inr (i, h)) = inr (still L is_so i, omega (arith, h, L.end (so_ranged l.state i), K.same_m))

pub owned_like : {a lc lc' : ℕ} {p q : Pos} {k k' l l' : Line} → lc ≤ lc' → is_ss k.state ≡ true → Like a k k' → Like a l l' → OwnedBy lc p k q l → OwnedBy lc' p k' q l'
owned_like {k = k} {l = l} up i K L o = record {
  owning = still L owns o.owning;
  same_m = L.same_m ∙ o.same_m ∙ sym K.same_m;
  away = o.away;
  same_word = L.word ∙ o.same_word ∙ sym K.word;
  reach = omega (arith, o.reach, L.more, K.end (ss_ranged k.state i));
  within = λ j. let t = was L is_so j in omega (arith, o.within t, L.end (so_ranged l.state t), K.end (ss_ranged k.state i));
}

-- a live line stays one
pub like_here : {a lc x : ℕ} {k l : Line} → Like a k l → l.address ≡ x → Here lc x k → Here lc x l
like_here L e h =
    record {
      alive = record {
        some = subst (λ (s : State). is_i s ≡ false) (sym L.state) h.alive.some;
        fresh = λ r. let i = was L ranged r in omega (arith, h.alive.fresh i, L.end i);
      };
      at = e;
    }

-- an owner stays one
pub owner_like : {a b lc x : ℕ} {f g : Pos → Line} {p : Pos} → Like a (f p) (g p) → Here lc x (g p) → OwnerAt f lc x b p → OwnerAt g lc x b p
owner_like L h o = record {
  here = h;
  owning = still L owns o.owning;
  hit = record { is = still L spec o.hit.is; from = omega (arith, o.hit.from, L.same_m); until = λ r. let i = was L ranged r in omega (arith, o.hit.until i, L.end i) };
}

-- ---- lines stay or go, and none that stays needs one that goes; LCVID and memory's word may change

-- the line k at p needs the line l at q
pub data Needed (lc : ℕ) (p : Pos) (k : Line) (q : Pos) (l : Line) : Type 0 where
  the_o : is_s k.state ≡ true → IsO q l → Needed lc p k q l
  the_newest : spec k.state ≡ true → Top q l → Needed lc p k q l
  the_next : is_so k.state ≡ true → From k.h q l → Needed lc p k q l
  the_owner : is_ss k.state ≡ true → OwnedBy lc p k q l → Needed lc p k q l

-- what equals memory
abbrev pub clean : State → Bool
clean s = is_e s || (is_s s || is_se s)

pub record Kept (a : ℕ) (f g : Pos → Line) (lc lc' x : ℕ) (w u : Data) : Type 0 where
  pub back : (p : Pos) → Here lc' x (g p) → Here lc x (f p) × Like a (f p) (g p)
  pub stays : (p q : Pos) → Here lc' x (g p) → Here lc x (f q) → Needed lc p (f p) q (f q) → Here lc' x (g q) × Like a (f q) (g q)
  pub lows : (p : Pos) → Here lc' x (g p) → spec (f p).state ≡ true → There f lc x (Low lc) → There g lc' x (Low lc')
  pub up : (p : Pos) → Here lc' x (g p) → spec (f p).state ≡ true → lc ≤ lc'
  pub memory : (p : Pos) → Here lc' x (g p) → clean (f p).state ≡ true → w ≡ u

module _ {a : ℕ} {f g : Pos → Line} {lc lc' x : ℕ} {w u : Data} (K : Kept a f g lc lc' x w u) (s : SoundAt f lc x w) where
  meets : (p : Pos) → Here lc' x (g p) → Meets g lc' x u p (g p)
  meets p h = record {
    clean = λ i. L.word ∙ m.clean (was L (λ s. is_e s || is_se s) i) ∙ K.memory p h (state_rule (λ s. is_e s || is_se s) clean refl (f p).state (was L (λ s. is_e s || is_se s) i));
    shared = λ i. beside (was L is_s i) (m.shared (was L is_s i));
    newest = λ i. let (q, hq, t) = m.newest (was L spec i) in let (h', Q) = K.stays p q h hq (the_newest (was L spec i) t) in (q, h', still Q top t);
    lowest = λ i. K.lows p h (was L spec i) (m.lowest (was L spec i));
    next = λ i.
        let j = was L is_so i in let (q, hq, (o, e)) = m.next j in let (h', Q) = K.stays p q h hq (the_next j (o, e)) in
        (q, h', (still Q owns o, Q.same_m ∙ e ∙ sym (L.end (so_ranged (f p).state j))));
    owner = λ i.
        let j = was L is_ss i in let (q, hq, o) = m.owner j in let (h', Q) = K.stays p q h hq (the_owner j o) in
        (q, h', owned_like (K.up p h (state_rule is_ss spec refl (f p).state j)) j L Q o);
  }
    where
      L : Like a (f p) (g p)
      L = (K.back p h).1

      m : Meets f lc x w p (f p)
      m = s.meets p (K.back p h).0

      beside : is_s (f p).state ≡ true → ((f p).word ≡ w) ⊎ There f lc x IsO → ((g p).word ≡ u) ⊎ There g lc' x IsO
      beside i (inl e) = inl (L.word ∙ e ∙ K.memory p h (state_rule is_s clean refl (f p).state i))
      beside i (inr (q, hq, o)) = let (h', Q) = K.stays p q h hq (the_o i o) in inr (q, h', still Q is_o o)

  pub sound_kept : SoundAt g lc' x u
  sound_kept = record {
    stand = λ p q n hp hq. let (i, P) = K.back p hp in let (j, Q) = K.back q hq in stand_like p q P Q (s.stand p q n i j);
    meets = meets;
  }

-- ---- every live line stays

pub record SameAt (a : ℕ) (f g : Pos → Line) (lc x : ℕ) : Type 0 where
  pub there : (p : Pos) → Here lc x (f p) → Here lc x (g p) × Like a (f p) (g p)
  pub back : (p : Pos) → Here lc x (g p) → Here lc x (f p) × Like a (f p) (g p)

module _ {a : ℕ} {f g : Pos → Line} {lc x : ℕ} (same : SameAt a f g lc x) where
  sees_same : {w : Data} (b : ℕ) (v : Data) → Sees f lc x w b v → Sees g lc x w b v
  sees_same b v (from_owner p o e) = let (h, L) = same.there p o.here in from_owner p (owner_like L h o) (e ∙ sym L.word)
  sees_same b v (from_plain p h i e) = let (h', L) = same.there p h in from_plain p h' (still L plain i) (e ∙ sym L.word)
  sees_same b v (from_memory n e) =
      from_memory (λ p h. let (i, L) = same.back p h in record {
        same = λ c. L.word ∙ (n p i).same (was L plain c);
        later = λ o. omega (arith, (n p i).later (was L owns o), L.same_m);
      }) e

  pub mark_same : (b : ℕ) → Mark f lc x b → Mark g lc x b
  mark_same b (p, h, (t, i)) = let (h', L) = same.there p h in (p, h', (still L top t, omega (arith, i, L.more)))

  pub mark_made : (b : ℕ) → Mark g lc x b → Mark f lc x b ⊎ (b ≤ a)
  mark_made b (p, h, (t, i)) = let (h', L) = same.back p h in go h' L (dec_le b (f p).h)
    where
      go : Here lc x (f p) → Like a (f p) (g p) → Dec (b ≤ (f p).h) → Mark f lc x b ⊎ (b ≤ a)
      go h' L (yes j) = inl (p, h', (was L top t, j))
      go h' L (no j) = inr (omega (arith, i, L.most))

  pub keeps_same : {w : Data} → SoundAt f lc x w → KeepsAt f g lc x a w w
  keeps_same {w} s = record {
    sound = sound_kept kept s;
    sees = λ b v i. sees_same b v;
    keeps = λ b i. mark_same b;
    made = λ b i. mark_made b;
  }
    where
      kept : Kept a f g lc lc x w w
      kept = record {
        back = same.back;
        stays = λ p q hp hq n. same.there q hq;
        lows = λ p h i (q, hq, (o, l)). let (h', L) = same.there q hq in (q, h', (still L owns o, omega (arith, l, L.same_m)));
        up = λ p h i. omega arith;
        memory = λ p h i. refl;
      }

-- ---- one line more, at n: the pairs with it, beside the pairs without it

pub pairs_with : (g : Pos → Line) (lc x : ℕ) (n : Pos) → ((p q : Pos) → p ≢ q → p ≢ n → q ≢ n → Here lc x (g p) → Here lc x (g q) → Stand p q (g p) (g q))
    → ((q : Pos) → q ≢ n → Here lc x (g q) → Stand n q (g n) (g q)) → (p q : Pos) → p ≢ q → Here lc x (g p) → Here lc x (g q) → Stand p q (g p) (g q)
pairs_with g lc x n old new p q d hp hq = go (pos_dec p n) (pos_dec q n)
  where
    go : Dec (p ≡ n) → Dec (q ≡ n) → Stand p q (g p) (g q)
    go (yes e) (yes c) = absurd (d (e ∙ sym c))
    go (yes e) (no c) = rw e (new q c hq)
    go (no e) (yes c) = rw c (stand_swap n p (g n) (g p) (new p e hp))
    go (no e) (no c) = old p q d e c hp hq

-- ---- one line alone

-- it is no S-O or S-S; what should equals memory; a speculative one starts at or below LCVID
pub record Lone (lc : ℕ) (w : Data) (l : Line) : Type 0 where
  pub whole : ranged l.state ≡ false
  pub equal : clean l.state ≡ true → l.word ≡ w
  pub covers : spec l.state ≡ true → l.m ≤ lc

pub sound_lone : {g : Pos → Line} {lc x : ℕ} {w : Data} (o : Pos) → ((q : Pos) → Here lc x (g q) → q ≡ o) → Lone lc w (g o) → SoundAt g lc x w
sound_lone {g} {lc} {x} {w} o only l = record { stand = λ p q n hp hq. absurd (n (only p hp ∙ sym (only q hq))); meets = λ p h. rw (only p h) (meets_o (rw (only p h) at h)) }
  where
    is_top : spec (g o).state ≡ true → top (g o).state ≡ true
    is_top i = state_rule (λ s. spec s && not (ranged s)) top refl (g o).state (both_true i (not_from_false _ l.whole))

    meets_o : Here lc x (g o) → Meets g lc x w o (g o)
    meets_o h = record {
      clean = λ i. l.equal (state_rule (λ s. is_e s || is_se s) clean refl (g o).state i);
      shared = λ i. inl (l.equal (state_rule is_s clean refl (g o).state i));
      newest = λ i. (o, h, is_top i);
      lowest = λ i. (o, h, (state_rule top owns refl (g o).state (is_top i), l.covers i));
      next = λ i. absurd (both_ways _ l.whole (so_ranged (g o).state i));
      owner = λ i. absurd (both_ways _ l.whole (ss_ranged (g o).state i));
    }

-- no line is sound
pub sound_none : {g : Pos → Line} {lc x : ℕ} {w : Data} → ((p : Pos) → Here lc x (g p) → ⊥) → SoundAt g lc x w
sound_none n = record { stand = λ p q d hp hq. absurd (n p hp); meets = λ p h. absurd (n p h) }
