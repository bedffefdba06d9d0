-- The owner for a number: at most one; one for every number from LCVID up where a speculative line lives; and a number sees one word.
-- Assumes nothing.
use mathlib.Core.Path.{◌≡◌, sym, ◌∙◌, ap}
use mathlib.Core.Logic.{◌≢◌, ◌⊎◌, inl, inr}
use mathlib.Core.Bool.{true}
use Prim.Native.Nat.{ℕ, zero, suc, ◌+◌, ◌≤◌, ◌<◌}
use native.Mathlib.Omega.{arith}
use native.Mathlib.Decide.{dec_lt, dec_le}
use Rattle.rules.specs.declared.Line.{Line}
use Rattle.rules.specs.declared.Pos.{Pos}
use Rattle.rules.specs.Data.{Data}
use Rattle.rules.specs.States.{is_so, plain, spec, top, owns, stands}
use Rattle.rules.proofs.base.States.{owns_spec, owns_cases, top_owns, so_owns, so_ranged, top_not_ranged, plain_not_spec, stands_plain, stands_symmetric, top_once}
use Rattle.rules.proofs.base.Lines.{Here, Hits, top_hits, pos_dec}
use Rattle.rules.proofs.address.Sound.{Disjoint, Stand, GoodAt, OwnerAt, Sees, from_owner, from_plain, from_memory, Mark}

-- ---- two lines

pub stand_swap : (p q : Pos) (k l : Line) → Stand p q k l → Stand q p l k
stand_swap p q k l s = record {
  table = t;
  plains = λ h. let (c, e) = s.plains (stands_plain l.state k.state t h) in (λ d. c (sym d), sym e);
  ranges = λ i j. swap (s.ranges j i);
  shares = λ i j e d. s.shares j i (sym e) (sym d);
}
  where
    t : stands l.state k.state ≡ true
    t = stands_symmetric l.state k.state ∙ s.table

    swap : Disjoint k l → Disjoint l k
    swap (inl h) = inr h
    swap (inr h) = inl h

-- no number is in the ranges of both
pub disjoint_hits : {P : Type 0} (a : ℕ) (k l : Line) → Disjoint k l → Hits a k → Hits a l → P
disjoint_hits a k l (inl h) i j = absurd (omega (arith, h.1, i.until (so_ranged k.state h.0), j.from))
disjoint_hits a k l (inr h) i j = absurd (omega (arith, h.1, j.until (so_ranged l.state h.0), i.from))

-- an S-O ends where the newest version starts, or before
pub below_top : (k l : Line) → Disjoint k l → top l.state ≡ true → k.h ≤ l.m
below_top k l (inl h) t = h.1
below_top k l (inr h) t = top_not_ranged l.state t (so_ranged l.state h.0)

module _ {N : ℕ} {f : Pos → Line} {lc x : ℕ} {w : Data} (s : GoodAt N f lc x w) where
  -- ---- at most one owner

  pub owner_once : (a : ℕ) (p q : Pos) → OwnerAt f lc x a p → OwnerAt f lc x a q → p ≡ q
  owner_once a p q P Q = go (pos_dec p q)
    where
      go : Dec (p ≡ q) → p ≡ q
      go (yes e) = e
      go (no n) = disjoint_hits a (f p) (f q) ((s.sound.stand p q n P.here Q.here).ranges P.owning Q.owning) P.hit Q.hit

  -- ---- and one, where a speculative line lives: from the lowest go up

  top_owner : (a : ℕ) (p : Pos) → Here lc x (f p) → top (f p).state ≡ true → (f p).m ≤ a → OwnerAt f lc x a p
  top_owner a p h t l = record { here = h; owning = top_owns (f p).state t; hit = top_hits a (f p) t l }

  -- k bounds the climb
  climb : (k a : ℕ) (p : Pos) → N ≤ (f p).m + k → Here lc x (f p) → owns (f p).state ≡ true → (f p).m ≤ a → (q : Pos) × OwnerAt f lc x a q
  climb zero a p n h o l = go (owns_cases (f p).state o)
    where
      go : (is_so (f p).state ≡ true) ⊎ (top (f p).state ≡ true) → (q : Pos) × OwnerAt f lc x a q
      go (inr t) = (p, top_owner a p h t l)
      go (inl t) = absurd (omega (arith, (s.fits p).closed t))
  climb (suc k) a p n h o l = go (owns_cases (f p).state o) (dec_lt a (f p).h) (λ q. climb k a q)
    where
      go : (is_so (f p).state ≡ true) ⊎ (top (f p).state ≡ true) → Dec (a < (f p).h)
          → ((q : Pos) → N ≤ (f q).m + k → Here lc x (f q) → owns (f q).state ≡ true → (f q).m ≤ a → (q : Pos) × OwnerAt f lc x a q) → (q : Pos) × OwnerAt f lc x a q
      go (inr t) d up = (p, top_owner a p h t l)
      go (inl t) (yes d) up = (p, record { here = h; owning = o; hit = record { is = owns_spec (f p).state o; from = l; until = λ r. d } })
      go (inl t) (no d) up =
          let (q, hq, (oq, e)) = (s.sound.meets p h).next t in
          up q (omega (arith, (s.fits p).closed t)) hq oq (omega arith)

  pub owner_there : (a : ℕ) (p : Pos) → lc ≤ a → Here lc x (f p) → spec (f p).state ≡ true → (q : Pos) × OwnerAt f lc x a q
  owner_there a p l h i =
      let (q, hq, (oq, e)) = (s.sound.meets p h).lowest i in
      climb N a q (omega arith) hq oq (omega arith)

  -- where no owner hits a, every owner starts above it: memory is what a sees
  pub above : (a : ℕ) → ((q : Pos) → OwnerAt f lc x a q → ⊥) → (p : Pos) → Here lc x (f p) → owns (f p).state ≡ true → a < (f p).m
  above a none p h o = go (dec_le (f p).m a)
    where
      go : Dec ((f p).m ≤ a) → a < (f p).m
      go (yes l) = let (q, i) = climb N a p (omega arith) h o l in absurd (none q i)
      go (no l) = omega arith

  -- ---- plain lines

  pub plain_same : (p q : Pos) → Here lc x (f p) → Here lc x (f q) → plain (f p).state ≡ true → (f p).word ≡ (f q).word
  plain_same p q hp hq i = go (pos_dec p q)
    where
      go : Dec (p ≡ q) → (f p).word ≡ (f q).word
      go (yes e) = ap (λ (t : Pos). (f t).word) e
      go (no n) = ((s.sound.stand p q n hp hq).plains i).1

  -- all lines are plain where one is
  pub plain_all : (p q : Pos) → Here lc x (f p) → Here lc x (f q) → plain (f p).state ≡ true → plain (f q).state ≡ true
  plain_all p q hp hq i = go (pos_dec p q)
    where
      go : Dec (p ≡ q) → plain (f q).state ≡ true
      go (yes e) = rw (← e) i
      go (no n) = stands_plain (f p).state (f q).state (s.sound.stand p q n hp hq).table i

  pub plain_alone : {P : Type 0} (p q : Pos) → Here lc x (f p) → Here lc x (f q) → plain (f p).state ≡ true → spec (f q).state ≡ true → P
  plain_alone p q hp hq i j = plain_not_spec (f q).state (plain_all p q hp hq i) j

  -- ---- a number sees one word

  pub sees_one : (a : ℕ) (v u : Data) → Sees f lc x w a v → Sees f lc x w a u → v ≡ u
  sees_one a v u (from_owner p i e) (from_owner q j d) = e ∙ ap (λ (t : Pos). (f t).word) (owner_once a p q i j) ∙ sym d
  sees_one a v u (from_owner p i e) (from_plain q hq j d) = plain_alone q p hq i.here j (owns_spec (f p).state i.owning)
  sees_one a v u (from_owner p i e) (from_memory n d) = absurd (omega (arith, (n p i.here).later i.owning, i.hit.from))
  sees_one a v u (from_plain p hp i e) (from_owner q j d) = plain_alone p q hp j.here i (owns_spec (f q).state j.owning)
  sees_one a v u (from_plain p hp i e) (from_plain q hq j d) = e ∙ plain_same p q hp hq i ∙ sym d
  sees_one a v u (from_plain p hp i e) (from_memory n d) = e ∙ (n p hp).same i ∙ sym d
  sees_one a v u (from_memory n e) (from_owner q j d) = absurd (omega (arith, (n q j.here).later j.owning, j.hit.from))
  sees_one a v u (from_memory n e) (from_plain q hq j d) = e ∙ sym (d ∙ (n q hq).same j)
  sees_one a v u (from_memory n e) (from_memory k d) = e ∙ sym d

  -- ---- the newest version

  pub newest_once : (p q : Pos) → Here lc x (f p) → Here lc x (f q) → top (f p).state ≡ true → top (f q).state ≡ true → p ≡ q
  newest_once p q hp hq i j = go (pos_dec p q)
    where
      go : Dec (p ≡ q) → p ≡ q
      go (yes e) = e
      go (no n) = top_once (f p).state (f q).state (s.sound.stand p q n hp hq).table i j

  -- every mark is on it
  pub mark_on : (o : Pos) → Here lc x (f o) → top (f o).state ≡ true → (b : ℕ) → Mark f lc x b → b ≤ (f o).h
  mark_on o ho t b (p, hp, (i, l)) = rw (newest_once p o hp ho i t) at l

  -- an S-O ends at or below the m of the newest version
  pub so_below : (p o : Pos) → Here lc x (f p) → Here lc x (f o) → is_so (f p).state ≡ true → top (f o).state ≡ true → (f p).h ≤ (f o).m
  so_below p o hp ho i t = below_top (f p) (f o) ((s.sound.stand p o apart hp ho).ranges (so_owns (f p).state i) (top_owns (f o).state t)) t
    where
      apart : p ≢ o
      apart e = top_not_ranged (f o).state t (so_ranged (f o).state (rw e at i))

  -- so what its range holds is marked
  pub mark_range : (b : ℕ) (p : Pos) → Here lc x (f p) → is_so (f p).state ≡ true → b < (f p).h → Mark f lc x b
  mark_range b p hp i l =
      let (o, ho, t) = (s.sound.meets p hp).newest (owns_spec (f p).state (so_owns (f p).state i)) in
      (o, ho, (t, omega (arith, so_below p o hp ho i t, (s.fits o).newest t)))
