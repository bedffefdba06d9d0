-- The house rules of an address, in document 01's words (specs/House.antt), are soundness at that address as the proofs have it (address/Sound.antt).
-- Assumes nothing.
use mathlib.Core.Path.{◌≡◌, refl, sym, ◌∙◌, ap}
use mathlib.Core.Logic.{◌≢◌, ◌⊎◌, inl, inr}
use mathlib.Core.Bool.{Bool, true, false, ◌&&◌, ◌||◌, not}
use mathlib.Core.List.{List, [], ◌∷◌}
use Prim.Native.Nat.{ℕ, zero, suc, ◌+◌, ◌≤◌, ◌<◌, max}
use native.Mathlib.Omega.{arith}
use lib.Dec.{eqb}
use Rattle.rules.specs.declared.State.{State}
use Rattle.rules.specs.declared.Line.{Line}
use Rattle.rules.specs.declared.Machine.{Machine}
use Rattle.rules.specs.declared.Pos.{Pos}
use Rattle.rules.specs.States.{is_o, is_e, is_s, is_so, is_se, is_ss, plain, spec, top, owns, stands}
use Rattle.rules.specs.Line.{live}
use Rattle.rules.specs.House.{LineRules, Lives, any_state, PlainRules, Join, Among, VersionRules, ShareRules, AddressRules}
use Rattle.rules.specs.Machine.{at, memory_at, any_line}
use Rattle.std.specs.Cmp.Derive.{both_true}
use Rattle.std.proofs.lemmas.Bool.{both_ways, not_from_false}
use Rattle.rules.proofs.base.Bools.{by_test}
use Rattle.rules.proofs.base.Tests.{Decides, is_test, and_test}
use Rattle.rules.proofs.base.States.{state_rule, states_rule, owns_spec, owns_ranged, owns_cases, top_owns, so_owns, so_ranged, stands_plain, stands_symmetric}
use Rattle.rules.proofs.base.Lines.{pos_dec, Here, live_test, here_test, not_here}
use Rattle.rules.proofs.address.Sound.{Disjoint, Stand, OwnedBy, There, IsO, Low, From, Meets, SoundAt, OwnerAt}
use Rattle.rules.proofs.address.Owners.{owner_once, plain_same, newest_once, so_below}
use Rattle.rules.proofs.machines.Places.{any_line_lem}
use Rattle.rules.proofs.machines.Sound.{Sound, good}
use Rattle.rules.proofs.machines.Chain.{Rise, join_within, join_apart, Begins, join_first, join_next, join_holds}

-- ---- live lines of x, in both forms

abbrev HereAt : Machine → ℕ → Pos → Type 0
HereAt μ x p = Here μ.lcvid x (at μ p)

abbrev SomeAt : Machine → ℕ → (Pos → Line → Type 0) → Type 0
SomeAt μ x P = There (at μ) μ.lcvid x P

module _ {μ : Machine} {x : ℕ} where
  lives_here : {k : State → Bool} {p : Pos} → Lives μ x k p → HereAt μ x p
  lives_here {k} {p} l = record { alive = (live_test μ.lcvid (at μ p)).says l.alive; at = l.here }

  here_lives : {p : Pos} → HereAt μ x p → (k : State → Bool) → k (at μ p).state ≡ true → Lives μ x k p
  here_lives {p} h k i = record { alive = (live_test μ.lcvid (at μ p)).when h.alive; here = h.at; kind = i }

-- by cases: there is an O, or there is none
by_o : {P : Type 0} (μ : Machine) (x : ℕ) → (SomeAt μ x IsO → P) → (((q : Pos) → Lives μ x is_o q → ⊥) → P) → P
by_o μ x f g = by_test (any_line test μ) (λ i. let (q, h) = there.says i in f (q, h.0, h.1)) (λ i. g (λ q l. both_ways _ i (there.when (q, (lives_here l, l.kind)))))
  where
    test : Pos → Line → Bool
    test q l = (live μ.lcvid l && eqb l.address x) && is_o l.state

    there : Decides (any_line test μ) ((q : Pos) × (HereAt μ x q × (is_o (at μ q).state ≡ true)))
    there = any_line_lem test (λ q l. Here μ.lcvid x l × IsO q l) μ (λ q l. and_test (here_test μ.lcvid x l) (is_test (is_o l.state))) (λ q h. not_here μ.lcvid x h.0)

-- ---- from the words to soundness: plain lines

-- beside O stands S; a plain line that stands beside another is O or S
o_stands : (s t : State) → stands s t ≡ true → is_o s ≡ true → is_s t ≡ true
o_stands s t h i = states_rule (λ s t. stands s t && is_o s) (λ s t. is_s t) refl s t (both_true h i)

plain_stands : (s t : State) → stands s t ≡ true → plain s ≡ true → is_o s ≡ false → is_s s ≡ true
plain_stands s t h i n = states_rule (λ s t. stands s t && (plain s && not (is_o s))) (λ s t. is_s s) refl s t (both_true h (both_true i (not_from_false _ n)))

module _ {μ : Machine} {x : ℕ} (r : PlainRules μ x) where
  words_two_s : (p q : Pos) → Lives μ x is_s p → Lives μ x is_s q → (at μ p).word ≡ (at μ q).word
  words_two_s p q lp lq =
      by_o μ x (λ (o, ho, io). r.beside p o lp (here_lives ho is_o io) ∙ sym (r.beside q o lq (here_lives ho is_o io)))
      (λ none. r.shared p lp none ∙ sym (r.shared q lq none))

  -- one of the two is O, or both are S
  words_same : (p q : Pos) → HereAt μ x p → HereAt μ x q → stands (at μ p).state (at μ q).state ≡ true → plain (at μ p).state ≡ true → plain (at μ q).state ≡ true
      → (at μ p).word ≡ (at μ q).word
  words_same p q hp hq t i j =
      by_test (is_o (at μ p).state) (λ op. sym (r.beside q p (here_lives hq is_s (o_stands (at μ p).state (at μ q).state t op)) (here_lives hp is_o op)))
      (λ np. let lp = here_lives hp is_s (plain_stands (at μ p).state (at μ q).state t i np) in
      by_test (is_o (at μ q).state) (λ oq. r.beside p q lp (here_lives hq is_o oq))
      (λ nq. words_two_s p q lp (here_lives hq is_s (plain_stands (at μ q).state (at μ p).state (stands_symmetric (at μ q).state (at μ p).state ∙ t) j nq))))

-- ---- from the words to soundness: speculative lines

module _ {N : ℕ} {μ : Machine} {x : ℕ} (fits : (p : Pos) → LineRules N (at μ p)) (r : VersionRules μ x) where
  so_rise : Rise μ r.ranges
  so_rise p a = ((fits p).closed ((r.all p).1 a).kind).0

  -- an S-O ends where the newest version starts, or before
  words_below : (p q : Pos) → HereAt μ x p → HereAt μ x q → is_so (at μ p).state ≡ true → top (at μ q).state ≡ true → (at μ p).h ≤ (at μ q).m
  words_below p q hp hq i t =
      rw (r.newest.only q (here_lives hq top t)) (join_within μ r.lowest _ r.ranges so_rise r.join p ((r.all p).0 (here_lives hp is_so i))).1

  words_ranges : (p q : Pos) → p ≢ q → HereAt μ x p → HereAt μ x q → owns (at μ p).state ≡ true → owns (at μ q).state ≡ true → Disjoint (at μ p) (at μ q)
  words_ranges p q n hp hq i j = go (owns_cases (at μ p).state i) (owns_cases (at μ q).state j)
    where
      two_so : is_so (at μ p).state ≡ true → is_so (at μ q).state ≡ true → ((at μ p).h ≤ (at μ q).m) ⊎ ((at μ q).h ≤ (at μ p).m) → Disjoint (at μ p) (at μ q)
      two_so i j (inl l) = inl (i, l)
      two_so i j (inr l) = inr (j, l)

      go : (is_so (at μ p).state ≡ true) ⊎ (top (at μ p).state ≡ true) → (is_so (at μ q).state ≡ true) ⊎ (top (at μ q).state ≡ true) → Disjoint (at μ p) (at μ q)
      go (inl i) (inl j) = two_so i j (join_apart μ r.lowest _ r.ranges so_rise r.join p q n ((r.all p).0 (here_lives hp is_so i)) ((r.all q).0 (here_lives hq is_so j)))
      go (inl i) (inr j) = inl (i, words_below p q hp hq i j)
      go (inr i) (inl j) = inr (j, words_below q p hq hp j i)
      go (inr i) (inr j) = absurd (n (r.newest.only p (here_lives hp top i) ∙ sym (r.newest.only q (here_lives hq top j))))

module _ {μ : Machine} {x : ℕ} (r : VersionRules μ x) where
  -- the S-O or the newest version that starts at b
  words_from : (b : ℕ) → Begins μ r.ranges (at μ r.newest.place).m b → SomeAt μ x (From b)
  words_from b (inl (q, a, e)) = let l = (r.all q).1 a in (q, lives_here l, (so_owns (at μ q).state l.kind, e))
  words_from b (inr e) = let l = r.newest.holds in (r.newest.place, lives_here l, (top_owns (at μ r.newest.place).state l.kind, sym e))

  words_lowest : SomeAt μ x (Low μ.lcvid)
  words_lowest = let (q, h, (o, e)) = words_from r.lowest (join_first μ r.lowest _ r.ranges r.join) in (q, h, (o, omega (arith, r.low)))

  words_next : (p : Pos) → Lives μ x is_so p → SomeAt μ x (From (at μ p).h)
  words_next p l = words_from (at μ p).h (join_next μ r.lowest _ r.ranges r.join p ((r.all p).0 l))

  -- "S-E equals memory"
  words_clean : (p : Pos) → HereAt μ x p → is_se (at μ p).state ≡ true → (at μ p).word ≡ memory_at μ x
  words_clean p h i =
      let e = r.newest.only p (here_lives h top (state_rule is_se top refl (at μ p).state i)) in
      rw e (r.clean (rw e at (here_lives h is_se i)))

words_owner : {μ : Machine} {x : ℕ} {p : Pos} → ShareRules μ x p → SomeAt μ x (OwnedBy μ.lcvid p (at μ p))
words_owner r =
    let (l, e) = r.owner.holds in
    (r.owner.place, lives_here l, record { owning = l.kind; same_m = e; away = r.away; same_word = r.same; reach = r.reach; within = r.within })

-- ---- from the words to soundness: all lines

pub words_sound : (N : ℕ) (μ : Machine) → ((p : Pos) → LineRules N (at μ p)) → (x : ℕ) → AddressRules μ x → SoundAt (at μ) μ.lcvid x (memory_at μ x)
words_sound N μ fits x r = record { stand = stand; meets = meets }
  where
    versions : (p : Pos) → HereAt μ x p → spec (at μ p).state ≡ true → VersionRules μ x
    versions p h i = r.versions p (here_lives h spec i)

    stand : (p q : Pos) → p ≢ q → HereAt μ x p → HereAt μ x q → Stand p q (at μ p) (at μ q)
    stand p q n hp hq =
        let t = r.table p q n (here_lives hp any_state refl) (here_lives hq any_state refl) in
        record {
          table = t;
          plains =
              λ i. let j = stands_plain (at μ p).state (at μ q).state t i in
              (r.plains.apart p q n (here_lives hp plain i) (here_lives hq plain j), words_same r.plains p q hp hq t i j);
          ranges = λ i j. words_ranges fits (versions p hp (owns_spec (at μ p).state i)) p q n hp hq i j;
          shares = λ i j e d. n ((r.shares q (here_lives hq is_ss j)).single p (here_lives hp is_ss i) e d);
        }

    meets : (p : Pos) → HereAt μ x p → Meets (at μ) μ.lcvid x (memory_at μ x) p (at μ p)
    meets p h = record {
      clean = λ i. by_test (is_e (at μ p).state) (λ e. r.plains.clean p (here_lives h is_e e))
          (λ e. let z : is_se (at μ p).state ≡ true = simp e at i in words_clean (versions p h (state_rule is_se spec refl (at μ p).state z)) p h z);
      shared = λ i. by_o μ x inr (λ none. inl (r.plains.shared p (here_lives h is_s i) none));
      newest = λ i. let n = (versions p h i).newest in (n.place, lives_here n.holds, n.holds.kind);
      lowest = λ i. words_lowest (versions p h i);
      next = λ i. words_next (versions p h (state_rule is_so spec refl (at μ p).state i)) p (here_lives h is_so i);
      owner = λ i. words_owner (r.shares p (here_lives h is_ss i));
    }

-- ---- from soundness to the words

module _ {N : ℕ} {μ : Machine} (s : Sound N μ) (x : ℕ) where
  sound_plains : PlainRules μ x
  sound_plains = record {
    apart = λ p q n lp lq. (((s.each x).stand p q n (lives_here lp) (lives_here lq)).plains lp.kind).0;
    clean = λ p l. ((s.each x).meets p (lives_here l)).clean (state_rule is_e (λ s. is_e s || is_se s) refl (at μ p).state l.kind);
    shared = λ p l none. shared none (((s.each x).meets p (lives_here l)).shared l.kind);
    beside = λ p q lp lq. plain_same (good s x) p q (lives_here lp) (lives_here lq) (state_rule is_s plain refl (at μ p).state lp.kind);
  }
    where
      shared : {P : Type 0} → ((q : Pos) → Lives μ x is_o q → ⊥) → P ⊎ SomeAt μ x IsO → P
      shared none (inl e) = e
      shared none (inr (q, h, i)) = absurd (none q (here_lives h is_o i))

  -- a live owner hits from its m on, an S-O up to its h
  owner_at : (a : ℕ) (q : Pos) → HereAt μ x q → owns (at μ q).state ≡ true → (at μ q).m ≤ a → (is_so (at μ q).state ≡ true → a < (at μ q).h) → OwnerAt (at μ) μ.lcvid x a q
  owner_at a q h o l u = record { here = h; owning = o; hit = record { is = owns_spec (at μ q).state o; from = l; until = λ t. u (owns_ranged (at μ q).state o t) } }

  -- so one owner starts at b
  from_once : (b : ℕ) (p q : Pos) → HereAt μ x p → HereAt μ x q → From b p (at μ p) → From b q (at μ q) → p ≡ q
  from_once b p q hp hq (i, e) (j, d) =
      owner_once (good s x) b p q (owner_at b p hp i (omega arith) (λ t. omega (arith, (s.fits p).closed t))) (owner_at b q hq j (omega arith) (λ t. omega (arith, (s.fits q).closed t)))

  -- live S-O lines whose ranges join from b to e
  abbrev Ranges : ℕ → ℕ → Type 0
  Ranges b e = (ps : List Pos) × Join μ b ps e × ((q : Pos) → Among q ps → Lives μ x is_so q)

  module _ (o : Pos) (ho : HereAt μ x o) (to : top (at μ o).state ≡ true) where
    -- from an owner p up to the newest version o
    ranges_step : (p : Pos) → HereAt μ x p → owns (at μ p).state ≡ true → (is_so (at μ p).state ≡ true → Ranges (at μ p).h (at μ o).m) → Ranges (at μ p).m (at μ o).m
    ranges_step p h i up = go (owns_cases (at μ p).state i)
      where
        among : (ps : List Pos) → is_so (at μ p).state ≡ true → ((q : Pos) → Among q ps → Lives μ x is_so q) → (q : Pos) → Among q (p ∷ ps) → Lives μ x is_so q
        among ps j l q (inl e) = rw e (here_lives h is_so j)
        among ps j l q (inr a) = l q a

        go : (is_so (at μ p).state ≡ true) ⊎ (top (at μ p).state ≡ true) → Ranges (at μ p).m (at μ o).m
        go (inl j) = let (ps, c, l) = up j in (p ∷ ps, (refl, c), among ps j l)
        go (inr j) = ([], ap (λ (q : Pos). (at μ q).m) (newest_once (good s x) p o h ho j to), λ q a. absurd a)

    -- k bounds the climb
    ranges_up : (k : ℕ) (p : Pos) → N ≤ (at μ p).m + k → HereAt μ x p → owns (at μ p).state ≡ true → Ranges (at μ p).m (at μ o).m
    ranges_up zero p n h i = ranges_step p h i (λ j. absurd (omega (arith, (s.fits p).closed j)))
    ranges_up (suc k) p n h i =
        ranges_step p h i
        (λ j. let (q, hq, (iq, e)) = ((s.each x).meets p h).next j in rw (← e) (ranges_up k q (omega (arith, (s.fits p).closed j)) hq iq))

    -- every live S-O is one of them: the first number from LCVID on that hits it hits one of them
    ranges_all : (b : ℕ) (ps : List Pos) → b ≤ μ.lcvid → Join μ b ps (at μ o).m → ((q : Pos) → Among q ps → Lives μ x is_so q) → (q : Pos) → Lives μ x is_so q → Among q ps
    ranges_all b ps low j lives q l =
        let (t, c, i, k) = join_holds μ b (at μ o).m a ps j (omega arith) (omega (arith, hit, so_below (good s x) q o (lives_here l) ho l.kind to)) in
        rw (same t (lives t c) i k) c
      where
        a : ℕ
        a = max (at μ q).m μ.lcvid

        hit : a < (at μ q).h
        hit = omega (arith, (s.fits q).closed l.kind, (lives_here l).alive.fresh (so_ranged (at μ q).state l.kind))

        so_at : (t : Pos) → Lives μ x is_so t → (at μ t).m ≤ a → a < (at μ t).h → OwnerAt (at μ) μ.lcvid x a t
        so_at t l i k = owner_at a t (lives_here l) (so_owns (at μ t).state l.kind) i (λ j. k)

        same : (t : Pos) → Lives μ x is_so t → (at μ t).m ≤ a → a < (at μ t).h → q ≡ t
        same t lt i k = owner_once (good s x) a q t (so_at q l (omega arith) hit) (so_at t lt i k)

  sound_versions : (p : Pos) → HereAt μ x p → spec (at μ p).state ≡ true → VersionRules μ x
  sound_versions p h i =
      let (o, ho, t) = ((s.each x).meets p h).newest i in
      let (q, hq, (oq, low)) = ((s.each x).meets p h).lowest i in
      let (ps, j, lives) = ranges_up o ho t N q (omega arith) hq oq in
      record {
        newest = record { place = o; holds = here_lives ho top t; only = λ r l. newest_once (good s x) r o (lives_here l) ho l.kind t };
        clean = λ l. ((s.each x).meets o ho).clean (state_rule is_se (λ s. is_e s || is_se s) refl (at μ o).state l.kind);
        ranges = ps;
        all = λ r. (ranges_all o ho t (at μ q).m ps low j lives r, lives r);
        lowest = (at μ q).m;
        join = j;
        low = low;
      }

  sound_single : (p q : Pos) → Lives μ x is_ss p → Lives μ x is_ss q → q.cache ≡ p.cache → (at μ q).m ≡ (at μ p).m → q ≡ p
  sound_single p q lp lq c e = go (pos_dec q p)
    where
      go : Dec (q ≡ p) → q ≡ p
      go (yes d) = d
      go (no n) = absurd (((s.each x).stand q p n (lives_here lq) (lives_here lp)).shares lq.kind lp.kind c e)

  sound_shares : (p : Pos) → Lives μ x is_ss p → ShareRules μ x p
  sound_shares p l =
      let (q, hq, o) = ((s.each x).meets p (lives_here l)).owner l.kind in
      record {
        owner =
            record {
              place = q;
              holds = (here_lives hq owns o.owning, o.same_m);
              only = λ t (lt, e). from_once (at μ p).m t q (lives_here lt) hq (lt.kind, e) (o.owning, o.same_m);
            };
        away = o.away;
        same = o.same_word;
        reach = o.reach;
        within = o.within;
        single = λ q. sound_single p q l;
      }

pub sound_words : (N : ℕ) (μ : Machine) → Sound N μ → (x : ℕ) → AddressRules μ x
sound_words N μ s x = record {
  table = λ p q n lp lq. ((s.each x).stand p q n (lives_here lp) (lives_here lq)).table;
  plains = sound_plains s x;
  versions = λ p l. sound_versions s x p (lives_here l) l.kind;
  shares = sound_shares s x;
}
