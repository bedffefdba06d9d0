-- Lines: dead, live, hits and owner as propositions, each decided by its test.
-- Assumes nothing.
use mathlib.Core.Path.{◌≡◌, refl}
use mathlib.Core.Bool.{Bool, true, false, ◌&&◌, ◌||◌, not, true≢false}
use Prim.Native.Nat.{ℕ, ◌≤◌, ◌<◌}
use native.Mathlib.Omega.{arith}
use native.Mathlib.Decide.{ℕ_discrete}
use lib.Dec.{ltb, leb, eqb}
use borrow.Author.Tests.{ltb-true, lt-ltb, leb-true, leb-false, le-leb, lt-leb}
use Rattle.rules.specs.declared.Line.{Line}
use Rattle.rules.specs.declared.Pos.{Pos}
use Rattle.rules.specs.States.{is_i, is_ss, plain, spec, ranged, top, owns}
use Rattle.rules.specs.Line.{empty, dead, live, hits, is_owner, is_plain, is_share}
use Rattle.std.specs.Cmp.Derive.{both_true}
use Rattle.std.proofs.lemmas.Bool.{and_parts, both_ways, not_from_false}
use Rattle.rules.proofs.base.Bools.{by_test}
use Rattle.rules.proofs.base.Tests.{Decides, is_test, eq_test, and_test, as_test}
use Rattle.rules.proofs.base.States.{state_rule, state_not, top_spec, top_not_ranged, plain_not_ranged}

pub pos_dec : (p q : Pos) → Dec (p ≡ q)
pos_dec p q = go (ℕ_discrete p.cache q.cache) (ℕ_discrete p.slot q.slot)
  where
    go : Dec (p.cache ≡ q.cache) → Dec (p.slot ≡ q.slot) → Dec (p ≡ q)
    go (yes e) (yes d) = yes (λ i. record { cache = e i; slot = d i })
    go (yes e) (no d) = no (λ r. d (λ i. (r i).slot))
    go (no e) d = no (λ r. e (λ i. (r i).cache))

-- ---- live lines

pub record Live (lc : ℕ) (l : Line) : Type 0 where
  pub some : is_i l.state ≡ false
  pub fresh : ranged l.state ≡ true → lc < l.h

pub live_test : (lc : ℕ) (l : Line) → Decides (live lc l) (Live lc l)
unfolding live dead
live_test lc l = record { says = go (is_i l.state) refl (ranged l.state) refl (leb l.h lc) refl; when = λ h. rw h.some (when (ranged l.state) refl h) }
  where
    go : (a : Bool) → is_i l.state ≡ a → (b : Bool) → ranged l.state ≡ b → (c : Bool) → leb l.h lc ≡ c → (not a && not (b && c)) ≡ true → Live lc l
    go true p b q c r h = absurd (both_ways _ refl h)
    go false p true q true r h = absurd (both_ways _ refl h)
    go false p true q false r h = record { some = p; fresh = λ t. leb-false l.h lc r }
    go false p false q c r h = record { some = p; fresh = λ t. absurd (both_ways _ q t) }

    when : (b : Bool) → ranged l.state ≡ b → Live lc l → not (b && leb l.h lc) ≡ true
    when true q h = rw (lt-leb l.h lc (h.fresh q))
    when false q h = refl

-- a live line of address x
pub record Here (lc x : ℕ) (l : Line) : Type 0 where
  pub alive : Live lc l
  pub at : l.address ≡ x

pub here_test : (lc x : ℕ) (l : Line) → Decides (live lc l && eqb l.address x) (Here lc x l)
here_test lc x l = as_test (and_test (live_test lc l) (eq_test l.address x)) (λ h. record { alive = h.0; at = h.1 }) (λ h. (h.alive, h.at))

pub not_here : {P : Type 0} (lc x : ℕ) → Here lc x empty → P
not_here lc x h = absurd (true≢false h.alive.some)

-- a line that is not S-O or S-S lives under every LCVID
pub whole_here : (lc x : ℕ) (l : Line) → is_i l.state ≡ false → ranged l.state ≡ false → l.address ≡ x → Here lc x l
whole_here lc x l i r e = record { alive = record { some = i; fresh = λ t. absurd (both_ways _ r t) }; at = e }

-- ---- hits

pub record Hits (a : ℕ) (l : Line) : Type 0 where
  pub is : spec l.state ≡ true
  pub from : l.m ≤ a
  pub until : ranged l.state ≡ true → a < l.h

pub hits_test : (a : ℕ) (l : Line) → Decides (hits a l) (Hits a l)
unfolding hits
hits_test a l =
    record {
      says = λ h. says (leb-true l.m a ((and_parts (leb l.m a) _ h).0)) ((and_parts (leb l.m a) (top l.state || (ranged l.state && ltb a l.h)) h).1);
      when = λ h. both_true (le-leb l.m a h.from) (when h);
    }
  where
    says : l.m ≤ a → (top l.state || (ranged l.state && ltb a l.h)) ≡ true → Hits a l
    says f h =
        by_test (top l.state) (λ t. record { is = top_spec l.state t; from = f; until = λ r. top_not_ranged l.state t r })
        (λ t. let k : (ranged l.state && ltb a l.h) ≡ true = simp t at h in
        record {
          is = state_rule ranged spec refl l.state ((and_parts (ranged l.state) (ltb a l.h) k).0);
          from = f;
          until = λ r. ltb-true a l.h ((and_parts (ranged l.state) (ltb a l.h) k).1);
        })

    when : Hits a l → (top l.state || (ranged l.state && ltb a l.h)) ≡ true
    when h =
        by_test (top l.state) (λ t. rw t)
        (λ t. let r = state_rule (λ s. spec s && not (top s)) ranged refl l.state (both_true h.is (not_from_false _ t)) in rw (t, r) (lt-ltb a l.h (h.until r)))

-- a newest version is hit from its m on
pub top_hits : (a : ℕ) (l : Line) → top l.state ≡ true → l.m ≤ a → Hits a l
top_hits a l t f = record { is = top_spec l.state t; from = f; until = λ r. top_not_ranged l.state t r }

-- "Dead ... It never hits": no number from LCVID on hits a dead line
pub dead_misses : (lc a : ℕ) (l : Line) → lc ≤ a → dead lc l ≡ true → hits a l ≡ false
unfolding dead
dead_misses lc a l i d =
    by_test (hits a l)
    (λ h. absurd (let r = (and_parts (ranged l.state) (leb l.h lc) d).0 in omega (arith, ((hits_test a l).says h).until r, leb-true l.h lc ((and_parts (ranged l.state) (leb l.h lc) d).1))))
    (λ h. h)

-- ---- the owner, a plain line and an S-S line of address x

pub record Owner (x a : ℕ) (l : Line) : Type 0 where
  pub owning : owns l.state ≡ true
  pub at : l.address ≡ x
  pub hit : Hits a l

pub owner_test : (x a : ℕ) (l : Line) → Decides (is_owner x a l) (Owner x a l)
unfolding is_owner
owner_test x a l =
    as_test (and_test (is_test (owns l.state)) (and_test (eq_test l.address x) (hits_test a l))) (λ h. record { owning = h.0; at = h.1.0; hit = h.1.1 })
    (λ h. (h.owning, (h.at, h.hit)))

-- it lives, as a is not below LCVID
pub owner_here : (lc x a : ℕ) (l : Line) → lc ≤ a → Owner x a l → Here lc x l
owner_here lc x a l i o = record { alive = record { some = state_not owns is_i refl l.state o.owning; fresh = λ r. omega (arith, o.hit.until r) }; at = o.at }

pub plain_test : (x : ℕ) (l : Line) → Decides (is_plain x l) ((plain l.state ≡ true) × (l.address ≡ x))
unfolding is_plain
plain_test x l = and_test (is_test (plain l.state)) (eq_test l.address x)

pub plain_here : (lc x : ℕ) (l : Line) → plain l.state ≡ true → l.address ≡ x → Here lc x l
plain_here lc x l p e = record { alive = record { some = state_not plain is_i refl l.state p; fresh = λ r. plain_not_ranged l.state p r }; at = e }

pub share_test : (x m : ℕ) (l : Line) → Decides (is_share x m l) ((is_ss l.state ≡ true) × ((l.address ≡ x) × (l.m ≡ m)))
unfolding is_share
share_test x m l = and_test (is_test (is_ss l.state)) (and_test (eq_test l.address x) (eq_test l.m m))
