-- Commit: LCVID goes up by one and nothing else changes. Numbers from the new LCVID on see what they saw.
-- Assumes nothing.
use mathlib.Core.Path.{◌≡◌, refl}
use mathlib.Core.Bool.{true}
use Prim.Native.Nat.{ℕ, suc, ◌≤◌, ◌<◌}
use native.Mathlib.Omega.{arith}
use native.Mathlib.Decide.{dec_lt}
use Rattle.rules.specs.declared.Line.{Line}
use Rattle.rules.specs.declared.Pos.{Pos}
use Rattle.rules.specs.Data.{Data}
use Rattle.rules.specs.States.{is_o, is_so, ranged, owns}
use Rattle.std.proofs.lemmas.Bool.{both_ways}
use Rattle.rules.proofs.base.Bools.{by_test}
use Rattle.rules.proofs.base.States.{state_never, so_ranged, ss_ranged, owns_ranged, top_not_ranged, plain_not_ranged}
use Rattle.rules.proofs.base.Lines.{Here}
use Rattle.rules.proofs.address.Sound.{There, Low, From, GoodAt, SoundAt, Sees, from_owner, from_plain, from_memory, Mark}
use Rattle.rules.proofs.address.Rebuild.{like_same, Needed, the_o, the_newest, the_next, the_owner, Kept, sound_kept}

module _ {N : ℕ} {f : Pos → Line} {lc x : ℕ} {w : Data} (s : GoodAt N f lc x w) where
  older : (p : Pos) → Here (suc lc) x (f p) → Here lc x (f p)
  older p h = record { alive = record { some = h.alive.some; fresh = λ r. omega (arith, h.alive.fresh r) }; at = h.at }

  -- what ends above the new LCVID lives on
  later : (p : Pos) → Here lc x (f p) → (ranged (f p).state ≡ true → suc lc < (f p).h) → Here (suc lc) x (f p)
  later p h r = record { alive = record { some = h.alive.some; fresh = r }; at = h.at }

  -- what follows an S-O that does not end below the new LCVID lives on
  following : (p : Pos) → Here lc x (f p) → suc lc ≤ (f p).h → is_so (f p).state ≡ true → There f (suc lc) x (From (f p).h)
  following p h l i = let (q, hq, (o, e)) = (s.sound.meets p h).next i in (q, later q hq (λ r. omega (arith, (s.fits q).closed (owns_ranged (f q).state o r))), (o, e))

  kept : Kept 0 f f lc (suc lc) x w w
  kept = record {
    back = λ p h. (older p h, like_same 0 refl);
    stays = λ p q hp hq n. (stays p q hp hq n, like_same 0 refl);
    lows = λ p h i (q, hq, (o, l)). by_test (ranged (f q).state) (λ r. lows q hq o l r (dec_lt (suc lc) (f q).h)) (λ r. (q, later q hq (λ t. absurd (both_ways _ r t)), (o, omega arith)));
    up = λ p h i. omega arith;
    memory = λ p h i. refl;
  }
    where
      stays : (p q : Pos) → Here (suc lc) x (f p) → Here lc x (f q) → Needed lc p (f p) q (f q) → Here (suc lc) x (f q)
      stays p q hp hq (the_o i t) = later q hq (λ r. state_never is_o ranged refl (f q).state t r)
      stays p q hp hq (the_newest i t) = later q hq (λ r. top_not_ranged (f q).state t r)
      stays p q hp hq (the_next i t) = later q hq (λ r. omega (arith, t.1, hp.alive.fresh (so_ranged (f p).state i), (s.fits q).closed (owns_ranged (f q).state t.0 r)))
      stays p q hp hq (the_owner i t) = later q hq (λ r. omega (arith, t.within (owns_ranged (f q).state t.owning r), hp.alive.fresh (ss_ranged (f p).state i)))

      -- an S-O that dies hands on to what follows it
      lows : (q : Pos) → Here lc x (f q) → owns (f q).state ≡ true → (f q).m ≤ lc → ranged (f q).state ≡ true → Dec (suc lc < (f q).h) → There f (suc lc) x (Low (suc lc))
      lows q h o l r (yes d) = (q, later q h (λ t. d), (o, omega arith))
      lows q h o l r (no d) = let (p, hp, (i, e)) = following q h (h.alive.fresh r) (owns_ranged (f q).state o r) in (p, hp, (i, omega arith))

  pub sound_commit : SoundAt f (suc lc) x w
  sound_commit = sound_kept kept s.sound

  pub sees_commit : (b : ℕ) (v : Data) → suc lc ≤ b → Sees f lc x w b v → Sees f (suc lc) x w b v
  sees_commit b v l (from_owner p o e) = from_owner p (record { here = later p o.here (λ r. omega (arith, o.hit.until r)); owning = o.owning; hit = o.hit }) e
  sees_commit b v l (from_plain p h i e) = from_plain p (later p h (λ r. plain_not_ranged (f p).state i r)) i e
  sees_commit b v l (from_memory n e) = from_memory (λ p h. n p (older p h)) e

  pub mark_commit : (b : ℕ) → Mark f lc x b → Mark f (suc lc) x b
  mark_commit b (p, h, (t, j)) = (p, later p h (λ r. top_not_ranged (f p).state t r), (t, j))

  pub mark_before : (b : ℕ) → Mark f (suc lc) x b → Mark f lc x b
  mark_before b (p, h, t) = (p, older p h, t)
