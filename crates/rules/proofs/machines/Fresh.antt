-- A fresh machine is sound, and every number sees the words given.
-- Assumes nothing.
use mathlib.Core.Path.{◌≡◌, refl}
use mathlib.Core.List.{List}
use Prim.Native.Nat.{ℕ, zero, suc, ◌≤◌}
use native.Mathlib.Omega.{arith}
use lib.ListN.{length, get_or, replicate}
use Rattle.rules.specs.declared.Pos.{Pos}
use Rattle.rules.specs.Data.{Data, no_data}
use Rattle.rules.specs.Line.{empty}
use Rattle.rules.specs.Machine.{no_cache, at, memory_at, fresh}
use Rattle.rules.specs.Load.{view}
use Rattle.rules.proofs.base.Lines.{Here, not_here}
use Rattle.rules.proofs.base.LineRules.{rules_empty}
use Rattle.rules.proofs.address.Sound.{from_memory}
use Rattle.rules.proofs.address.Rebuild.{sound_none}
use Rattle.rules.proofs.machines.Sound.{SoundMachine}
use Rattle.rules.proofs.machines.View.{view_is}

same_all : {A : Type 0} (k i : ℕ) (a : A) → get_or (replicate k a) i a ≡ a
same_all zero i a = refl
same_all (suc k) zero a = refl
same_all (suc k) (suc i) a = same_all k i a

lines_all : (k i j : ℕ) → get_or (get_or (replicate k (record { lines = replicate 16 empty })) i no_cache).lines j empty ≡ empty
lines_all zero i j = refl
lines_all (suc k) zero j = same_all 16 j empty
lines_all (suc k) (suc i) j = lines_all k i j

module _ (n : ℕ) (words : List Data) where
  pub fresh_at : (p : Pos) → at (fresh n words) p ≡ empty
  unfolding at fresh
  fresh_at p = lines_all 4 p.cache p.slot

  none : (lc x : ℕ) (p : Pos) → Here lc x (at (fresh n words) p) → ⊥
  none lc x p h = not_here lc x (rw (fresh_at p) at h)

  module _ (some : 1 ≤ n) (few : n ≤ 4) (all : length words ≡ 64) where
    pub fresh_sound : SoundMachine 64 (fresh n words)
    fresh_sound = record {
      lines = record { small = unfold fresh in omega arith; fits = λ p. rw (fresh_at p) (rules_empty 64); each = λ x. sound_none (none (fresh n words).lcvid x) };
      frame =
          record {
            caches = unfold fresh in refl;
            words = unfold fresh in all;
            some = unfold fresh in some;
            few = unfold fresh in few;
            unused = λ p i. fresh_at p;
            addresses = λ p. rw (fresh_at p) (omega arith);
          };
    }

    pub fresh_view : (x a : ℕ) → view (fresh n words) x a ≡ get_or words x no_data
    fresh_view x a =
        view_is fresh_sound.lines x a (unfold fresh in omega arith) (get_or words x no_data)
        (from_memory (λ p h. absurd (none (fresh n words).lcvid x p h)) (unfold memory_at fresh in refl))
