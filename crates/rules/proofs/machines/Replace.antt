-- All lines of an address drop, and one is placed in the asking cache.
-- Assumes nothing.
use mathlib.Core.Path.{◌≡◌, ◌∙◌}
use Prim.Native.Nat.{ℕ, ◌<◌}
use lib.ListN.{length}
use Rattle.std.specs.Prelude.{Some}
use Rattle.rules.specs.declared.Line.{Line}
use Rattle.rules.specs.declared.Machine.{Machine}
use Rattle.rules.specs.declared.Pos.{Pos}
use Rattle.rules.specs.Machine.{pos, at, memory_at, drop, put, free_slot}
use Rattle.rules.specs.House.{LineRules}
use Rattle.rules.specs.Load.{is_of}
use Rattle.std.proofs.lemmas.Bool.{both_ways}
use Rattle.rules.proofs.base.Bools.{by_test}
use Rattle.rules.proofs.base.Tests.{Decides, eq_test}
use Rattle.rules.proofs.base.Lines.{Here, not_here, pos_dec}
use Rattle.rules.proofs.machines.Places.{drop_gone, drop_stays, at_put_other}
use Rattle.rules.proofs.machines.Local.{Local, local_trans}
use Rattle.rules.proofs.machines.Moves.{put_fits, put_memory, placed_new, placed_local, drop_local, drop_fits, drop_memory, drop_width}

of_test : (x : ℕ) (p : Pos) (l : Line) → Decides (is_of x p l) (l.address ≡ x)
unfolding is_of
of_test x p l = eq_test l.address x

module _ (μ : Machine) (x : ℕ) where
  pub dropped_none : {P : Type 0} (lc : ℕ) (q : Pos) → Here lc x (at (drop (is_of x) μ) q) → P
  dropped_none lc q h =
      by_test (is_of x q (at μ q)) (λ i. not_here lc x (rw (drop_gone (is_of x) μ q i) at h))
      (λ i. absurd (both_ways _ i ((of_test x q (at μ q)).when (rw (drop_stays (is_of x) μ q i) at h.at))))

  pub dropped_local : Local μ (drop (is_of x) μ) x
  dropped_local = drop_local (is_of x) μ x (λ p i. (of_test x p (at μ p)).says i)

  module _ (c e : ℕ) (l : Line) (slot : free_slot (drop (is_of x) μ) c ≡ Some e) (in_range : c < length μ.caches) (at_x : l.address ≡ x) where
    width : c < length (drop (is_of x) μ).caches
    width = rw (drop_width (is_of x) μ) in_range

    abbrev after : Machine
    after = put (pos c e) l (drop (is_of x) μ)

    pub replaced_new : at after (pos c e) ≡ l
    replaced_new = placed_new (drop (is_of x) μ) c e l slot width

    pub replaced_only : (lc : ℕ) (q : Pos) → Here lc x (at after q) → q ≡ pos c e
    replaced_only lc q h = go (pos_dec q (pos c e))
      where
        go : Dec (q ≡ pos c e) → q ≡ pos c e
        go (yes d) = d
        go (no d) = dropped_none lc q (rw (at_put_other (drop (is_of x) μ) (pos c e) q l d) at h)

    pub replaced_local : Local μ after x
    replaced_local = local_trans dropped_local (placed_local (drop (is_of x) μ) c e l slot width x at_x)

    pub replaced_fits : {N : ℕ} → LineRules N l → ((q : Pos) → LineRules N (at μ q)) → (q : Pos) → LineRules N (at after q)
    replaced_fits r f = put_fits (drop (is_of x) μ) (pos c e) l r (drop_fits (is_of x) μ f)

    pub replaced_memory : memory_at after x ≡ memory_at μ x
    replaced_memory = put_memory (drop (is_of x) μ) (pos c e) l x ∙ drop_memory (is_of x) μ x
