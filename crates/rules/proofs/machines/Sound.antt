-- A machine is sound: as the proofs have it.
-- Assumes nothing.
use mathlib.Core.Path.{◌≡◌}
use Prim.Native.Nat.{ℕ, ◌≤◌, ◌<◌}
use lib.ListN.{length}
use Rattle.rules.specs.declared.Machine.{Machine}
use Rattle.rules.specs.declared.Pos.{Pos}
use Rattle.rules.specs.Line.{empty}
use Rattle.rules.specs.House.{LineRules}
use Rattle.rules.specs.Machine.{at, memory_at}
use Rattle.rules.proofs.address.Sound.{SoundAt, GoodAt}

-- its lines, with VIDs below N
pub record Sound (N : ℕ) (μ : Machine) : Type 0 where
  pub small : μ.lcvid < N
  pub fits : (p : Pos) → LineRules N (at μ p)
  pub each : (x : ℕ) → SoundAt (at μ) μ.lcvid x (memory_at μ x)

pub good : {N : ℕ} {μ : Machine} → Sound N μ → (x : ℕ) → GoodAt N (at μ) μ.lcvid x (memory_at μ x)
good s x = record { fits = s.fits; sound = s.each x }

-- what document 01 says of a machine beside its lines: the count, unused caches, addresses
pub record Frame (μ : Machine) : Type 0 where
  pub caches : length μ.caches ≡ 4
  pub words : length μ.memory ≡ 64
  pub some : 1 ≤ μ.count
  pub few : μ.count ≤ 4
  pub unused : (p : Pos) → μ.count ≤ p.cache → at μ p ≡ empty
  pub addresses : (p : Pos) → (at μ p).address < 64

-- both
pub record SoundMachine (N : ℕ) (μ : Machine) : Type 0 where
  pub lines : Sound N μ
  pub frame : Frame μ
