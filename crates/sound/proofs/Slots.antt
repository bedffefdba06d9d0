-- Slot s of cache c is number 16 c + s: its place, its line, whether it fits by itself, and whether it holds a live line of an address.
-- Assumes nothing.
use mathlib.Core.Path.{◌≡◌, sym, ap}
use mathlib.Core.Bool.{◌&&◌, ◌||◌}
use Prim.Native.Nat.{ℕ, ◌+◌, ◌*◌, ◌/◌, ◌%◌, ◌<◌}
use native.Mathlib.Omega.{arith}
use lib.Dec.{ltb, eqb}
use lib.ListN.{get_or}
use Rattle.rules.specs.declared.Line.{Line}
use Rattle.rules.specs.declared.Machine.{Machine}
use Rattle.rules.specs.declared.Pos.{Pos}
use Rattle.rules.specs.States.{is_i}
use Rattle.rules.specs.Line.{empty, live}
use Rattle.rules.specs.Machine.{pos, no_cache, at}
use Rattle.rules.specs.HouseTest.{line_fits, slot_fits}
use Rattle.sound.specs.Numbered.{pos_of, line_no, slot_no, holds}

pub place_is : (c s : ℕ) → s < 16 → pos_of (16 * c + s) ≡ pos c s
place_is c s h = λ i. record { cache = cache i; slot = slot i }
  where
    cache : (16 * c + s) / 16 ≡ c
    cache = omega arith

    slot : (16 * c + s) % 16 ≡ s
    slot = omega arith

module _ (μ : Machine) (c s : ℕ) (h : s < 16) where
  -- as the arrays have it
  abbrev line_in : Line
  line_in = get_or (get_or μ.caches c no_cache).lines s empty

  pub line_is : line_in ≡ line_no μ (16 * c + s)
  unfolding at
  line_is = ap (at μ) (sym (place_is c s h))

  pub fits_is : ((ltb c μ.count || is_i line_in.state) && (ltb line_in.address 64 && line_fits 64 line_in)) ≡ slot_no μ (16 * c + s)
  unfolding slot_fits at
  fits_is = ap (λ (p : Pos). slot_fits μ p (at μ p)) (sym (place_is c s h))

  pub holds_is : (x : ℕ) → (live μ.lcvid line_in && eqb line_in.address x) ≡ holds μ x (16 * c + s)
  unfolding holds at
  holds_is x = ap (λ (p : Pos). live μ.lcvid (at μ p) && eqb (at μ p).address x) (sym (place_is c s h))
