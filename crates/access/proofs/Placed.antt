-- Lines placed in a machine itself: what comes back and what the machine is then are the rules' placing.
-- Assumes nothing.
use mathlib.Core.Path.{◌≡◌, refl}
use Prim.Native.Nat.{ℕ}
use Rattle.std.specs.Prelude.{Option, Some, None, Result, Ok, Err}
use Rattle.rules.specs.declared.Line.{Line}
use Rattle.rules.specs.declared.Machine.{Machine}
use Rattle.rules.specs.declared.Reason.{Reason}
use Rattle.rules.specs.declared.Reason.TheVariants.{NoRoom}
use Rattle.rules.specs.declared.Answer.{Answer}
use Rattle.rules.specs.declared.Answer.TheVariants.{Refused}
use Rattle.rules.specs.Machine.{free_slot, gives, place, placed_in, place_two, placed_two_in}
use Rattle.moves.specs.Room.{room, filled}
use Rattle.access.specs.Plan.{landed}

module _ (μ δ : Machine) (r : Answer) (c : ℕ) (l : Line) where
  pub one_lands : {ε : Machine} {got : Result (Unit {0}) Reason} → got ≡ room (free_slot δ c) → ε ≡ filled c l δ (free_slot δ c) → landed μ r ε got ≡ place μ r c l δ
  unfolding place
  one_lands e f = rw (e, f) (go (free_slot δ c))
    where
      go : (s : Option ℕ) → landed μ r (filled c l δ s) (room s) ≡ placed_in μ r c l δ s
      go (Some s) = refl
      go None = refl

module _ (μ δ : Machine) (r : Answer) (c : ℕ) (k l : Line) where
  -- the first of two stands
  pub first_lands : {ε : Machine} {u : Unit {0}} → room (free_slot δ c) ≡ Ok u → ε ≡ filled c k δ (free_slot δ c) → place μ r c l ε ≡ place_two μ r c k l δ
  unfolding place_two
  first_lands e f = rw f (go (free_slot δ c) e)
    where
      go : (s : Option ℕ) {u : Unit {0}} → room s ≡ Ok u → place μ r c l (filled c k δ s) ≡ placed_two_in μ r c k l δ s
      go (Some s) e = refl
      go None e = absurd (cc)

  -- or there is no room for it
  pub first_refused : {e : Reason} → room (free_slot δ c) ≡ Err e → gives (Refused e) μ ≡ place_two μ r c k l δ
  unfolding place_two
  first_refused e = go (free_slot δ c) e
    where
      go : (s : Option ℕ) {e : Reason} → room s ≡ Err e → gives (Refused e) μ ≡ placed_two_in μ r c k l δ s
      go (Some s) e = absurd (cc)
      go None {e} f = let z : NoRoom ≡ e = cc in rw (← z)
