-- A slot that is found free is one of the sixteen.
-- Assumes nothing.
use mathlib.Core.Path.{◌≡◌, sym, ◌∙◌}
use mathlib.Core.Bool.{not}
use Prim.Native.Nat.{ℕ, ◌<◌}
use native.Mathlib.Omega.{arith}
use lib.ListN.{get_or}
use Rattle.std.specs.Prelude.{Option, Some}
use Rattle.rules.specs.declared.Machine.{Machine}
use Rattle.rules.specs.Line.{empty, live}
use Rattle.rules.specs.Machine.{no_cache, free_in}
use Rattle.rules.proofs.Shape.{Shape}
use Rattle.rules.proofs.base.Lists.{first_some}

pub free_16 : (μ : Machine) → Shape μ → (c lc : ℕ) → c < 4 → {r : Option ℕ} {s : ℕ} → r ≡ free_in lc (get_or μ.caches c no_cache) → r ≡ Some s → s < 16
free_16 μ h c lc four e f =
    let n = (first_some (λ s l. not (live lc l)) (get_or μ.caches c no_cache).lines empty _ (sym e ∙ f)).0 in
    omega (arith, n, h.sixteen c four)
