-- Whether some line of a machine passes a test, as a search in each cache and as std's `any`.
-- Assumes nothing.
use mathlib.Core.Path.{◌≡◌, refl}
use mathlib.Core.Bool.{Bool, true, false, cond, ◌||◌}
use mathlib.Core.List.{List, [], ◌∷◌}
use Prim.Native.Nat.{ℕ, suc}
use Rattle.std.specs.Prelude.{Option, Some, None, is_some}
use Rattle.std.specs.List.{list_any}
use Rattle.rules.specs.declared.Line.{Line}
use Rattle.rules.specs.declared.Cache.{Cache}
use Rattle.rules.specs.declared.Machine.{Machine}
use Rattle.rules.specs.declared.Pos.{Pos}
use Rattle.rules.specs.Lists.{one_on, or_else, first_at, first_found}
use Rattle.rules.specs.Machine.{in_cache, is_found, find, any_line}

module _ (t : Line → Bool) where
  -- in a cache
  some : (ls : List Line) → list_any t ls ≡ is_some (first_at (λ s l. t l) ls)
  unfolding first_at
  some [] = refl
  some (l ∷ ls) = go (t l) (first_at (λ s l. t l) ls) (some ls)
    where
      go : (b : Bool) (r : Option ℕ) → list_any t ls ≡ is_some r → (b || list_any t ls) ≡ is_some (cond b (Some 0) (one_on r))
      go true r e = refl
      go false (Some s) e = e
      go false None e = e

  -- in all caches, whose numbers are n 0, n 1 and so on
  found : (n : ℕ → ℕ) (ks : List Cache) → list_any (λ k. list_any t k.lines) ks ≡ is_found (first_found (λ c k. in_cache (n c) (first_at (λ s l. t l) k.lines)) ks)
  unfolding first_found
  found n [] = refl
  found n (k ∷ ks) = go (first_at (λ s l. t l) k.lines) (some k.lines)
      (first_found (λ c h. in_cache (n (suc c)) (first_at (λ s l. t l) h.lines)) ks) (found (λ c. n (suc c)) ks)
    where
      go : (r : Option ℕ) → list_any t k.lines ≡ is_some r → (o : Option Pos) → list_any (λ h. list_any t h.lines) ks ≡ is_found o
          → (list_any t k.lines || list_any (λ h. list_any t h.lines) ks) ≡ is_found (or_else (in_cache (n 0) r) o)
      go (Some s) e o f = rw e
      go None e o f = rw e f

  pub any_is : (μ : Machine) → list_any (λ k. list_any t k.lines) μ.caches ≡ any_line (λ p l. t l) μ
  unfolding any_line find
  any_is μ = found (λ c. c) μ.caches
