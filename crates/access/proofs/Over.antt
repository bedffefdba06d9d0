-- A walk over a list: a turn of the loop that walks, its end, a part of what is carried along, a fact that every turn keeps; and the walk that is a search.
-- Assumes nothing.
use mathlib.Core.Path.{◌≡◌, refl, sym, ◌∙◌, ap}
use mathlib.Core.Bool.{Bool, true, false, cond}
use mathlib.Core.List.{List, [], ◌∷◌}
use Prim.Native.Nat.{ℕ, zero, suc, ◌+◌, ◌<◌, ◌≤◌}
use native.Mathlib.Nat.{le_of_suc-le-suc, not-suc-le-zero}
use native.Mathlib.Numerals.{add-one}
use lib.ListN.{length, get_or}
use Rattle.std.specs.Prelude.{Option, Some, None}
use Rattle.rules.specs.declared.Pos.{Pos}
use Rattle.rules.specs.Lists.{one_on, or_else, first_at, first_found}
use Rattle.rules.specs.Machine.{pos, in_cache}
use Rattle.access.specs.Look.{over}

module _ {A S : Type 0} where
  -- the walk over the first n elements
  abbrev pub over_first : (ℕ → A → S → S) → ℕ → List A → S → S
  over_first k zero l s = s
  over_first k (suc n) [] s = s
  over_first k (suc n) (y ∷ l) s = over_first (λ i. k (suc i)) n l (k 0 y s)

  one_more : (k : ℕ → A → S → S) (l : List A) (d : A) (i : ℕ) (s : S) → i < length l → k i (get_or l i d) (over_first k i l s) ≡ over_first k (suc i) l s
  one_more k [] d i s h = absurd (not-suc-le-zero h)
  one_more k (y ∷ l) d zero s h = refl
  one_more k (y ∷ l) d (suc i) s h = one_more (λ j. k (suc j)) l d i (k 0 y s) (le_of_suc-le-suc h)

  -- a turn of the loop
  pub over_turn : (k : ℕ → A → S → S) (l : List A) (d : A) (i : ℕ) (s : S) {t u : S}
      → i < length l → t ≡ over_first k i l s → u ≡ k i (get_or l i d) t → u ≡ over_first k (i + 1) l s
  over_turn k l d i s h e f = f ∙ rw (e, add-one i) (one_more k l d i s h)

  -- its end
  pub over_done : (k : ℕ → A → S → S) (l : List A) (i : ℕ) (s : S) → length l ≤ i → over_first k i l s ≡ over k l s
  unfolding over
  over_done k [] zero s h = refl
  over_done k [] (suc i) s h = refl
  over_done k (y ∷ l) zero s h = absurd (not-suc-le-zero h)
  over_done k (y ∷ l) (suc i) s h = over_done (λ j. k (suc j)) l i (k 0 y s) (le_of_suc-le-suc h)

  -- a part of what is carried along walks by itself
  pub over_part : {T : Type 0} (f : S → T) (k : ℕ → A → S → S) (m : ℕ → A → T → T)
      → ((i : ℕ) (y : A) (s : S) → f (k i y s) ≡ m i y (f s)) → (l : List A) (s : S) → f (over k l s) ≡ over m l (f s)
  unfolding over
  over_part f k m h [] s = refl
  over_part f k m h (y ∷ l) s =
      over_part f (λ i. k (suc i)) (λ i. m (suc i)) (λ i. h (suc i)) l (k 0 y s) ∙ ap (over (λ i. m (suc i)) l) (h 0 y s)

  -- what every turn keeps holds at the end
  pub over_each : (P : S → Type 0) (k : ℕ → A → S → S) (l : List A) (d : A)
      → ((i : ℕ) (s : S) → P s → P (k i (get_or l i d) s)) → (s : S) → P s → P (over k l s)
  unfolding over
  over_each P k [] d h s q = q
  over_each P k (y ∷ l) d h s q = over_each P (λ i. k (suc i)) l d (λ i. h (suc i)) (k 0 y s) (h 0 s q)

-- ---- a search

-- the place of what passes
abbrev pub here : Bool → Pos → Option Pos
here passes p = cond passes (Some p) None

or_nowhere : (f : Option Pos) → or_else f None ≡ f
or_nowhere (Some p) = refl
or_nowhere None = refl

or_or : (f g r : Option Pos) → or_else (or_else f g) r ≡ or_else f (or_else g r)
or_or (Some p) g r = refl
or_or None g r = refl

abbrev placed : (ℕ → Pos) → Option ℕ → Option Pos
placed p (Some i) = Some (p i)
placed p None = None

module _ {A : Type 0} where
  -- keeping the first place that is found is the search
  pub over_finds : (k : ℕ → A → Option Pos) (l : List A) (f : Option Pos) → over (λ i y f. or_else f (k i y)) l f ≡ or_else f (first_found k l)
  unfolding over first_found
  over_finds k [] f = sym (or_nowhere f)
  over_finds k (y ∷ l) f = over_finds (λ i. k (suc i)) l (or_else f (k 0 y)) ∙ or_or f (k 0 y) (first_found (λ i. k (suc i)) l)

  -- a search for a place that passes
  first_places : (t : ℕ → A → Bool) (p : ℕ → Pos) (l : List A) → first_found (λ i y. here (t i y) (p i)) l ≡ placed p (first_at t l)
  unfolding first_found first_at
  first_places t p [] = refl
  first_places t p (y ∷ l) = go (t 0 y) (first_at (λ i. t (suc i)) l) (first_places (λ i. t (suc i)) (λ i. p (suc i)) l)
    where
      go : (b : Bool) (r : Option ℕ) → first_found (λ i y. here (t (suc i) y) (p (suc i))) l ≡ placed (λ i. p (suc i)) r
          → or_else (here b (p 0)) (first_found (λ i y. here (t (suc i) y) (p (suc i))) l) ≡ placed p (cond b (Some 0) (one_on r))
      go true r e = refl
      go false (Some i) e = e
      go false None e = e

  -- the same among the slots of a cache
  pub first_in : (c : ℕ) (t : ℕ → A → Bool) (l : List A) → first_found (λ s y. here (t s y) (pos c s)) l ≡ in_cache c (first_at t l)
  first_in c t l = first_places t (pos c) l ∙ as_room (first_at t l)
    where
      as_room : (r : Option ℕ) → placed (pos c) r ≡ in_cache c r
      as_room (Some s) = refl
      as_room None = refl
