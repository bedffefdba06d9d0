-- The look: a line of another address adds nothing, and the walk over all lines is the searches that it stands for.
-- Assumes nothing.
use mathlib.Core.Path.{◌≡◌, refl, sym, ◌∙◌, ap}
use mathlib.Core.Bool.{Bool, true, false, ◌&&◌, ◌||◌, and-false, or-false}
use Prim.Native.Nat.{ℕ}
use lib.Dec.{eqb}
use lib.ListN.{get_or}
use Rattle.std.specs.Prelude.{Option, Some, None}
use Rattle.rules.specs.declared.Cache.{Cache}
use Rattle.rules.specs.declared.Line.{Line}
use Rattle.rules.specs.declared.Machine.{Machine}
use Rattle.rules.specs.declared.Pos.{Pos}
use Rattle.rules.specs.Line.{empty, is_owner, is_plain}
use Rattle.rules.specs.Lists.{or_else, first_at}
use Rattle.rules.specs.Load.{is_own_share, is_dirty}
use Rattle.rules.specs.Machine.{pos, no_cache, at, in_cache, find, is_found, any_line}
use Rattle.rules.specs.States.{dirty}
use Rattle.rules.specs.declared.Held.{Held}
use Rattle.access.specs.declared.look.Seen.{Seen}
use Rattle.access.specs.Look.{owning, own_plain, any_plain, held, held_at, seen_of, unseen, kept, with_line, over, with_cache}
use Rattle.access.proofs.Over.{here, over_part, over_each, over_finds, first_in}

-- ---- a line, by its address

-- it is of its own address
pub own_address : (c a x : ℕ) (p : Pos) (l : Line) (seen : Seen) → l.address ≡ x → with_line c a l.address p l seen ≡ with_line c a x p l seen
own_address c a x p l seen e = ap (λ (y : ℕ). with_line c a y p l seen) e

none_kept : (f : Option Held) (h : Held) → kept f false h ≡ f
none_kept (Some g) h = refl
none_kept None h = refl

-- of another address nothing is seen
pub another_address : (c a x : ℕ) (p : Pos) (l : Line) (seen : Seen) → eqb l.address x ≡ false → with_line c a x p l seen ≡ seen
unfolding with_line is_owner is_own_share is_plain
another_address c a x p l seen e = simp (e, and-false, or-false, none_kept)

-- ---- a walk over all lines, cache by cache and slot by slot

module _ {S : Type 0} where
  abbrev walk : (Pos → Line → S → S) → Machine → S → S
  walk k μ s = over (λ c h. over (λ i. k (pos c i)) h.lines) μ.caches s

module _ {S : Type 0} where
  -- a part of what is carried along walks by itself
  walk_part : {T : Type 0} (f : S → T) (k : Pos → Line → S → S) (m : Pos → Line → T → T)
      → ((p : Pos) (l : Line) (s : S) → f (k p l s) ≡ m p l (f s)) → (μ : Machine) (s : S) → f (walk k μ s) ≡ walk m μ (f s)
  walk_part f k m e μ s = over_part f _ _ (λ c h. over_part f (λ i. k (pos c i)) (λ i. m (pos c i)) (λ i. e (pos c i)) h.lines) μ.caches s

  -- what every line keeps holds at the end
  walk_each : (P : S → Type 0) (k : Pos → Line → S → S) (μ : Machine)
      → ((p : Pos) (s : S) → P s → P (k p (at μ p) s)) → (s : S) → P s → P (walk k μ s)
  unfolding at
  walk_each P k μ e =
      over_each P _ μ.caches no_cache (λ c. over_each P (λ i. k (pos c i)) (get_or μ.caches c no_cache).lines empty (λ i. e (pos c i)))

-- ---- one kind by itself

-- where what is held stands
abbrev place_of : Option Held → Option Pos
place_of (Some h) = Some h.place
place_of None = None

module _ (t : Pos → Line → Bool) (μ : Machine) where
  -- what a line that passes adds: its place, itself, that there is one
  abbrev placing : Pos → Line → Option Pos → Option Pos
  placing p l f = or_else f (here (t p l) p)

  abbrev keeping : Pos → Line → Option Held → Option Held
  keeping p l f = kept f (t p l) (held p l)

  abbrev noting : Pos → Line → Bool → Bool
  noting p l b = b || t p l

  -- the search in one cache
  abbrev within : ℕ → Cache → Option Pos
  within c h = in_cache c (first_at (λ s l. t (pos c s) l) h.lines)

  -- the first place is the search's
  places : walk placing μ None ≡ find t μ
  unfolding find
  places = over_part (λ (f : Option Pos). f) _ (λ c h f. or_else f (within c h)) in_cache_lem μ.caches None ∙ over_finds within μ.caches None
    where
      in_cache_lem : (c : ℕ) (h : Cache) (f : Option Pos) → over (λ i. placing (pos c i)) h.lines f ≡ or_else f (within c h)
      in_cache_lem c h f = over_finds (λ s l. here (t (pos c s) l) (pos c s)) h.lines f ∙ ap (or_else f) (first_in c (λ s l. t (pos c s) l) h.lines)

  -- there is one where the search finds one
  notes : walk noting μ false ≡ is_found (find t μ)
  notes = sym (walk_part is_found placing noting (λ p l f. found_or f (t p l) p) μ None) ∙ ap is_found places
    where
      found_or : (f : Option Pos) (b : Bool) (p : Pos) → is_found (or_else f (here b p)) ≡ (is_found f || b)
      found_or (Some q) b p = refl
      found_or None true p = refl
      found_or None false p = refl

  -- what is held stands where the search finds it
  held_place : place_of (walk keeping μ None) ≡ find t μ
  held_place = walk_part place_of keeping placing (λ p l f. place_or f (t p l) p l) μ None ∙ places
    where
      place_or : (f : Option Held) (b : Bool) (p : Pos) (l : Line) → place_of (kept f b (held p l)) ≡ or_else (place_of f) (here b p)
      place_or (Some h) b p l = refl
      place_or None true p l = refl
      place_or None false p l = refl

  -- and is the line of its place
  held_line : walk keeping μ None ≡ held_at μ (place_of (walk keeping μ None))
  held_line = walk_each (λ (f : Option Held). f ≡ held_at μ (place_of f)) keeping μ (λ p f. stands f (t p (at μ p)) p) None refl
    where
      stands : (f : Option Held) (b : Bool) (p : Pos) → f ≡ held_at μ (place_of f) → kept f b (held p (at μ p)) ≡ held_at μ (place_of (kept f b (held p (at μ p))))
      stands (Some h) b p e = e
      stands None true p e = refl
      stands None false p e = refl

  keeps : walk keeping μ None ≡ held_at μ (find t μ)
  keeps = held_line ∙ ap (held_at μ) held_place

-- ---- all kinds

abbrev any_dirty : ℕ → Pos → Line → Bool
any_dirty x p l = dirty l.state && eqb l.address x

-- what is seen, by its parts
seen_by : (s : Seen) {o h w p : Option Held} {d : Bool} → s.owner ≡ o → s.share ≡ h → s.own ≡ w → s.plain ≡ p → s.dirty ≡ d
    → s ≡ record { owner = o; share = h; own = w; plain = p; dirty = d }
seen_by s eo eh ew ep ed = rw (← eo, ← eh, ← ew, ← ep, ← ed)

module _ (μ : Machine) (c a x : ℕ) where
  abbrev walked : Seen
  walked = over (with_cache c a x) μ.caches unseen

  -- one kind: f reads it off
  kind : (t : Pos → Line → Bool) (f : Seen → Option Held) → ((p : Pos) (l : Line) (seen : Seen) → f (with_line c a x p l seen) ≡ kept (f seen) (t p l) (held p l))
      → f unseen ≡ None → f walked ≡ held_at μ (find t μ)
  kind t f each none = walk_part f (with_line c a x) (keeping t μ) each μ unseen ∙ rw none (keeps t μ)

  any_dirty_lem : walked.dirty ≡ is_dirty μ x
  unfolding with_line is_dirty any_line
  any_dirty_lem = walk_part (λ (s : Seen). s.dirty) (with_line c a x) (noting (any_dirty x) μ) (λ p l seen. refl) μ unseen ∙ notes (any_dirty x) μ

  -- the walk over all lines is what the searches find
  pub walk_sees : walked ≡ seen_of μ c a x
  unfolding with_line seen_of
  walk_sees = seen_by walked
      (kind (owning x a) (λ s. s.owner) (λ p l seen. refl) refl)
      (kind (is_own_share c x a) (λ s. s.share) (λ p l seen. refl) refl)
      (kind (own_plain c x) (λ s. s.own) (λ p l seen. refl) refl)
      (kind (any_plain x) (λ s. s.plain) (λ p l seen. refl) refl)
      any_dirty_lem
