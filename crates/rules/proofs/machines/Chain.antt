-- Ranges that join end to end: each lies within the whole, two of them lie one behind the other, each is followed by the next one or by the end,
-- and every number of the whole is in one of them.
-- Assumes nothing.
use mathlib.Core.Path.{◌≡◌, refl, sym, ◌∙◌}
use mathlib.Core.Logic.{◌≢◌, ◌⊎◌, inl, inr}
use mathlib.Core.List.{List, [], ◌∷◌}
use Prim.Native.Nat.{ℕ, ◌≤◌, ◌<◌}
use native.Mathlib.Omega.{arith}
use native.Mathlib.Decide.{dec_lt}
use Rattle.rules.specs.declared.Machine.{Machine}
use Rattle.rules.specs.declared.Pos.{Pos}
use Rattle.rules.specs.House.{Join, Among}
use Rattle.rules.specs.Machine.{at}

module _ (μ : Machine) where
  -- none of these ranges is empty
  abbrev pub Rise : List Pos → Type 0
  Rise ps = (p : Pos) → Among p ps → (at μ p).m < (at μ p).h

  join_grows : (b e : ℕ) (ps : List Pos) → Rise ps → Join μ b ps e → b ≤ e
  join_grows b e [] r j = omega arith
  join_grows b e (p ∷ ps) r (i, j) = omega (arith, r p (inl refl), join_grows (at μ p).h e ps (λ q a. r q (inr a)) j)

  pub join_within : (b e : ℕ) (ps : List Pos) → Rise ps → Join μ b ps e → (p : Pos) → Among p ps → (b ≤ (at μ p).m) × ((at μ p).h ≤ e)
  join_within b e [] r j p a = elim a [ ]
  join_within b e (t ∷ ps) r (i, j) p (inl a) = rw a (omega (arith, join_grows (at μ t).h e ps (λ q a. r q (inr a)) j))
  join_within b e (t ∷ ps) r (i, j) p (inr a) = omega (arith, r t (inl refl), join_within (at μ t).h e ps (λ q a. r q (inr a)) j p a)

  pub join_apart : (b e : ℕ) (ps : List Pos) → Rise ps → Join μ b ps e → (p q : Pos) → p ≢ q → Among p ps → Among q ps → ((at μ p).h ≤ (at μ q).m) ⊎ ((at μ q).h ≤ (at μ p).m)
  join_apart b e [] r j p q n a c = elim a [ ]
  join_apart b e (t ∷ ps) r (i, j) p q n (inl a) (inl c) = absurd (n (a ∙ sym c))
  join_apart b e (t ∷ ps) r (i, j) p q n (inl a) (inr c) = inl (rw a (join_within (at μ t).h e ps (λ q a. r q (inr a)) j q c).0)
  join_apart b e (t ∷ ps) r (i, j) p q n (inr a) (inl c) = inr (rw c (join_within (at μ t).h e ps (λ q a. r q (inr a)) j p a).0)
  join_apart b e (t ∷ ps) r (i, j) p q n (inr a) (inr c) = join_apart (at μ t).h e ps (λ q a. r q (inr a)) j p q n a c

  -- one of them begins at b, or b is the end
  abbrev pub Begins : List Pos → ℕ → ℕ → Type 0
  Begins ps e b = ((q : Pos) × Among q ps × ((at μ q).m ≡ b)) ⊎ (b ≡ e)

  pub join_first : (b e : ℕ) (ps : List Pos) → Join μ b ps e → Begins ps e b
  join_first b e [] j = inr j
  join_first b e (t ∷ ps) (i, j) = inl (t, inl refl, i)

  begins_more : (t : Pos) (ps : List Pos) (e b : ℕ) → Begins ps e b → Begins (t ∷ ps) e b
  begins_more t ps e b (inl (q, a, i)) = inl (q, inr a, i)
  begins_more t ps e b (inr i) = inr i

  pub join_next : (b e : ℕ) (ps : List Pos) → Join μ b ps e → (p : Pos) → Among p ps → Begins ps e (at μ p).h
  join_next b e [] j p a = elim a [ ]
  join_next b e (t ∷ ps) (i, j) p (inl a) = rw a (begins_more t ps e (at μ t).h (join_first (at μ t).h e ps j))
  join_next b e (t ∷ ps) (i, j) p (inr a) = begins_more t ps e (at μ p).h (join_next (at μ t).h e ps j p a)

  -- one of them holds a
  abbrev pub Holds : List Pos → ℕ → Type 0
  Holds ps a = (q : Pos) × Among q ps × ((at μ q).m ≤ a) × (a < (at μ q).h)

  pub join_holds : (b e a : ℕ) (ps : List Pos) → Join μ b ps e → b ≤ a → a < e → Holds ps a
  join_holds b e a [] j l u = absurd (omega arith)
  join_holds b e a (t ∷ ps) (i, j) l u = go (dec_lt a (at μ t).h) (λ l. join_holds (at μ t).h e a ps j l u)
    where
      go : Dec (a < (at μ t).h) → ((at μ t).h ≤ a → Holds ps a) → Holds (t ∷ ps) a
      go (yes d) up = (t, inl refl, omega arith, d)
      go (no d) up = let (q, c, k, g) = up (omega arith) in (q, inr c, k, g)
