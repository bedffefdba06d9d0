-- From one address to the machine: a step that changes lines of x alone keeps, or writes, what its lines of x keep or write.
-- Assumes nothing.
use mathlib.Core.Path.{◌≡◌, refl, sym, ◌∙◌, subst}
use mathlib.Core.Logic.{◌≢◌, ◌⊎◌, inl, inr}
use mathlib.Core.Bool.{false}
use Prim.Native.Nat.{ℕ, ◌≤◌, ◌<◌}
use native.Mathlib.Omega.{arith}
use native.Mathlib.Decide.{ℕ_discrete}
use Rattle.rules.specs.declared.Line.{Line}
use Rattle.rules.specs.declared.Machine.{Machine}
use Rattle.rules.specs.declared.Pos.{Pos}
use Rattle.rules.specs.Data.{Data}
use Rattle.rules.specs.Line.{empty, live}
use Rattle.rules.specs.Machine.{at, memory_at}
use Rattle.rules.specs.House.{LineRules}
use Rattle.rules.specs.Load.{view}
use Rattle.std.proofs.lemmas.Bool.{both_ways}
use Rattle.rules.proofs.base.Lines.{Here, live_test, not_here}
use Rattle.rules.proofs.address.Sound.{SoundAt, Sees, Mark, KeepsAt, WritesAt}
use Rattle.rules.proofs.address.Rebuild.{like_same, SameAt, keeps_same, mark_same, mark_made}
use Rattle.rules.proofs.machines.Sound.{Sound}
use Rattle.rules.proofs.machines.View.{Marked, view_sees, view_is}

-- ---- a step that changes lines of x alone

-- l is no live line of another address
abbrev pub Off : ℕ → ℕ → Line → Type 0
Off lc x l = (y : ℕ) → y ≢ x → Here lc y l → ⊥

pub off_empty : (lc x : ℕ) → Off lc x empty
off_empty lc x y n h = not_here lc y h

pub off_at : (lc x : ℕ) (l : Line) → l.address ≡ x → Off lc x l
off_at lc x l e y n h = n (sym h.at ∙ e)

pub off_free : (lc x : ℕ) (l : Line) → live lc l ≡ false → Off lc x l
off_free lc x l d y n h = both_ways _ d ((live_test lc l).when h.alive)

pub record Local (μ ν : Machine) (x : ℕ) : Type 0 where
  pub last : ν.lcvid ≡ μ.lcvid
  pub memory : (y : ℕ) → y ≢ x → memory_at ν y ≡ memory_at μ y
  pub lines : (q : Pos) → (at ν q ≡ at μ q) ⊎ (Off μ.lcvid x (at μ q) × Off μ.lcvid x (at ν q))

pub local_trans : {μ ν ρ : Machine} {x : ℕ} → Local μ ν x → Local ν ρ x → Local μ ρ x
local_trans {μ} {ν} {ρ} {x} L K = record {
  last = K.last ∙ L.last;
  memory = λ y n. K.memory y n ∙ L.memory y n;
  lines = λ q. go q (L.lines q) (subst (λ (lc : ℕ). (at ρ q ≡ at ν q) ⊎ (Off lc x (at ν q) × Off lc x (at ρ q))) L.last (K.lines q));
}
  where
    go : (q : Pos) → (at ν q ≡ at μ q) ⊎ (Off μ.lcvid x (at μ q) × Off μ.lcvid x (at ν q)) → (at ρ q ≡ at ν q) ⊎ (Off μ.lcvid x (at ν q) × Off μ.lcvid x (at ρ q))
        → (at ρ q ≡ at μ q) ⊎ (Off μ.lcvid x (at μ q) × Off μ.lcvid x (at ρ q))
    go q (inl e) (inl d) = inl (d ∙ e)
    go q (inl e) (inr (i, j)) = inr (rw e at i, j)
    go q (inr (i, j)) (inl d) = inr (i, rw (sym d) at j)
    go q (inr (i, j)) (inr (k, l)) = inr (i, l)

-- at another address the live lines are the same
local_same : {μ ν : Machine} {x : ℕ} → Local μ ν x → (a y : ℕ) → y ≢ x → SameAt a (at μ) (at ν) μ.lcvid y
local_same {μ} {ν} {x} L a y n =
    record { there = λ p h. let e = there p h (L.lines p) in (rw e h, like_same a e); back = λ p h. let e = back p h (L.lines p) in (rw e at h, like_same a e) }
  where
    there : (p : Pos) → Here μ.lcvid y (at μ p) → (at ν p ≡ at μ p) ⊎ (Off μ.lcvid x (at μ p) × Off μ.lcvid x (at ν p)) → at ν p ≡ at μ p
    there p h (inl e) = e
    there p h (inr (i, j)) = absurd (i y n h)

    back : (p : Pos) → Here μ.lcvid y (at ν p) → (at ν p ≡ at μ p) ⊎ (Off μ.lcvid x (at μ p) × Off μ.lcvid x (at ν p)) → at ν p ≡ at μ p
    back p h (inl e) = e
    back p h (inr (i, j)) = absurd (j y n h)

-- ---- nothing that is seen changes, no mark above LCVID is lost, none is made but up to a at x

pub record Keeps (N : ℕ) (μ ν : Machine) (a x : ℕ) : Type 0 where
  pub sound : Sound N ν
  pub last : ν.lcvid ≡ μ.lcvid
  pub same : (y b : ℕ) → μ.lcvid ≤ b → view ν y b ≡ view μ y b
  pub keeps : (y b : ℕ) → μ.lcvid < b → Marked μ y b → Marked ν y b
  pub made : (y b : ℕ) → μ.lcvid < b → Marked ν y b → Marked μ y b ⊎ ((y ≡ x) × (b ≤ a))

-- ---- what is seen is set to d from a up, and nothing else changes

pub record Writes (N : ℕ) (μ ν : Machine) (a x : ℕ) (d : Data) : Type 0 where
  pub sound : Sound N ν
  pub last : ν.lcvid ≡ μ.lcvid
  pub above : (b : ℕ) → μ.lcvid < b → Marked μ x b → b ≤ a
  -- before it a and all numbers above it saw the same
  pub flat : (b : ℕ) → a ≤ b → view μ x b ≡ view μ x a
  pub set : (b : ℕ) → a ≤ b → view ν x b ≡ d
  pub before : (b : ℕ) → μ.lcvid ≤ b → b < a → view ν x b ≡ view μ x b
  pub others : (y b : ℕ) → y ≢ x → μ.lcvid ≤ b → view ν y b ≡ view μ y b
  pub keeps : (y b : ℕ) → μ.lcvid < b → Marked μ y b → Marked ν y b
  pub marks : μ.lcvid < a → Marked ν x a
  pub made : (y b : ℕ) → μ.lcvid < b → Marked ν y b → Marked μ y b ⊎ ((y ≡ x) × (b ≤ a))

module _ {N : ℕ} {μ ν : Machine} {x : ℕ} (s : Sound N μ) (L : Local μ ν x) (fits : (q : Pos) → LineRules N (at ν q)) where
  -- what is said at μ's LCVID holds at ν's
  here_now : (P : ℕ → Type 0) → P μ.lcvid → P ν.lcvid
  here_now P h = subst P (sym L.last) h

  sound_local : SoundAt (at ν) μ.lcvid x (memory_at ν x) → Sound N ν
  sound_local here = record { small = here_now (λ c. c < N) s.small; fits = fits; each = λ y. here_now (λ c. SoundAt (at ν) c y (memory_at ν y)) (go y (ℕ_discrete y x)) }
    where
      go : (y : ℕ) → Dec (y ≡ x) → SoundAt (at ν) μ.lcvid y (memory_at ν y)
      go y (yes e) = rw e here
      go y (no n) = rw (L.memory y n) (keeps_same (local_same L 0 y n) (s.each y)).sound

  module _ (t : Sound N ν) where
    view_to : (y b : ℕ) (v : Data) → μ.lcvid ≤ b → Sees (at ν) μ.lcvid y (memory_at ν y) b v → view ν y b ≡ v
    view_to y b v i k = view_is t y b (here_now (λ c. c ≤ b) i) v (here_now (λ c. Sees (at ν) c y (memory_at ν y) b v) k)

    view_other : (y b : ℕ) → y ≢ x → μ.lcvid ≤ b → view ν y b ≡ view μ y b
    view_other y b n i = view_to y b (view μ y b) i (rw (L.memory y n) ((keeps_same (local_same L 0 y n) (s.each y)).sees b (view μ y b) i (view_sees s y b i)))

    mark_to : (y b : ℕ) → Mark (at ν) μ.lcvid y b → Marked ν y b
    mark_to y b k = here_now (λ c. Mark (at ν) c y b) k

    mark_from : (y b : ℕ) → Marked ν y b → Mark (at ν) μ.lcvid y b
    mark_from y b k = subst (λ (c : ℕ). Mark (at ν) c y b) L.last k

    mark_old : (y b : ℕ) → y ≢ x → μ.lcvid < b → Marked ν y b → Marked μ y b
    mark_old y b n i k = go (mark_made (local_same L μ.lcvid y n) b (mark_from y b k))
      where
        go : Marked μ y b ⊎ (b ≤ μ.lcvid) → Marked μ y b
        go (inl m) = m
        go (inr l) = absurd (omega arith)

  pub local_keeps : (a : ℕ) {u : Data} → memory_at ν x ≡ u → KeepsAt (at μ) (at ν) μ.lcvid x a (memory_at μ x) u → Keeps N μ ν a x
  local_keeps a {u} mem K = record {
    sound = t;
    last = L.last;
    same = λ y b i. same y b i (ℕ_discrete y x);
    keeps = λ y b i k. mark_to t y b (keeps y b i k (ℕ_discrete y x));
    made = λ y b i k. made y b i k (ℕ_discrete y x);
  }
    where
      t : Sound N ν
      t = sound_local (rw mem K.sound)

      same : (y b : ℕ) → μ.lcvid ≤ b → Dec (y ≡ x) → view ν y b ≡ view μ y b
      same y b i (yes e) = rw e (view_to t x b (view μ x b) i (rw mem (K.sees b (view μ x b) i (view_sees s x b i))))
      same y b i (no n) = view_other t y b n i

      keeps : (y b : ℕ) → μ.lcvid < b → Marked μ y b → Dec (y ≡ x) → Mark (at ν) μ.lcvid y b
      keeps y b i k (yes e) = rw e (K.keeps b i (rw e at k))
      keeps y b i k (no n) = mark_same (local_same L 0 y n) b k

      made : (y b : ℕ) → μ.lcvid < b → Marked ν y b → Dec (y ≡ x) → Marked μ y b ⊎ ((y ≡ x) × (b ≤ a))
      made y b i k (yes e) = rw e (here (K.made b i (mark_from t x b (rw e at k))))
        where
          here : Marked μ x b ⊎ (b ≤ a) → Marked μ x b ⊎ ((x ≡ x) × (b ≤ a))
          here (inl m) = inl m
          here (inr l) = inr (refl, l)
      made y b i k (no n) = inl (mark_old t y b n i k)

  pub local_writes : (a : ℕ) (d : Data) → memory_at ν x ≡ memory_at μ x → WritesAt (at μ) (at ν) μ.lcvid x a (memory_at μ x) d → μ.lcvid ≤ a
      → ((b : ℕ) → a ≤ b → view μ x b ≡ view μ x a) → Writes N μ ν a x d
  local_writes a d mem W up flat = record {
    sound = t;
    last = L.last;
    above = W.above;
    flat = flat;
    set = λ b i. view_to t x b d (omega arith) (rw mem (W.set b i));
    before = λ b i j. view_to t x b (view μ x b) i (rw mem (W.before b (view μ x b) i j (view_sees s x b i)));
    others = view_other t;
    keeps = λ y b i k. mark_to t y b (keeps y b i k (ℕ_discrete y x));
    marks = λ i. mark_to t x a (W.marks a i (omega arith));
    made = λ y b i k. made y b i k (ℕ_discrete y x);
  }
    where
      t : Sound N ν
      t = sound_local (rw mem W.sound)

      keeps : (y b : ℕ) → μ.lcvid < b → Marked μ y b → Dec (y ≡ x) → Mark (at ν) μ.lcvid y b
      keeps y b i k (yes e) = rw e (W.marks b i (W.above b i (rw e at k)))
      keeps y b i k (no n) = mark_same (local_same L 0 y n) b k

      made : (y b : ℕ) → μ.lcvid < b → Marked ν y b → Dec (y ≡ x) → Marked μ y b ⊎ ((y ≡ x) × (b ≤ a))
      made y b i k (yes e) = inr (e, W.made b i (mark_from t x b (rw e at k)))
      made y b i k (no n) = inl (mark_old t y b n i k)

-- ---- one after the other

pub keeps_itself : {N : ℕ} {μ : Machine} (a x : ℕ) → Sound N μ → Keeps N μ μ a x
keeps_itself a x s = record { sound = s; last = refl; same = λ y b i. refl; keeps = λ y b i k. k; made = λ y b i k. inl k }

module _ {N : ℕ} {μ ν : Machine} {a x : ℕ} (K : Keeps N μ ν a x) where
  still_below : (b : ℕ) → μ.lcvid < b → ν.lcvid < b
  still_below b i = rw K.last i

  still_from : (b : ℕ) → μ.lcvid ≤ b → ν.lcvid ≤ b
  still_from b i = rw K.last i

  earlier : (y b : ℕ) → μ.lcvid < b → Marked ν y b ⊎ ((y ≡ x) × (b ≤ a)) → Marked μ y b ⊎ ((y ≡ x) × (b ≤ a))
  earlier y b i (inl k) = K.made y b i k
  earlier y b i (inr k) = inr k

  pub keeps_keeps : {ρ : Machine} → Keeps N ν ρ a x → Keeps N μ ρ a x
  keeps_keeps J = record {
    sound = J.sound;
    last = J.last ∙ K.last;
    same = λ y b i. J.same y b (still_from b i) ∙ K.same y b i;
    keeps = λ y b i k. J.keeps y b (still_below b i) (K.keeps y b i k);
    made = λ y b i k. earlier y b i (J.made y b (still_below b i) k);
  }

  pub keeps_writes : {ρ : Machine} {d : Data} → μ.lcvid ≤ a → Writes N ν ρ a x d → Writes N μ ρ a x d
  keeps_writes up W = record {
    sound = W.sound;
    last = W.last ∙ K.last;
    above = λ b i k. W.above b (still_below b i) (K.keeps x b i k);
    flat = λ b i. sym (K.same x b (omega arith)) ∙ W.flat b i ∙ K.same x a up;
    set = W.set;
    before = λ b i j. W.before b (still_from b i) j ∙ K.same x b i;
    others = λ y b n i. W.others y b n (still_from b i) ∙ K.same y b i;
    keeps = λ y b i k. W.keeps y b (still_below b i) (K.keeps y b i k);
    marks = λ i. W.marks (still_below a i);
    made = λ y b i k. earlier y b i (W.made y b (still_below b i) k);
  }
