-- What number a sees at x on a sound machine: `view` finds it, and it is one. Exactly one owner, where a speculative line lives.
-- Assumes nothing.
use mathlib.Core.Path.{◌≡◌, refl, sym, ◌∙◌}
use mathlib.Core.Bool.{true, false}
use Prim.Native.Nat.{ℕ, ◌≤◌}
use native.Mathlib.Omega.{arith}
use Rattle.std.specs.Prelude.{Option, Some, None}
use Rattle.rules.specs.declared.Machine.{Machine}
use Rattle.rules.specs.declared.Pos.{Pos}
use Rattle.rules.specs.Data.{Data}
use Rattle.rules.specs.States.{spec, top}
use Rattle.rules.specs.Line.{empty, is_owner, is_plain}
use Rattle.rules.specs.Machine.{at, memory_at, find}
use Rattle.rules.specs.House.{One}
use Rattle.rules.specs.Load.{data_at, plain_data, view}
use Rattle.std.proofs.lemmas.Bool.{both_ways}
use Rattle.rules.proofs.base.States.{owns_spec, top_spec}
use Rattle.rules.proofs.base.Lines.{Here, top_hits, owner_test, owner_here, plain_test, plain_here}
use Rattle.rules.proofs.address.Sound.{OwnerAt, Passes, Sees, from_owner, from_plain, from_memory, Mark}
use Rattle.rules.proofs.address.Owners.{owner_once, owner_there, above, sees_one}
use Rattle.rules.proofs.machines.Places.{find_some, find_none}
use Rattle.rules.proofs.machines.Sound.{Sound, good}

-- an empty slot is no owner and no plain line
pub empty_owner : (x a : ℕ) → is_owner x a empty ≡ false
unfolding is_owner
empty_owner x a = refl

pub empty_plain : (x : ℕ) → is_plain x empty ≡ false
unfolding is_plain
empty_plain x = refl

-- the machine's marks, and that no speculative line lives at x
abbrev pub Marked : Machine → ℕ → ℕ → Type 0
Marked μ x b = Mark (at μ) μ.lcvid x b

abbrev pub Quiet : Machine → ℕ → Type 0
Quiet μ x = (q : Pos) → Here μ.lcvid x (at μ q) → spec (at μ q).state ≡ true → ⊥

pub quiet_unmarked : (μ : Machine) (x : ℕ) → Quiet μ x → (b : ℕ) → Marked μ x b → ⊥
quiet_unmarked μ x quiet b (p, h, (t, i)) = quiet p h (top_spec (at μ p).state t)

module _ {N : ℕ} {μ : Machine} (s : Sound N μ) (x a : ℕ) (up : μ.lcvid ≤ a) where
  pub owner_at : (p : Pos) → is_owner x a (at μ p) ≡ true → OwnerAt (at μ) μ.lcvid x a p
  owner_at p i = let o = (owner_test x a (at μ p)).says i in record { here = owner_here μ.lcvid x a (at μ p) up o; owning = o.owning; hit = o.hit }

  at_owner : (p : Pos) → OwnerAt (at μ) μ.lcvid x a p → is_owner x a (at μ p) ≡ true
  at_owner p o = (owner_test x a (at μ p)).when (record { owning = o.owning; at = o.here.at; hit = o.hit })

  -- "exactly one owner where a speculative line lives"
  pub owner_one : (p : Pos) → Here μ.lcvid x (at μ p) → spec (at μ p).state ≡ true → One (λ o. is_owner x a (at μ o) ≡ true)
  owner_one p h i =
      let (o, O) = owner_there (good s x) a p up h i in
      record { place = o; holds = at_owner o O; only = λ q j. owner_once (good s x) a q o (owner_at q j) O }

  -- where no owner hits, no speculative line lives, as the lowest m is at most LCVID
  pub unowned : ((q : Pos) → is_owner x a (at μ q) ≡ false) → Quiet μ x
  unowned none q h i = let o = owner_one q h i in both_ways _ (none o.place) o.holds

  -- ---- what a sees

  -- the plain lines' word, else memory's, where no owner hits
  plain_sees : ((q : Pos) → is_owner x a (at μ q) ≡ false) → Sees (at μ) μ.lcvid x (memory_at μ x) a (plain_data μ x)
  unfolding plain_data
  plain_sees none = go (find (λ q l. is_plain x l) μ) refl
    where
      past : find (λ q l. is_plain x l) μ ≡ None → (p : Pos) → Here μ.lcvid x (at μ p) → Passes a (memory_at μ x) (at μ p)
      past e p h = record {
        same = λ i. absurd (both_ways _ (find_none (λ q l. is_plain x l) μ (λ q. empty_plain x) e p) ((plain_test x (at μ p)).when (i, h.at)));
        later = above (good s x) a (λ q o. both_ways _ (none q) (at_owner q o)) p h;
      }

      go : (r : Option Pos) → find (λ q l. is_plain x l) μ ≡ r → Sees (at μ) μ.lcvid x (memory_at μ x) a (data_at μ r (memory_at μ x))
      go (Some p) e = let (i, j) = (plain_test x (at μ p)).says (find_some (λ q l. is_plain x l) μ p e) in from_plain p (plain_here μ.lcvid x (at μ p) i j) i refl
      go None e = from_memory (past e) refl

  pub view_sees : Sees (at μ) μ.lcvid x (memory_at μ x) a (view μ x a)
  unfolding view
  view_sees = go (find (λ q l. is_owner x a l) μ) refl
    where
      go : (r : Option Pos) → find (λ q l. is_owner x a l) μ ≡ r → Sees (at μ) μ.lcvid x (memory_at μ x) a (data_at μ r (plain_data μ x))
      go (Some p) e = from_owner p (owner_at p (find_some (λ q l. is_owner x a l) μ p e)) refl
      go None e = plain_sees (find_none (λ q l. is_owner x a l) μ (λ q. empty_owner x a) e)

  pub view_is : (v : Data) → Sees (at μ) μ.lcvid x (memory_at μ x) a v → view μ x a ≡ v
  view_is v k = sees_one (good s x) a (view μ x a) v view_sees k

  pub owner_view : (o : Pos) → OwnerAt (at μ) μ.lcvid x a o → (at μ o).word ≡ view μ x a
  owner_view o O = sym (view_is (at μ o).word (from_owner o O refl))

  pub plain_view : ((q : Pos) → is_owner x a (at μ q) ≡ false) → plain_data μ x ≡ view μ x a
  plain_view none = sym (view_is (plain_data μ x) (plain_sees none))

  -- ---- where every number sees the same

  -- no speculative line lives
  pub quiet_flat : Quiet μ x → (b : ℕ) → μ.lcvid ≤ b → (v : Data) → Sees (at μ) μ.lcvid x (memory_at μ x) b v → v ≡ view μ x a
  quiet_flat quiet b i v k = sym (view_is v (go k))
    where
      go : Sees (at μ) μ.lcvid x (memory_at μ x) b v → Sees (at μ) μ.lcvid x (memory_at μ x) a v
      go (from_owner p o e) = absurd (quiet p o.here (owns_spec (at μ p).state o.owning))
      go (from_plain p h j e) = from_plain p h j e
      go (from_memory n e) = from_memory (λ p h. record { same = (n p h).same; later = λ o. absurd (quiet p h (owns_spec (at μ p).state o)) }) e

-- the owner is S-M or S-E: every number above a
pub top_flat : {N : ℕ} {μ : Machine} → Sound N μ → (x a : ℕ) → μ.lcvid ≤ a → (o : Pos) → OwnerAt (at μ) μ.lcvid x a o → top (at μ o).state ≡ true → (b : ℕ) → a ≤ b
    → view μ x b ≡ view μ x a
top_flat {μ = μ} s x a up o O t b i =
    sym (owner_view s x b (omega arith) o (record { here = O.here; owning = O.owning; hit = top_hits b (at μ o) t (omega (arith, O.hit.from)) })) ∙ owner_view s x a
    up o O
