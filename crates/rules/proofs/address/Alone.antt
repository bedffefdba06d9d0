-- All lines of an address drop and one is placed: the S-M or S-E of the first load with a VID, and the M of a plain store.
-- Assumes nothing.
use mathlib.Core.Path.{◌≡◌, refl}
use mathlib.Core.Logic.{◌⊎◌, inl, inr}
use mathlib.Core.Bool.{true, ◌&&◌, not}
use Prim.Native.Nat.{ℕ, ◌≤◌, ◌<◌}
use native.Mathlib.Omega.{arith}
use Rattle.rules.specs.declared.Line.{Line}
use Rattle.rules.specs.declared.Pos.{Pos}
use Rattle.rules.specs.Data.{Data}
use Rattle.rules.specs.States.{plain, spec, ranged, top}
use Rattle.std.specs.Cmp.Derive.{both_true}
use Rattle.std.proofs.lemmas.Bool.{not_from_false}
use Rattle.rules.proofs.base.States.{state_rule, state_never, plain_or_spec, top_owns}
use Rattle.rules.proofs.base.Lines.{Here, top_hits}
use Rattle.rules.proofs.address.Sound.{Sees, from_owner, from_plain, Mark, KeepsAt, WritesAt}
use Rattle.rules.proofs.address.Rebuild.{Lone, sound_lone}

module _ {g : Pos → Line} {lc x : ℕ} {w : Data} (n : Pos) (only : (q : Pos) → Here lc x (g q) → q ≡ n) (h : Here lc x (g n)) (l : Lone lc w (g n)) where
  sees_lone : (b : ℕ) → lc ≤ b → Sees g lc x w b (g n).word
  sees_lone b i = go (plain_or_spec (g n).state h.alive.some)
    where
      go : (plain (g n).state ≡ true) ⊎ (spec (g n).state ≡ true) → Sees g lc x w b (g n).word
      go (inl j) = from_plain n h j refl
      go (inr j) =
          let t = state_rule (λ s. spec s && not (ranged s)) top refl (g n).state (both_true j (not_from_false _ l.whole)) in
          from_owner n (record { here = h; owning = top_owns (g n).state t; hit = top_hits b (g n) t (omega (arith, l.covers j)) }) refl

  -- every number saw its word before, and nothing was marked
  pub keeps_lone : {f : Pos → Line} (a : ℕ) → ((b : ℕ) (v : Data) → lc ≤ b → Sees f lc x w b v → v ≡ (g n).word) → ((b : ℕ) → Mark f lc x b → ⊥)
      → (top (g n).state ≡ true → (g n).h ≤ a) → KeepsAt f g lc x a w w
  keeps_lone a saw none most = record {
    sound = sound_lone n only l;
    sees = λ b v i k. rw (saw b v i k) (sees_lone b i);
    keeps = λ b i k. absurd (none b k);
    made = λ b i (p, hp, (t, j)). let e = only p hp in let t' : top (g n).state ≡ true = rw e at t in let j' : b ≤ (g n).h = rw e at j in inr (omega (arith, most t'));
  }

  -- a plain store: its number is LCVID, above which nothing is marked
  pub writes_lone : {f : Pos → Line} → plain (g n).state ≡ true → ((b : ℕ) → lc < b → Mark f lc x b → ⊥) → WritesAt f g lc x lc w (g n).word
  writes_lone i none = record {
    sound = sound_lone n only l;
    above = λ b j k. absurd (none b j k);
    set = λ b j. sees_lone b j;
    before = λ b u j k. absurd (omega arith);
    marks = λ b j k. absurd (omega arith);
    made = λ b j (p, hp, (t, k)). state_never plain top refl (g n).state i (rw (only p hp) at t);
  }
