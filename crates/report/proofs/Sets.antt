-- Bytes stored one after the other, and one piece of them behind another.
-- Assumes nothing.
use mathlib.Core.Path.{◌≡◌, ap, sym, ◌∙◌}
use mathlib.Core.List.{List, [], ◌∷◌, ◌++◌}
use Prim.Native.Nat.{ℕ, suc, ◌+◌, ◌<◌}
use native.Mathlib.Numerals.{add-one}
use native.Mathlib.Nat.{add-suc, suc-add, add-zero}
use native.Mathlib.Omega.{arith}
use lib.ListN.{length, get_or, set, take}
use lib.Seq.{sets, take-suc, length-take-le}

-- one byte more
pub sets_snoc : (l : List ℕ) (i : ℕ) (vs : List ℕ) (v : ℕ) → sets l i (vs ++ (v ∷ [])) ≡ set (sets l i vs) (i + length vs) v
sets_snoc l i [] v = rw add-zero
sets_snoc l i (u ∷ vs) v = sets_snoc (set l i u) (suc i) vs v ∙ ap (λ (k : ℕ). set (sets (set l i u) (suc i) vs) k v) (suc-add i (length vs) ∙ sym (add-suc i (length vs)))

-- a turn of a loop that stores s from `at` on, at p
pub sets_turn : (l out : List ℕ) (at i p : ℕ) (s : List ℕ) → p ≡ at + i → i < length s → out ≡ sets l at (take i s) → set out p (get_or s i 0) ≡ sets l at (take (i + 1) s)
sets_turn l out at i p s q h e =
    let g : length (take i s) ≡ i = length-take-le i s (omega arith) in
    rw (add-one i, take-suc s i 0 h, sets_snoc l at (take i s) (get_or s i 0), g, q, e)

-- the piece ws behind the piece vs
pub sets_append : (l : List ℕ) (i : ℕ) (vs ws : List ℕ) → sets (sets l i vs) (i + length vs) ws ≡ sets l i (vs ++ ws)
sets_append l i [] ws = rw add-zero
sets_append l i (u ∷ vs) ws = ap (λ (k : ℕ). sets (sets (set l i u) (suc i) vs) k ws) (add-suc i (length vs) ∙ sym (suc-add i (length vs))) ∙ sets_append (set l i u) (suc i) vs ws
