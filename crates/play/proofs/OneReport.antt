-- The contract of the player leaves one possible answer and one possible buffer.
-- Assumes nothing.
use mathlib.Core.Path.{◌≡◌, ◌∙◌}
use mathlib.Core.List.{List}
use Prim.Native.Nat.{ℕ}
use Rattle.rules.proofs.Theorems.{one_result}
use Rattle.play.specs.declared.Played.{Played}
use Rattle.play.specs.Buffer.{Plays}

pub one_report : {lines : List (List ℕ)} {before a b : List ℕ} {r s : Played} → Plays lines before r a → Plays lines before s b → (r ≡ s) × (a ≡ b)
one_report v w =
    let e = one_result v.place w.place in
    let f = one_result v.whole w.whole in
    (rw (e, f), one_result v.holds (w.holds ∙ rw (← e)))
