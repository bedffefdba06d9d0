-- The contract of the line writer leaves one possible answer and one possible buffer.
-- Assumes nothing.
use mathlib.Core.Path.{◌≡◌}
use mathlib.Core.List.{List}
use Prim.Native.Nat.{ℕ}
use Rattle.std.specs.Prelude.{Result}
use Rattle.rules.proofs.Theorems.{one_result}
use Rattle.rules.specs.declared.Reason.{Reason}
use Rattle.report.specs.Report.{Writes}

pub one_line : {line : List ℕ} {place : ℕ} {before a b : List ℕ} {r s : Result ℕ Reason} → Writes line place before r a → Writes line place before s b → (r ≡ s) × (a ≡ b)
one_line v w = (one_result v.answer w.answer, one_result v.holds w.holds)
