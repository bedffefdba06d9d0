-- "Commit c: LCVID becomes c. Nothing else changes."
-- Assumes nothing.
use Rattle.std.specs.Prelude.{ℕ}
use Rattle.rules.specs.declared.Machine.{Machine}
use Rattle.rules.specs.Machine.{with_lcvid}

unfoldable pub commit_of : Machine → ℕ → Machine
commit_of μ c = with_lcvid c μ
