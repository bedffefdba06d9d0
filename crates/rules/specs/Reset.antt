-- "Reset: S-M becomes M, S-E becomes E, both with VIDs 0, 0; S-O and S-S drop; LCVID becomes 0 and a new flight begins."
-- Assumes nothing.
use Rattle.std.specs.Prelude.{Bool, cond, ◌&&◌, ltb}
use Rattle.rules.specs.declared.Line.{Line}
use Rattle.rules.specs.declared.Machine.{Machine}
use Rattle.rules.specs.States.{ranged, top}
use Rattle.rules.specs.Line.{empty}
use Rattle.rules.specs.Machine.{change, any_line, with_lcvid}
use Rattle.rules.specs.Abort.{settled}

unfoldable pub reset_line : Line → Line
reset_line l = cond (ranged l.state) empty (cond (top l.state) (settled l) l)

unfoldable pub reset_of : Machine → Machine
reset_of μ = with_lcvid 0 (change (λ p l. reset_line l) μ)

-- refusal 9: "some S-M or S-E has h above LCVID"
unfoldable pub unsettled : Machine → Bool
unsettled μ = any_line (λ p l. top l.state && ltb μ.lcvid l.h) μ
