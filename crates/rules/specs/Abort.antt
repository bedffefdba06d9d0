-- "Abort, also done inside a step that misspeculates or overflows."
-- Assumes nothing.
use Rattle.std.specs.Prelude.{cond, ◌&&◌, ℕ}
use Rattle.rules.specs.declared.State.{State}
use Rattle.rules.specs.declared.State.TheVariants.{I, M, O, E, S, SM, SO, SE, SS}
use Rattle.rules.specs.declared.Line.{Line}
use Rattle.rules.specs.declared.Machine.{Machine}
use Rattle.rules.specs.States.{spec, owns}
use Rattle.rules.specs.Line.{line, empty, hits}
use Rattle.rules.specs.Machine.{change}

-- "M (from S-M, S-O) or E (from S-E) with VIDs 0, 0"
abbrev pub settle : State → State
settle = elim [ I ↦ I | M ↦ M | O ↦ O | E ↦ E | S ↦ S | SM ↦ M | SO ↦ M | SE ↦ E | SS ↦ I ]

abbrev pub settled : Line → Line
settled l = line (settle l.state) l.address 0 0 l.word

-- "S-S lines drop. Other speculative lines that LCVID hits become M or E; the rest drop. Plain lines stay."
unfoldable pub abort_line : ℕ → Line → Line
abort_line lc l = cond (spec l.state) (cond (owns l.state && hits lc l) (settled l) empty) l

-- "and LCVID stay"
unfoldable pub abort_of : Machine → Machine
abort_of μ = change (λ p l. abort_line μ.lcvid l) μ
