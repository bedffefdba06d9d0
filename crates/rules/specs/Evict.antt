-- "Evict slot."
-- Assumes nothing.
use Rattle.std.specs.Prelude.{Bool, cond, ◌&&◌, ◌||◌, leb}
use Rattle.rules.specs.declared.State.{State}
use Rattle.rules.specs.declared.Machine.{Machine}
use Rattle.rules.specs.declared.Pos.{Pos}
use Rattle.rules.specs.declared.Answer.TheVariants.{Done, Overflow}
use Rattle.rules.specs.declared.Answered.{Answered}
use Rattle.rules.specs.States.{·, ✓, row, is_sm, top, dirty}
use Rattle.rules.specs.Line.{empty, dead, is_share}
use Rattle.rules.specs.Machine.{at, drop, put, write, gives}
use Rattle.rules.specs.Abort.{abort_of}

-- "E, S, S-S"
abbrev pub spare : State → Bool
spare = row · · · ✓ ✓ · · · ✓

-- its word to memory
abbrev pub write_back : Pos → Machine → Machine → Machine
write_back p μ ν = write (at μ p).address (at μ p).word ν

-- "S-S lines with that m and address drop; emptied"
unfoldable pub with_shares : Machine → Pos → Machine
with_shares μ p = put p empty (drop (λ q l. is_share (at μ p).address (at μ p).m l) μ)

-- "S-M writes its word to memory", S-E has none to write
unfoldable pub settled_out : Machine → Pos → Machine
settled_out μ p = cond (is_sm (at μ p).state) (write_back p μ (with_shares μ p)) (with_shares μ p)

-- "Dead, E, S, S-S: emptied. M, O: word to memory, emptied. S-M or S-E with h ≤ LCVID: S-M writes its word to memory; S-S lines with that m and
-- address drop; emptied. Any other S-M, S-E or live S-O: overflow, the machine aborts and nothing more is done."
unfoldable pub evict_of : Machine → Pos → Answered
evict_of μ p =
    cond (dead μ.lcvid (at μ p) || spare (at μ p).state) (gives Done (put p empty μ))
    (cond (dirty (at μ p).state) (gives Done (write_back p μ (put p empty μ)))
    (cond (top (at μ p).state && leb (at μ p).h μ.lcvid)
    (gives Done (settled_out μ p))
    (gives Overflow (abort_of μ))))
