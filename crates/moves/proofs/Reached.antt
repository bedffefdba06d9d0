-- A line that a change can't reach stays as it is.
-- Assumes nothing.
use mathlib.Core.Path.{◌≡◌, refl}
use mathlib.Core.Bool.{false, true≢false}
use lib.Dec.{eqb}
use Rattle.rules.specs.declared.Line.{Line}
use Rattle.rules.specs.declared.Pos.{Pos}
use Rattle.rules.specs.States.{is_ss}
use Rattle.rules.specs.Line.{is_share}
use Rattle.rules.specs.Load.{is_of, is_stale_share, demote_line}
use Rattle.std.proofs.lemmas.Bool.{and_right}
use Rattle.moves.specs.declared.changes.Change.{Change}
use Rattle.moves.specs.declared.changes.Change.TheVariants.{DropOf, DropShares, DropStale, Demote, Abort, Reset, Stay}
use Rattle.moves.specs.Change.{changed, reached}

pub unreached_stays : (ch : Change) (p : Pos) (l : Line) → reached ch l ≡ false → changed ch p l ≡ l
unfolding is_of is_share is_stale_share demote_line
unreached_stays (DropOf x) p l e = rw e
unreached_stays (DropShares x m) p l e = rw (e, and_right (is_ss l.state) _ refl)
unreached_stays (DropStale c x m) p l e = rw (e, and_right (is_ss l.state) _ refl, and_right (eqb p.cache c) _ refl)
unreached_stays (Demote x) p l e = rw e
unreached_stays (Abort lc) p l e = absurd (true≢false e)
unreached_stays Reset p l e = absurd (true≢false e)
unreached_stays Stay p l e = refl
