-- What a change does to each line: for each `Change`, the rules' change of one line; and to a cache.
-- Assumes nothing.
use Rattle.std.specs.Prelude.{Bool, true, false, cond, ℕ, eqb}
use Rattle.rules.specs.declared.Line.{Line}
use Rattle.rules.specs.declared.Cache.{Cache}
use Rattle.rules.specs.declared.Pos.{Pos}
use Rattle.rules.specs.Lists.{map_at}
use Rattle.rules.specs.Line.{empty, is_share}
use Rattle.rules.specs.Machine.{pos}
use Rattle.rules.specs.Load.{is_of, is_stale_share, demote_line}
use Rattle.rules.specs.Abort.{abort_line}
use Rattle.rules.specs.Reset.{reset_line}
use Rattle.moves.specs.declared.changes.Change.{Change}
use Rattle.moves.specs.declared.changes.Change.TheVariants.{DropOf, DropShares, DropStale, Demote, Abort, Reset, Stay}

abbrev pub changed : Change → Pos → Line → Line
changed (DropOf x) = λ p l. cond (is_of x p l) empty l
changed (DropShares x m) = λ p l. cond (is_share x m l) empty l
changed (DropStale c x m) = λ p l. cond (is_stale_share c x m p l) empty l
changed (Demote x) = λ p l. demote_line x l
changed (Abort lc) = λ p l. abort_line lc l
changed Reset = λ p l. reset_line l
changed Stay = λ p l. l

-- what becomes of cache c
abbrev pub changed_cache : Change → ℕ → Cache → Cache
changed_cache ch c k = record { lines = map_at (λ s l. changed ch (pos c s) l) k.lines }

-- the lines that it can reach: one that it can't stays (law `unreached_stays`)
abbrev pub reached : Change → Line → Bool
reached (DropOf x) = λ l. eqb l.address x
reached (DropShares x m) = λ l. eqb l.address x
reached (DropStale c x m) = λ l. eqb l.address x
reached (Demote x) = λ l. eqb l.address x
reached (Abort lc) = λ l. true
reached Reset = λ l. true
reached Stay = λ l. false

abbrev pub is_stay : Change → Bool
is_stay (DropOf x) = false
is_stay (DropShares x m) = false
is_stay (DropStale c x m) = false
is_stay (Demote x) = false
is_stay (Abort lc) = false
is_stay Reset = false
is_stay Stay = true
