-- The marked cases: the ten steps of document 01's exact trace give its ten answers, computed from the definitions.
-- Assumes nothing.
use mathlib.Core.Path.{refl}
use Rattle.rules.specs.Data.{read, put_word, same_data}
use Rattle.rules.specs.Line.{dead, live, hits, is_owner, is_plain, is_share}
use Rattle.rules.specs.Lists.{map_at, all_at, first_at, first_found}
use Rattle.rules.specs.Machine.{at, memory_at, change, drop, put, write, with_lcvid, find, any_line, all_lines, free_slot, place, place_two, fresh}
use Rattle.rules.specs.Abort.{abort_line, abort_of}
use Rattle.rules.specs.Load.{read_by, after_read, is_own_share, is_stale_share, load_owned, plain_data, view, demote_line, is_of, is_dirty, load_new, load_of}
use Rattle.rules.specs.Store.{misspeculates, store_over, store_split, store_new, store_owned, store_m, store_of, new_data}
use Rattle.rules.specs.Commit.{commit_of}
use Rattle.rules.specs.HouseTest.{line_fits, slot_fits, disjoint, pair_fits, some, owns_it, needs_met, pairs_fit, is_sound}
use Rattle.rules.specs.Step.{checked, rule_of, step_of}
use Rattle.rules.specs.Flights.{events}
use Rattle.rules.specs.Marked.{Marked}

pub marked : Marked
unfolding Marked read put_word same_data dead live hits is_owner is_plain is_share map_at all_at first_at first_found at memory_at change drop put write with_lcvid find any_line all_lines free_slot place place_two fresh abort_line abort_of read_by after_read is_own_share is_stale_share load_owned plain_data view demote_line is_of is_dirty load_new load_of misspeculates store_over store_split store_new store_owned store_m store_of new_data commit_of line_fits slot_fits disjoint pair_fits some owns_it needs_met pairs_fit is_sound checked rule_of step_of events
marked = refl
