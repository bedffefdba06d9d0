-- The definition of playing, applied to document 01's exact trace text, computes to its exact report, byte for byte.
-- Assumes nothing.
use mathlib.Core.Path.{refl}
use Rattle.rules.specs.Text.{last_digits}
use Rattle.rules.specs.Data.{read, put_word, same_data}
use Rattle.rules.specs.Line.{dead, live, hits, is_owner, is_plain, is_share}
use Rattle.rules.specs.Lists.{map_at, all_at, first_at, first_found}
use Rattle.rules.specs.Machine.{at, memory_at, change, drop, put, write, with_lcvid, find, any_line, all_lines, free_slot, place, place_two, fresh, make_of}
use Rattle.rules.specs.Abort.{abort_line, abort_of}
use Rattle.rules.specs.Load.{read_by, after_read, is_own_share, is_stale_share, load_owned, plain_data, view, demote_line, is_of, is_dirty, load_new, load_of}
use Rattle.rules.specs.Store.{misspeculates, store_over, store_split, store_new, store_owned, store_m, store_of, new_data}
use Rattle.rules.specs.Commit.{commit_of}
use Rattle.rules.specs.HouseTest.{line_fits, slot_fits, disjoint, pair_fits, some, owns_it, needs_met, pairs_fit, is_sound}
use Rattle.rules.specs.Step.{checked, rule_of, step_of}
use Rattle.trace.specs.Numbers.{agreeing, digits_from, number_at, field_at, line_end}
use Rattle.trace.specs.Trace.{line_at, first_at as caches_at, first_of, kind_at, line_of, read_at}
use Rattle.report.specs.Report.{line_text}
use Rattle.play.specs.Play.{lines_from, report_of}
use Rattle.play.specs.Buffer.{joined}
use Rattle.play.specs.Exact.{Exact}

pub exact : Exact
unfolding Exact joined report_of lines_from line_text last_digits line_at caches_at first_of kind_at line_of read_at agreeing digits_from number_at field_at line_end make_of read put_word same_data dead live hits is_owner is_plain is_share map_at all_at first_at first_found at memory_at change drop put write with_lcvid find any_line all_lines free_slot place place_two fresh abort_line abort_of read_by after_read is_own_share is_stale_share load_owned plain_data view demote_line is_of is_dirty load_new load_of misspeculates store_over store_split store_new store_owned store_m store_of new_data commit_of line_fits slot_fits disjoint pair_fits some owns_it needs_met pairs_fit is_sound checked rule_of step_of
exact = refl
