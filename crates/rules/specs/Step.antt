-- One step: the refusals 2 to 11 in their order, then the rule. "The order of checks is 2 to 11 as numbered; misspeculation comes before 11." The last
-- number is inside the rules of load and store, where a line is placed; misspeculation places none.
-- Assumes nothing.
use Rattle.std.specs.Prelude.{Bool, cond, ◌&&◌, not, ℕ, zero, suc, ltb, leb, eqb}
use Rattle.rules.specs.declared.Machine.{Machine}
use Rattle.rules.specs.declared.Op.{Op}
use Rattle.rules.specs.declared.Op.TheVariants.{Load, Store, Commit, Abort, Reset, Evict}
use Rattle.rules.specs.declared.Reason.{Reason}
use Rattle.rules.specs.declared.Reason.TheVariants.{NotSound, NoSuchCache, AddressTooLarge, SlotTooLarge, VidTooLarge, VidPast, VidNotNext, NotSettled, SlotEmpty}
use Rattle.rules.specs.declared.Answer.TheVariants.{Done, Refused}
use Rattle.rules.specs.declared.Answered.{Answered}
use Rattle.rules.specs.Data.{line_of, word_of, last_address}
use Rattle.rules.specs.States.{is_i}
use Rattle.rules.specs.Machine.{pos, at, vids, gives}
use Rattle.rules.specs.Abort.{abort_of}
use Rattle.rules.specs.Load.{load_of}
use Rattle.rules.specs.Store.{store_of, new_data}
use Rattle.rules.specs.Commit.{commit_of}
use Rattle.rules.specs.Reset.{reset_of, unsettled}
use Rattle.rules.specs.Evict.{evict_of}
use Rattle.rules.specs.HouseTest.{is_sound}

-- "A refusal carries its number and no value, and the machine comes back unchanged"; else the rest
abbrev pub refuse : Bool → Reason → Machine → Answered → Answered
refuse b r μ rest = cond b (gives (Refused r) μ) rest

-- "An access with VID 0 is plain and acts with number a = LCVID; otherwise a is its VID."
abbrev pub acts_with : ℕ → ℕ → ℕ
acts_with lc zero = lc
acts_with lc (suc v) = suc v

abbrev pub has_vid : ℕ → Bool
has_vid v = not (eqb v 0)

-- what loads and stores are refused for: 3, 4, 6, and 7, "VID from 1 to LCVID". Before them 2, where LCVID is above the last VID: such a machine is not
-- sound, and the numbers of a plain access would not fit.
unfoldable pub checked : Machine → ℕ → ℕ → ℕ → Answered → Answered
checked μ c v at rest =
    refuse (leb (vids μ) μ.lcvid) NotSound μ
    (refuse (leb μ.count c) NoSuchCache μ
    (refuse (ltb last_address at) AddressTooLarge μ
    (refuse (leb (vids μ) v) VidTooLarge μ
    (refuse (has_vid v && leb v μ.lcvid) VidPast μ
    rest))))

-- the step without the test of the house rules, for every machine whatsoever
unfoldable pub rule_of : Machine → Op → Answered
rule_of μ (Load c v at) = checked μ c v at (load_of μ (has_vid v) c (acts_with μ.lcvid v) (line_of at) (word_of at))
rule_of μ (Store c v at w) = checked μ c v at (store_of μ (has_vid v) c (acts_with μ.lcvid v) (line_of at) (new_data μ (acts_with μ.lcvid v) (line_of at) (word_of at) w))
rule_of μ (Commit v) = refuse (leb (vids μ) v) VidTooLarge μ (refuse (not (eqb v (suc μ.lcvid))) VidNotNext μ (gives Done (commit_of μ v)))
rule_of μ Abort = gives Done (abort_of μ)
rule_of μ Reset = refuse (unsettled μ) NotSettled μ (gives Done (reset_of μ))
rule_of μ (Evict c s) = refuse (leb μ.count c) NoSuchCache μ (refuse (ltb 15 s) SlotTooLarge μ (refuse (is_i (at μ (pos c s)).state) SlotEmpty μ (evict_of μ (pos c s))))

-- the step: refusal 2 first, "machine not sound"
unfoldable pub step_of : Machine → Op → Answered
step_of μ op = refuse (not (is_sound μ)) NotSound μ (rule_of μ op)
