-- The machine: its lines by place, how they change, drop, are found and are placed; memory; a fresh machine.
-- A machine is built here alone: `with_caches`, `write`, `with_lcvid`, `fresh`.
-- Assumes nothing.
use Rattle.std.specs.Prelude.{Bool, true, false, cond, ◌&&◌, not, List, [], ℕ, leb, get_or, set, replicate, Option, Some, None}
use Rattle.rules.specs.declared.Line.{Line}
use Rattle.rules.specs.declared.Cache.{Cache}
use Rattle.rules.specs.declared.Machine.{Machine}
use Rattle.rules.specs.declared.Pos.{Pos}
use Rattle.rules.specs.declared.Answer.{Answer}
use Rattle.rules.specs.declared.Answer.TheVariants.{Done, Refused}
use Rattle.rules.specs.declared.Reason.TheVariants.{CacheCount, NoRoom}
use Rattle.rules.specs.declared.Answered.{Answered}
use Rattle.rules.specs.Data.{Data, no_data}
use Rattle.rules.specs.Line.{empty, live}
use Rattle.rules.specs.Lists.{map_at, all_at, first_at, first_found}

-- ---- lines by place

abbrev pub pos : ℕ → ℕ → Pos
pos c s = record { cache = c; slot = s }

-- past the end, as the language has it: no lines, an empty slot, a zero word
abbrev pub no_cache : Cache
no_cache = record { lines = [] }

unfoldable pub at : Machine → Pos → Line
at μ p = get_or (get_or μ.caches p.cache no_cache).lines p.slot empty

unfoldable pub memory_at : Machine → ℕ → Data
memory_at μ x = get_or μ.memory x no_data

-- "VIDs are 6 bits: transactions 1 to 63": one more than the last VID
abbrev pub vids : Machine → ℕ
vids μ = 64

abbrev pub with_caches : Machine → List Cache → Machine
with_caches μ ks = record { caches = ks; count = μ.count; lcvid = μ.lcvid; memory = μ.memory }

-- every line changed, by its place
unfoldable pub change : (Pos → Line → Line) → Machine → Machine
change k μ = with_caches μ (map_at (λ c h. record { lines = map_at (λ s l. k (pos c s) l) h.lines }) μ.caches)

-- "'Drop' empties slots, of dead lines too."
unfoldable pub drop : (Pos → Line → Bool) → Machine → Machine
drop t μ = change (λ p l. cond (t p l) empty l) μ

-- a line in a slot
unfoldable pub put : Pos → Line → Machine → Machine
put p l μ = with_caches μ (set μ.caches p.cache (record { lines = set (get_or μ.caches p.cache no_cache).lines p.slot l }))

-- a word to memory
unfoldable pub write : ℕ → Data → Machine → Machine
write x d μ = record { caches = μ.caches; count = μ.count; lcvid = μ.lcvid; memory = set μ.memory x d }

unfoldable pub with_lcvid : ℕ → Machine → Machine
with_lcvid v μ = record { caches = μ.caches; count = μ.count; lcvid = v; memory = μ.memory }

-- ---- searches, cache by cache and slot by slot

abbrev pub in_cache : ℕ → Option ℕ → Option Pos
in_cache c (Some s) = Some (pos c s)
in_cache c None = None

unfoldable pub find : (Pos → Line → Bool) → Machine → Option Pos
find t μ = first_found (λ c h. in_cache c (first_at (λ s l. t (pos c s) l) h.lines)) μ.caches

abbrev pub is_found : Option Pos → Bool
is_found (Some p) = true
is_found None = false

unfoldable pub any_line : (Pos → Line → Bool) → Machine → Bool
any_line t μ = is_found (find t μ)

unfoldable pub all_lines : (Pos → Line → Bool) → Machine → Bool
all_lines t μ = all_at (λ c h. all_at (λ s l. t (pos c s) l) h.lines) μ.caches

-- ---- placing

abbrev pub gives : Answer → Machine → Answered
gives r μ = record { answer = r; machine = μ }

-- "the lowest free slot of the asking cache; free means empty, dead, or dropped by this very step. Dropping comes before placing."
abbrev pub free_in : ℕ → Cache → Option ℕ
free_in lc k = first_at (λ s l. not (live lc l)) k.lines

unfoldable pub free_slot : Machine → ℕ → Option ℕ
free_slot μ c = free_in μ.lcvid (get_or μ.caches c no_cache)

-- "The asker places": in δ, which is μ after the drops; where no slot is free, refusal 11, and μ comes back unchanged
abbrev pub placed_in : Machine → Answer → ℕ → Line → Machine → Option ℕ → Answered
placed_in μ r c l δ (Some s) = gives r (put (pos c s) l δ)
placed_in μ r c l δ None = gives (Refused NoRoom) μ

unfoldable pub place : Machine → Answer → ℕ → Line → Machine → Answered
place μ r c l δ = placed_in μ r c l δ (free_slot δ c)

-- the same for two lines, one after the other
abbrev pub placed_two_in : Machine → Answer → ℕ → Line → Line → Machine → Option ℕ → Answered
placed_two_in μ r c k l δ (Some s) = place μ r c l (put (pos c s) k δ)
placed_two_in μ r c k l δ None = gives (Refused NoRoom) μ

unfoldable pub place_two : Machine → Answer → ℕ → Line → Line → Machine → Answered
place_two μ r c k l δ = placed_two_in μ r c k l δ (free_slot δ c)

-- ---- "A fresh machine has every slot empty, LCVID (last committed VID) 0, and a memory of 64 words given by the caller."

unfoldable pub fresh : ℕ → List Data → Machine
fresh n words = record { caches = replicate 4 (record { lines = replicate 16 empty }); count = n; lcvid = 0; memory = words }

-- making one: refusal 1 where the caches are not 1 to 4; "1 hands back a fresh one-cache machine with zero memory"
unfoldable pub make_of : ℕ → List Data → Answered
make_of n words = cond (leb 1 n && leb n 4) (gives Done (fresh n words)) (gives (Refused CacheCount) (fresh 1 (replicate 64 no_data)))
