-- The first line, `caches=N`, and a step's line, `op=load cache=0 vid=2 at=5 data=0`, "each line ended by one LF".
-- Assumes nothing.
use Rattle.std.specs.Prelude.{Bool, true, false, cond, List, [], ◌∷◌, ◌++◌, ℕ, ◌+◌, ◌-◌, leb, eqb, length, drop, get_or, Option, Some, None, Result, Ok, Err, codes}
use Rattle.rules.specs.declared.Op.{Op}
use Rattle.rules.specs.declared.Op.TheVariants.{Load, Store, Commit, Abort, Reset, Evict}
use Rattle.rules.specs.Text.{data_key}
use Rattle.trace.specs.declared.Broken.{Broken}
use Rattle.trace.specs.declared.Caches.{Caches}
use Rattle.trace.specs.declared.Step.{Step}
use Rattle.trace.specs.declared.numbers.Wrong.{Wrong}
use Rattle.trace.specs.declared.Kind.{Kind}
use Rattle.trace.specs.declared.Kind.TheVariants.{AskLoad, AskStore, AskCommit, AskAbort, AskReset, AskEvict}
use Rattle.trace.specs.declared.Uses.{Uses}
use Rattle.trace.specs.Numbers.{Parsed, ◌>>=◌, field_at, line_end}

-- ---- keys, in ASCII

abbrev pub caches_key : List ℕ
caches_key = codes "caches="

abbrev pub cache_key : List ℕ
cache_key = codes " cache="

abbrev pub vid_key : List ℕ
vid_key = codes " vid="

abbrev pub at_key : List ℕ
at_key = codes " at="

-- the six ops
abbrev pub op_text : Kind → List ℕ
op_text AskLoad = codes "op=load"
op_text AskStore = codes "op=store"
op_text AskCommit = codes "op=commit"
op_text AskAbort = codes "op=abort"
op_text AskReset = codes "op=reset"
op_text AskEvict = codes "op=evict"

-- ---- the fields of a line

-- a key, and whether its number is used; one that isn't "must be 0"
pub record Field : Type 0 where
  pub key : List ℕ
  pub used : Bool

-- "load uses cache, vid, at; store all; commit vid; evict cache, at; abort and reset none"
abbrev pub uses_of : Kind → Uses
uses_of AskLoad = record { cache = true; vid = true; at = true; word = false }
uses_of AskStore = record { cache = true; vid = true; at = true; word = true }
uses_of AskCommit = record { cache = false; vid = true; at = false; word = false }
uses_of AskAbort = record { cache = false; vid = false; at = false; word = false }
uses_of AskReset = record { cache = false; vid = false; at = false; word = false }
uses_of AskEvict = record { cache = true; vid = false; at = true; word = false }

-- "keys in this order"; the op stands before the first
abbrev pub fields_of : Kind → List Field
fields_of k =
    record { key = op_text k ++ cache_key; used = (uses_of k).cache }
    ∷ record { key = vid_key; used = (uses_of k).vid }
    ∷ record { key = at_key; used = (uses_of k).at }
    ∷ record { key = data_key; used = (uses_of k).word }
    ∷ []

-- the numbers of a line and the place after its LF
pub record Numbers : Type 0 where
  pub values : List ℕ
  pub next : ℕ

abbrev pub numbers : List ℕ → ℕ → Parsed Numbers
numbers ns next = Ok (record { values = ns; next = next })

-- "keys in this order, one space between": the numbers, or what is wrong with the line, and at which place
unfoldable pub line_at : List Field → List ℕ → ℕ → Parsed Numbers
line_at [] s at = do
  next ← line_end s at
  numbers [] next
line_at (f ∷ fs) s at = do
  n ← field_at f.key f.used s at
  rest ← line_at fs s n.next
  numbers (n.value ∷ rest.values) rest.next

-- "the byte column, from 1", within the line that begins at a place
abbrev pub column : ℕ → ℕ → ℕ
column at place = place - at + 1

-- so it is told where something is wrong
abbrev pub broken_at : ℕ → Wrong → Broken
broken_at at w = record { fault = w.fault; column = column at w.place }

abbrev pub in_line : {A : Type 0} → ℕ → Parsed A → Result A Broken
in_line at (Ok a) = Ok a
in_line at (Err w) = Err (broken_at at w)

-- ---- the first line

abbrev pub first_fields : List Field
first_fields = record { key = caches_key; used = true } ∷ []

abbrev pub caches_of : Numbers → Caches
caches_of r = record { count = get_or r.values 0 0; next = r.next }

unfoldable pub first_at : List ℕ → Parsed Caches
first_at s = do
  r ← line_at first_fields s 0
  Ok (caches_of r)

unfoldable pub first_of : List ℕ → Result Caches Broken
first_of s = in_line 0 (first_at s)

-- ---- a step's line

-- the op by its first letter, which is another for each of the six; where it is none of theirs, the line breaks there for each of the six
abbrev pub kind_by : List ℕ → Kind
kind_by [] = AskLoad
kind_by (b ∷ s) =
    cond (eqb b 115) AskStore
    (cond (eqb b 99) AskCommit
    (cond (eqb b 97) AskAbort
    (cond (eqb b 114) AskReset
    (cond (eqb b 101) AskEvict AskLoad))))

-- the letter stands behind `op=`
unfoldable pub kind_at : List ℕ → ℕ → Kind
kind_at s at = kind_by (drop 3 (drop at s))

-- "For evict, `at` is the slot"
abbrev pub op_of : Kind → ℕ → ℕ → ℕ → ℕ → Op
op_of AskLoad c v x d = Load c v x
op_of AskStore c v x d = Store c v x d
op_of AskCommit c v x d = Commit v
op_of AskAbort c v x d = Abort
op_of AskReset c v x d = Reset
op_of AskEvict c v x d = Evict c x

abbrev pub step_of : Kind → Numbers → Step
step_of k r = record { op = op_of k (get_or r.values 0 0) (get_or r.values 1 0) (get_or r.values 2 0) (get_or r.values 3 0); next = r.next }

-- the line of an op, as a step
unfoldable pub line_of : Kind → List ℕ → ℕ → Parsed Step
line_of k s at = do
  r ← line_at (fields_of k) s at
  Ok (step_of k r)

-- "one step a line": the step and the place after its line, none where the text ends there, or what is wrong with the line, and the column
unfoldable pub read_at : List ℕ → ℕ → Result (Option Step) Broken
read_at s at = cond (leb (length s) at) (Ok None) (do
  t ← in_line at (line_of (kind_at s at) s at)
  Ok (Some t))
