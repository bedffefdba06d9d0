-- Demand 3: what stands of a list of steps, the memory without caches, and the claim that they agree.
-- "At every moment" needs no words of its own: what has been done up to a moment is a list of steps too, and the claim is made for every list.
-- Assumes nothing.
use Rattle.std.specs.Prelude.{◌≡◌, Bool, true, false, cond, ◌&&◌, List, [], ◌∷◌, ◌++◌, ℕ, zero, suc, ◌≤◌, ◌<◌, leb, eqb, length, get_or}
use Rattle.rules.specs.declared.Op.{Op}
use Rattle.rules.specs.declared.Op.TheVariants.{Load, Store, Commit, Abort, Reset, Evict}
use Rattle.rules.specs.declared.Answer.{Answer}
use Rattle.rules.specs.declared.Answer.TheVariants.{Value, Done, Misspec, Overflow, Refused}
use Rattle.rules.specs.Data.{Data, no_data, read, line_of, word_of}
use Rattle.rules.specs.Machine.{fresh}
use Rattle.rules.specs.Step.{acts_with, step_of}

-- ---- a list of steps and their answers

pub record Event : Type 0 where
  pub op : Op
  pub answer : Answer

-- the steps of a list, one after the other, with what they answer
module _ {M : Type 0} (answer : M → Op → Answer) (after : M → Op → M) where
  unfoldable pub events : M → List Op → List Event
  events m [] = []
  events m (op ∷ ops) = record { op = op; answer = answer m op } ∷ events (after m op) ops

-- ---- what stands of it

-- a load or store that was made: the VID it counts as, whether it stores, where, and the word that it returned or wrote
pub record Access : Type 0 where
  pub vid : ℕ
  pub stores : Bool
  pub at : ℕ
  pub word : ℕ

-- the last committed VID of this flight (0 if none), the flights before it, and the accesses of this one, each in list order
pub record Standing : Type 0 where
  pub last : ℕ
  pub past : List (List Access)
  pub now : List Access

abbrev pub none : Standing
none = record { last = 0; past = []; now = [] }

abbrev pub more : Standing → Access → Standing
more g e = record { last = g.last; past = g.past; now = g.now ++ e ∷ [] }

-- the accesses with a VID up to v
unfoldable pub up_to : ℕ → List Access → List Access
up_to v [] = []
up_to v (e ∷ l) = cond (leb e.vid v) (e ∷ up_to v l) (up_to v l)

-- "strike ... all loads and stores made in that flight with a VID above the last committed in it (0 if none)"
abbrev pub struck : Standing → Standing
struck g = record { last = g.last; past = g.past; now = up_to g.last g.now }

-- "a plain access counts as the VID so last committed when it was made"
abbrev pub loaded : Standing → Op → ℕ → Standing
loaded g (Load c v at) w = more g (record { vid = acts_with g.last v; stores = false; at = at; word = w })
loaded g (Store c v at d) w = g
loaded g (Commit v) w = g
loaded g Abort w = g
loaded g Reset w = g
loaded g (Evict c s) w = g

-- a step that is done; "an abort asked for" strikes; a reset begins a new flight
abbrev pub finished : Standing → Op → Standing
finished g (Load c v at) = g
finished g (Store c v at d) = more g (record { vid = acts_with g.last v; stores = true; at = at; word = d })
finished g (Commit v) = record { last = v; past = g.past; now = g.now }
finished g Abort = struck g
finished g Reset = record { last = 0; past = g.past ++ g.now ∷ []; now = [] }
finished g (Evict c s) = g

-- "Strike the refused ones. At each abort, asked for or forced, strike the step that forced it"
abbrev pub note : Standing → Op → Answer → Standing
note g op (Value w) = loaded g op w
note g op Done = finished g op
note g op Misspec = struck g
note g op Overflow = struck g
note g op (Refused r) = g

abbrev pub standing : Standing → List Event → Standing
standing g [] = g
standing g (e ∷ h) = standing (note g e.op e.answer) h

-- ---- "flight by flight, in each flight by VID, in one VID in list order"

unfoldable pub of_vid : ℕ → List Access → List Access
of_vid v [] = []
of_vid v (e ∷ l) = cond (eqb e.vid v) (e ∷ of_vid v l) (of_vid v l)

-- those with a VID below n, by VID
unfoldable pub below : ℕ → List Access → List Access
below zero l = []
below (suc n) l = below n l ++ of_vid n l

unfoldable pub in_order : ℕ → List (List Access) → List Access
in_order n [] = []
in_order n (f ∷ fs) = below n f ++ in_order n fs

-- ---- a memory without caches

unfoldable pub once : (ℕ → ℕ) → Access → ℕ → ℕ
once mem e x = cond (eqb x e.at && e.stores) e.word (mem x)

-- each load of the list returned what that memory holds when the accesses run one after the other
unfoldable pub Returned : (ℕ → ℕ) → List Access → Type 0
Returned mem [] = Unit {0}
Returned mem (e ∷ l) = (e.stores ≡ false → e.word ≡ mem e.at) × Returned (once mem e) l

-- ---- the claim

unfoldable pub Every : {A : Type 0} → (A → Type 0) → List A → Type 0
Every P [] = Unit {0}
Every P (e ∷ l) = P e × Every P l

-- with VIDs below n: the order leaves no access out, and each load that stands returned what the memory without caches returns
pub record Serial (n : ℕ) (mem : ℕ → ℕ) (g : Standing) : Type 0 where
  pub all : Every (λ f. Every (λ e. e.vid < n) f) (g.past ++ g.now ∷ [])
  pub returned : Returned mem (in_order n (g.past ++ g.now ∷ []))

-- "Start from a fresh machine and take any list of steps", for 1 to 4 caches and every memory of 64 words
unfoldable pub Demand3 : Type 0
Demand3 =
    (n : ℕ) (words : List Data) → 1 ≤ n → n ≤ 4 → length words ≡ 64 → (ops : List Op)
    → Serial 64 (λ at. read (get_or words (line_of at) no_data) (word_of at)) (standing none (events (λ μ op. (step_of μ op).answer) (λ μ op. (step_of μ op).machine) (fresh n words) ops))
