-- A rule of all states is one computed test; the rules that the laws use; the table, symmetric.
-- Assumes nothing.
use mathlib.Core.Path.{◌≡◌, refl, sym, subst}
use mathlib.Core.Logic.{◌⊎◌, inl, inr}
use mathlib.Core.Bool.{Bool, true, false, ◌&&◌, not, false≢true}
use mathlib.Core.List.{List, [], ◌∷◌}
use Prim.Native.Nat.{ℕ, zero, suc, ◌+◌, ◌<◌}
use native.Mathlib.Nat.{le_of_suc-le-suc, not-suc-le-zero}
use native.Mathlib.Omega.{arith}
use lib.ListN.{length, get_or}
use borrow.Author.Tests.{not-true}
use Rattle.rules.specs.declared.State.{State}
use Rattle.rules.specs.declared.State.TheVariants.{I, M, O, E, S, SM, SO, SE, SS}
use Rattle.rules.specs.States.{is_i, is_so, is_ss, plain, spec, ranged, top, owns, stands}
use Rattle.rules.specs.HouseTest.{imp}
use Rattle.std.specs.Cmp.Derive.{both_true}
use Rattle.std.proofs.lemmas.Bool.{and_parts, both_ways, not_from_false}
use Rattle.rules.proofs.base.Bools.{by_test}

-- ---- rules as tests

abbrev states : List State
states = I ∷ M ∷ O ∷ E ∷ S ∷ SM ∷ SO ∷ SE ∷ SS ∷ []

abbrev every : (State → Bool) → List State → Bool
every f [] = true
every f (s ∷ l) = f s && every f l

abbrev pub every_state : (State → Bool) → Bool
every_state f = every f states

abbrev number : State → ℕ
number = elim [ I ↦ 0 | M ↦ 1 | O ↦ 2 | E ↦ 3 | S ↦ 4 | SM ↦ 5 | SO ↦ 6 | SE ↦ 7 | SS ↦ 8 ]

number_small : (s : State) → number s < 9
number_small s =
    elim s as (λ (s : State). number s < 9) [
      | I ↦ omega arith
      | M ↦ omega arith
      | O ↦ omega arith
      | E ↦ omega arith
      | S ↦ omega arith
      | SM ↦ omega arith
      | SO ↦ omega arith
      | SE ↦ omega arith
      | SS ↦ omega
          arith
    ]

at_number : (s : State) → get_or states (number s) I ≡ s
at_number s = elim s as (λ (s : State). get_or states (number s) I ≡ s) [ I ↦ refl | M ↦ refl | O ↦ refl | E ↦ refl | S ↦ refl | SM ↦ refl | SO ↦ refl | SE ↦ refl | SS ↦ refl ]

every_at : (f : State → Bool) (l : List State) → every f l ≡ true → (n : ℕ) → n < length l → f (get_or l n I) ≡ true
every_at f [] h n q = absurd (not-suc-le-zero q)
every_at f (s ∷ l) h zero q = (and_parts (f s) (every f l) h).0
every_at f (s ∷ l) h (suc n) q = every_at f l ((and_parts (f s) (every f l) h).1) n (le_of_suc-le-suc q)

pub by_state : (f : State → Bool) → every_state f ≡ true → (s : State) → f s ≡ true
by_state f h s = subst (λ (t : State). f t ≡ true) (at_number s) (every_at f states h (number s) (number_small s))

pub by_states : (f : State → State → Bool) → every_state (λ s. every_state (f s)) ≡ true → (s t : State) → f s t ≡ true
by_states f h s t = by_state (f s) (by_state (λ s. every_state (f s)) h s) t

mp : {a b : Bool} → imp a b ≡ true → a ≡ true → b ≡ true
mp {a} {b} h p = simp p at h

-- every state that passes f passes g; fails g; every pair
pub state_rule : (f g : State → Bool) → every_state (λ s. imp (f s) (g s)) ≡ true → (s : State) → f s ≡ true → g s ≡ true
state_rule f g h s p = mp {a = f s} (by_state (λ s. imp (f s) (g s)) h s) p

pub state_not : (f g : State → Bool) → every_state (λ s. imp (f s) (not (g s))) ≡ true → (s : State) → f s ≡ true → g s ≡ false
state_not f g h s p = not-true (g s) (state_rule f (λ s. not (g s)) h s p)

pub states_rule : (f g : State → State → Bool) → every_state (λ s. every_state (λ t. imp (f s t) (g s t))) ≡ true → (s t : State) → f s t ≡ true → g s t ≡ true
states_rule f g h s t p = mp {a = f s t} (by_states (λ s t. imp (f s t) (g s t)) h s t) p

-- no state passes both
pub state_never : {P : Type 0} (f g : State → Bool) → every_state (λ s. imp (f s) (not (g s))) ≡ true → (s : State) → f s ≡ true → g s ≡ true → P
state_never f g h s p q = absurd (both_ways _ (state_not f g h s p) q)

-- ---- the table

abbrev same : Bool → Bool → Bool
same a b = imp a b && imp b a

same_is : (a b : Bool) → same a b ≡ true → a ≡ b
same_is true true h = refl
same_is true false h = sym h
same_is false true h = h
same_is false false h = refl

-- "It is symmetric."
pub stands_symmetric : (s t : State) → stands s t ≡ stands t s
stands_symmetric s t = same_is (stands s t) (stands t s) (by_states (λ s t. same (stands s t) (stands t s)) refl s t)

-- "I is never paired."
pub stands_not_i : (s : State) → (stands I s ≡ false) × (stands s I ≡ false)
stands_not_i s = (state_not (λ s. true) (λ s. stands I s) refl s refl, state_not (λ s. true) (λ s. stands s I) refl s refl)

abbrev count : (State → Bool) → List State → ℕ
count f [] = 0
count f (s ∷ l) = elim (f s) [ true ↦ suc (count f l) | false ↦ count f l ]

abbrev count_all : List State → ℕ
count_all [] = 0
count_all (s ∷ l) = count (stands s) states + count_all l

-- 13 of the 81 entries are true
pub stands_thirteen : count_all states ≡ 13
stands_thirteen = refl

-- ---- rules of states that the laws use

pub owns_spec : (s : State) → owns s ≡ true → spec s ≡ true
owns_spec = state_rule owns spec refl

pub top_owns : (s : State) → top s ≡ true → owns s ≡ true
top_owns = state_rule top owns refl

pub top_spec : (s : State) → top s ≡ true → spec s ≡ true
top_spec = state_rule top spec refl

pub so_owns : (s : State) → is_so s ≡ true → owns s ≡ true
so_owns = state_rule is_so owns refl

pub so_ranged : (s : State) → is_so s ≡ true → ranged s ≡ true
so_ranged = state_rule is_so ranged refl

pub ss_ranged : (s : State) → is_ss s ≡ true → ranged s ≡ true
ss_ranged = state_rule is_ss ranged refl

pub owns_ranged : (s : State) → owns s ≡ true → ranged s ≡ true → is_so s ≡ true
owns_ranged s p q = state_rule (λ s. owns s && ranged s) is_so refl s (both_true p q)

pub owns_cases : (s : State) → owns s ≡ true → (is_so s ≡ true) ⊎ (top s ≡ true)
owns_cases s h = by_test (is_so s) inl (λ p. inr (state_rule (λ s. owns s && not (is_so s)) top refl s (both_true h (not_from_false _ p))))

pub plain_or_spec : (s : State) → is_i s ≡ false → (plain s ≡ true) ⊎ (spec s ≡ true)
plain_or_spec s h = by_test (plain s) inl (λ p. inr (state_rule (λ s. not (is_i s) && not (plain s)) spec refl s (both_true (not_from_false _ h) (not_from_false _ p))))

pub top_not_ranged : {P : Type 0} (s : State) → top s ≡ true → ranged s ≡ true → P
top_not_ranged = state_never top ranged refl

pub plain_not_spec : {P : Type 0} (s : State) → plain s ≡ true → spec s ≡ true → P
plain_not_spec = state_never plain spec refl

pub plain_not_ranged : {P : Type 0} (s : State) → plain s ≡ true → ranged s ≡ true → P
plain_not_ranged = state_never plain ranged refl

pub owns_not_ss : {P : Type 0} (s : State) → owns s ≡ true → is_ss s ≡ true → P
owns_not_ss = state_never owns is_ss refl

-- plain lines stand with plain ones, speculative ones with speculative ones; no two newest versions
pub stands_plain : (s t : State) → stands s t ≡ true → plain s ≡ true → plain t ≡ true
stands_plain s t h p = states_rule (λ s t. stands s t && plain s) (λ s t. plain t) refl s t (both_true h p)

pub stands_spec : (s t : State) → stands s t ≡ true → spec s ≡ true → spec t ≡ true
stands_spec s t h p = states_rule (λ s t. stands s t && spec s) (λ s t. spec t) refl s t (both_true h p)

pub top_once : {P : Type 0} (s t : State) → stands s t ≡ true → top s ≡ true → top t ≡ true → P
top_once s t h p q = absurd (false≢true (states_rule (λ s t. stands s t && (top s && top t)) (λ s t. false) refl s t (both_true h (both_true p q))))

-- beside a newest version stand S-O and S-S lines
pub beside_top : (s t : State) → stands s t ≡ true → top s ≡ true → ranged t ≡ true
beside_top s t h p = states_rule (λ s t. stands s t && top s) (λ s t. ranged t) refl s t (both_true h p)
