-- The table of 81 entries is `stands` written out, row by row; so its entry in the row of one state and the column of the other says whether the two may
-- stand together. Both are tests that antt computes over all 81 entries.
-- Assumes nothing.
use Rattle.std.proofs.Common.{◌≡◌, refl, Bool, false, List, [], ◌∷◌, ℕ, get_or}
use Rattle.std.proofs.lemmas.Bool.Decides.{same_from_decides}
use Rattle.rules.specs.declared.State.{State}
use Rattle.rules.specs.declared.State.TheVariants.{I, M, O, E, S, SM, SO, SE, SS}
use Rattle.rules.specs.States.{stands}
use Rattle.rules.proofs.base.States.{states_rule}

abbrev each : {A : Type 0} → (State → A) → List A
each f = f I ∷ f M ∷ f O ∷ f E ∷ f S ∷ f SM ∷ f SO ∷ f SE ∷ f SS ∷ []

abbrev table : List (List Bool)
table = each (λ s. each (stands s))

-- a state's row, and its column
abbrev pub row_of : State → ℕ
row_of = elim [ I ↦ 0 | M ↦ 1 | O ↦ 2 | E ↦ 3 | S ↦ 4 | SM ↦ 5 | SO ↦ 6 | SE ↦ 7 | SS ↦ 8 ]

abbrev entry : State → State → Bool
entry s t = get_or (get_or table (row_of s) []) (row_of t) false

pub entry_stands : (s t : State) → entry s t ≡ stands s t
entry_stands s t = same_from_decides (entry s t) (stands s t) (states_rule entry stands refl s t, states_rule stands entry refl s t) (λ e. e, λ e. e)
