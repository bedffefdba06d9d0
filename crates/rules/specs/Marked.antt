-- The marked cases: the ten steps of document 01's exact trace, and their answers.
-- Assumes nothing.
use Rattle.std.specs.Prelude.{◌≡◌, List, [], ◌∷◌, map, replicate, ℕ}
use Rattle.rules.specs.declared.Op.{Op}
use Rattle.rules.specs.declared.Op.TheVariants.{Load, Store, Commit}
use Rattle.rules.specs.Answer.{value_text, done_text, misspec_text, refused_text, Shown, shown}
use Rattle.rules.specs.Machine.{fresh}
use Rattle.rules.specs.Step.{step_of}
use Rattle.rules.specs.Flights.{events}

abbrev pub marked_steps : List Op
marked_steps =
    Store 0 1 5 10
    ∷ Load 1 2 5
    ∷ Load 1 0 5
    ∷ Commit 1
    ∷ Load 1 0 5
    ∷ Store 0 2 5 20
    ∷ Load 0 3 5
    ∷ Store 1 2 5 21
    ∷ Load 1 0 5
    ∷ Commit 3
    ∷ []

-- as document 01's exact report shows them: a text, the number of a refusal or 0, the data
abbrev row : List ℕ → ℕ → ℕ → Shown
row t n d = record { text = t; number = n; value = d }

abbrev pub marked_answers : List Shown
marked_answers =
    row done_text 0 0
    ∷ row value_text 0 10
    ∷ row value_text 0 0
    ∷ row done_text 0 0
    ∷ row value_text 0 10
    ∷ row done_text 0 0
    ∷ row value_text 0 20
    ∷ row misspec_text 0 0
    ∷ row value_text 0 10
    ∷ row refused_text 8 0
    ∷ []

-- from a fresh machine of two caches with zero memory
unfoldable pub Marked : Type 0
Marked = map (λ e. shown e.answer) (events (λ μ op. (step_of μ op).answer) (λ μ op. (step_of μ op).machine) (fresh 2 (replicate 64 0)) marked_steps) ≡ marked_answers
