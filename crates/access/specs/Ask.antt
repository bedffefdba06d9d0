-- What a load or store asks, and what it sees, once it has passed the checks; or the refusal.
-- Assumes nothing.
use Rattle.std.specs.Prelude.{ℕ, Result, Ok, Err}
use Rattle.rules.specs.declared.Machine.{Machine}
use Rattle.rules.specs.declared.Reason.{Reason}
use Rattle.rules.specs.Machine.{memory_at}
use Rattle.rules.specs.Step.{acts_with, has_vid}
use Rattle.access.specs.declared.ask.Asked.{Asked}
use Rattle.access.specs.Checks.{judged}
use Rattle.access.specs.Look.{seen_of}

-- what is asked, and what is seen of it
abbrev pub asks : Machine → ℕ → ℕ → ℕ → Asked
asks μ c v at = record { access = record { cache = c; vid = has_vid v; a = acts_with μ.lcvid v; x = at }; memory = memory_at μ at; seen = seen_of μ c (acts_with μ.lcvid v) at }

-- it goes on where the checks pass, and else has their reason
abbrev pub on_verdict : Asked → Result (Unit {0}) Reason → Result Asked Reason
on_verdict k (Ok u) = Ok k
on_verdict k (Err r) = Err r

unfoldable pub asked_of : Machine → ℕ → ℕ → ℕ → Result Asked Reason
asked_of μ c v at = on_verdict (asks μ c v at) (judged μ.count μ.lcvid c v at)
