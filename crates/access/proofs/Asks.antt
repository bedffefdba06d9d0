-- What asking comes to: `checked` gives the refusal, or the rest; and what goes on is asked of that machine, with a number below 64.
-- Assumes nothing.
use mathlib.Core.Path.{◌≡◌, refl, ◌∙◌}
use mathlib.Core.Bool.{false}
use Prim.Native.Nat.{ℕ, zero, suc, ◌<◌}
use native.Mathlib.Omega.{arith}
use lib.Dec.{eqb}
use borrow.Author.Tests.{eqb-true, not-false}
use Rattle.std.specs.Prelude.{Option, Ok, Err}
use Rattle.rules.specs.declared.Held.{Held}
use Rattle.rules.specs.declared.Machine.{Machine}
use Rattle.rules.specs.declared.Reason.{Reason}
use Rattle.rules.specs.declared.Answer.TheVariants.{Refused}
use Rattle.rules.specs.declared.Answered.{Answered}
use Rattle.rules.specs.Machine.{gives}
use Rattle.rules.specs.Step.{has_vid, acts_with, checked}
use Rattle.access.specs.declared.ask.Asked.{Asked}
use Rattle.access.specs.Checks.{judged}
use Rattle.access.specs.Ask.{asks, on_verdict, asked_of}
use Rattle.access.specs.Plan.{Sees, StoreSees}
use Rattle.access.specs.Search.{searched, ActsAs}
use Rattle.access.proofs.Found.{owner_seen, plain_seen}
use Rattle.access.proofs.Searches.{cleared}
use Rattle.access.proofs.Verdicts.{Verdict, told, checked_told, passed}

-- a plain access acts with LCVID
pub plain_acts : (lc v : ℕ) → has_vid v ≡ false → acts_with lc v ≡ lc
plain_acts lc zero e = refl
plain_acts lc (suc v) e = let z = eqb-true (suc v) 0 (not-false (eqb (suc v) 0) e) in absurd (omega (arith, z))

-- ---- by the verdict

barred_by : (μ : Machine) (rest : Answered) (k : Asked) (j : Verdict) {r : Reason} → on_verdict k j ≡ Err r → told μ rest j ≡ gives (Refused r) μ
barred_by μ rest k (Ok u) e = absurd (cc)
barred_by μ rest k (Err s) {r} e = let z : s ≡ r = cc in rw z

goes_by : (k : Asked) (j : Verdict) {l : Asked} → on_verdict k j ≡ Ok l → (l ≡ k) × (j ≡ Ok tt)
goes_by k (Ok u) e = (cc, refl)
goes_by k (Err r) e = absurd (cc)

-- ---- what was asked

module _ (μ : Machine) (c v at : ℕ) where
  pub barred : {r : Reason} → asked_of μ c v at ≡ Err r → (rest : Answered) → checked μ c v at rest ≡ gives (Refused r) μ
  unfolding asked_of
  barred e rest = checked_told μ c v at rest ∙ barred_by μ rest (asks μ c v at) (judged μ.count μ.lcvid c v at) e

  pub record Asks (k : Asked) : Type 0 where
    pub same : k ≡ asks μ c v at
    pub passes : (rest : Answered) → checked μ c v at rest ≡ rest
    pub number : k.access.a < 64
    pub sees : Sees k μ
    pub acts : ActsAs μ k.access.vid k.access.a

  pub goes : {k : Asked} → asked_of μ c v at ≡ Ok k → Asks k
  unfolding asked_of
  goes {k} e =
      let g = goes_by (asks μ c v at) (judged μ.count μ.lcvid c v at) e in
      record {
        same = g.0;
        passes = λ rest. checked_told μ c v at rest ∙ rw g.1;
        number = rw g.0 (passed μ.count μ.lcvid c v at refl g.1).number;
        sees = rw g.0 (record { seen = refl; memory = refl });
        acts = rw g.0 (plain_acts μ.lcvid v);
      }

  -- and a store that goes on sees what it needs to
  pub store_sees : {k : Asked} {h : Option Held} → Asks k → searched k.access.a k.seen.owner ≡ Ok h → StoreSees k h μ
  store_sees {k} g e = record { owner = rw (← cleared k.access.a k.seen.owner e) (owner_seen g.sees); plain = plain_seen g.sees; memory = g.sees.memory; acts = g.acts }
