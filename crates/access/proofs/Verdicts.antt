-- What the checks say: `checked` gives the refusal, or the rest; and where they pass, the number of the access, its address and its VID are below 64.
-- Assumes nothing.
use mathlib.Core.Path.{◌≡◌, refl, sym, ◌∙◌}
use mathlib.Core.Bool.{Bool, true, false, cond}
use Prim.Native.Nat.{ℕ, zero, suc, ◌<◌}
use native.Mathlib.Omega.{arith}
use lib.Dec.{leb, ltb}
use borrow.Author.Tests.{leb-false, ltb-false}
use Rattle.std.specs.Prelude.{Result, Ok, Err}
use Rattle.rules.specs.declared.Reason.{Reason}
use Rattle.rules.specs.declared.Machine.{Machine}
use Rattle.rules.specs.declared.Answer.TheVariants.{Refused}
use Rattle.rules.specs.declared.Answered.{Answered}
use Rattle.rules.specs.Machine.{gives}
use Rattle.rules.specs.Step.{refuse, acts_with, checked}
use Rattle.access.specs.Checks.{judged}

abbrev pub Verdict : Type 0
Verdict = Result (Unit {0}) Reason

-- the answer that a verdict comes to
abbrev pub told : Machine → Answered → Verdict → Answered
told μ rest (Ok u) = rest
told μ rest (Err r) = gives (Refused r) μ

-- one test
refused_or : (μ : Machine) (rest : Answered) (b : Bool) (r : Reason) (v : Verdict) → refuse b r μ (told μ rest v) ≡ told μ rest (cond b (Err r) v)
refused_or μ rest true r v = refl
refused_or μ rest false r v = refl

pub checked_told : (μ : Machine) (c v at : ℕ) (rest : Answered) → checked μ c v at rest ≡ told μ rest (judged μ.count μ.lcvid c v at)
unfolding checked judged
checked_told μ c v at rest = rw (← refused_or, ← refused_or, ← refused_or, ← refused_or, ← refused_or)

-- a test that was passed
passed_one : (b : Bool) (r : Reason) (v : Verdict) → cond b (Err r) v ≡ Ok tt → (b ≡ false) × (v ≡ Ok tt)
passed_one true r v e = absurd (cc)
passed_one false r v e = (refl, e)

pub record Passed (lc v at : ℕ) : Type 0 where
  pub number : acts_with lc v < 64
  pub address : at < 64
  pub vid : v < 64

below : (lc v : ℕ) → lc < 64 → v < 64 → acts_with lc v < 64
below lc zero p q = p
below lc (suc v) p q = q

pub passed : {r : Verdict} (count lc c v at : ℕ) → r ≡ judged count lc c v at → r ≡ Ok tt → Passed lc v at
unfolding judged
passed count lc c v at j p =
    let sound = passed_one (leb 64 lc) _ _ (sym j ∙ p) in
    let cache = passed_one (leb count c) _ _ sound.1 in
    let address = passed_one (ltb 63 at) _ _ cache.1 in
    let vid = passed_one (leb 64 v) _ _ address.1 in
    record { number = below lc v (leb-false 64 lc sound.0) (leb-false 64 v vid.0); address = omega (arith, ltb-false 63 at address.0); vid = leb-false 64 v vid.0 }
