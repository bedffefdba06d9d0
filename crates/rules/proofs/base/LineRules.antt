-- Lines that keep the rules of a line: empty, plain, the newest version, an older one, a share.
-- Assumes nothing.
use mathlib.Core.Path.{◌≡◌, refl}
use mathlib.Core.Bool.{Bool, true, not, false≢true}
use Prim.Native.Nat.{ℕ, ◌≤◌, ◌<◌}
use Rattle.rules.specs.declared.State.{State}
use Rattle.rules.specs.declared.State.TheVariants.{SO, SS}
use Rattle.rules.specs.declared.Line.{Line}
use Rattle.rules.specs.Data.{Data}
use Rattle.rules.specs.States.{is_i, is_so, is_se, is_ss, plain, top}
use Rattle.rules.specs.Line.{line, empty}
use Rattle.rules.specs.House.{LineRules}
use Rattle.rules.specs.HouseTest.{imp}
use Rattle.rules.proofs.base.States.{every_state, state_never}

pub rules_empty : (N : ℕ) → LineRules N empty
rules_empty N = record {
  blank = λ c. refl;
  flat = λ c. absurd (false≢true c);
  zero = λ c. absurd (false≢true c);
  newest = λ c. absurd (false≢true c);
  closed = λ c. absurd (false≢true c);
  shared = λ c. absurd (false≢true c);
}

pub rules_plain : (N : ℕ) (l : Line) → plain l.state ≡ true → l.m ≡ 0 → l.h ≡ 0 → LineRules N l
rules_plain N l o p q = record { blank = no is_i refl; flat = λ c. (p, q); zero = λ c. p; newest = no top refl; closed = no is_so refl; shared = no is_ss refl }
  where
    no : {P : Type 0} (k : State → Bool) → every_state (λ s. imp (plain s) (not (k s))) ≡ true → k l.state ≡ true → P
    no k r = state_never plain k r l.state o

pub rules_top : (N : ℕ) (l : Line) → top l.state ≡ true → l.m ≤ l.h → l.h < N → 1 ≤ l.h → (is_se l.state ≡ true → l.m ≡ 0) → LineRules N l
rules_top N l t p q r z = record { blank = no is_i refl; flat = no plain refl; zero = z; newest = λ c. (p, q, r); closed = no is_so refl; shared = no is_ss refl }
  where
    no : {P : Type 0} (k : State → Bool) → every_state (λ s. imp (top s) (not (k s))) ≡ true → k l.state ≡ true → P
    no k r = state_never top k r l.state t

pub rules_closed : (N x m h : ℕ) (d : Data) → m < h → h < N → LineRules N (line SO x m h d)
rules_closed N x m h d p q = record {
  blank = λ c. absurd (false≢true c);
  flat = λ c. absurd (false≢true c);
  zero = λ c. absurd (false≢true c);
  newest = λ c. absurd (false≢true c);
  closed = λ c. (p, q);
  shared = λ c. absurd (false≢true c);
}

pub rules_share : (N x m h : ℕ) (d : Data) → m < h → h ≤ N → LineRules N (line SS x m h d)
rules_share N x m h d p q = record {
  blank = λ c. absurd (false≢true c);
  flat = λ c. absurd (false≢true c);
  zero = λ c. absurd (false≢true c);
  newest = λ c. absurd (false≢true c);
  closed = λ c. absurd (false≢true c);
  shared = λ c. (p, q);
}
