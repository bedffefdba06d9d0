-- A line of its own address is of that address; and the derived test of S-S is the definition.
-- Assumes nothing.
use Rattle.std.proofs.Common.{◌≡◌, true, refl, rules, eqb}
use mathlib.Core.Bool.{and-true}
use denote.Enum.Bare.{sameb}
use Rattle.rules.specs.contracts.State.{the_type}
use Rattle.rules.specs.declared.State.{State}
use Rattle.rules.specs.declared.State.TheVariants.{I, M, O, E, S, SM, SO, SE, SS}
use Rattle.rules.specs.States.{is_ss}
use Rattle.rules.specs.Line.{is_owner, is_plain}
use Rattle.rules.specs.Load.{is_own_share}
use Rattle.access.specs.Look.{with_line}
use Rattle.access.proofs.look.Seen.see.Goals as goal

-- the derived test of a state
ss : (s : State) → sameb the_type s State.SS ≡ is_ss s
ss I = refl
ss M = refl
ss O = refl
ss E = refl
ss S = refl
ss SM = refl
ss SO = refl
ss SE = refl
ss SS = refl

pub returns : goal.returns
unfolding with_line is_owner is_own_share is_plain
returns c =
    let l = c.args.held.line in
    let a : eqb l.address l.address ≡ true = search rules in
    simp (
      c.keep.ensures,
      c.keep-2.ensures,
      c.keep-3.ensures,
      c.keep-4.ensures,
      c.can_own.ensures,
      c.is_plain-plain.ensures,
      c.is_dirty.ensures,
      c.hits-hit.ensures,
      c.eq.ensures,
      ss l.state,
      a,
      and-true,
    )
