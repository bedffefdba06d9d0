-- States: the nine of them, the classes that document 01 speaks of, and the table of which may stand together.
-- Each class goes by its nine entries, and not by another class, so that a rewrite of one leaves the others as they are.
-- Assumes nothing.
use Rattle.std.specs.Prelude.{Bool, true, false}
use Rattle.rules.specs.declared.State.{State}
use Rattle.rules.specs.declared.State.TheVariants.{I, M, O, E, S, SM, SO, SE, SS}

abbrev pub ✓ : Bool
✓ = true

abbrev pub · : Bool
· = false

-- a test of a state by its nine entries: I, M, O, E, S, S-M, S-O, S-E, S-S
abbrev pub row : Bool → Bool → Bool → Bool → Bool → Bool → Bool → Bool → Bool → State → Bool
row i m o e s sm so se ss = elim [ I ↦ i | M ↦ m | O ↦ o | E ↦ e | S ↦ s | SM ↦ sm | SO ↦ so | SE ↦ se | SS ↦ ss ]

-- ---- one state

abbrev pub is_i : State → Bool
is_i = row ✓ · · · · · · · ·

abbrev pub is_o : State → Bool
is_o = row · · ✓ · · · · · ·

abbrev pub is_e : State → Bool
is_e = row · · · ✓ · · · · ·

abbrev pub is_s : State → Bool
is_s = row · · · · ✓ · · · ·

abbrev pub is_sm : State → Bool
is_sm = row · · · · · ✓ · · ·

abbrev pub is_so : State → Bool
is_so = row · · · · · · ✓ · ·

abbrev pub is_se : State → Bool
is_se = row · · · · · · · ✓ ·

abbrev pub is_ss : State → Bool
is_ss = row · · · · · · · · ✓

-- ---- classes

-- "plain M, O, E, S"
abbrev pub plain : State → Bool
plain = row · ✓ ✓ ✓ ✓ · · · ·

-- "speculative S-M, S-O, S-E, S-S"
abbrev pub spec : State → Bool
spec = row · · · · · ✓ ✓ ✓ ✓

-- "an S-O or S-S line": one that hits up to its h
abbrev pub ranged : State → Bool
ranged = row · · · · · · ✓ · ✓

-- "S-M and S-E": the newest version of an address
abbrev pub top : State → Bool
top = row · · · · · ✓ · ✓ ·

-- "the S-M, S-E or live S-O line": one that can be an owner
abbrev pub owns : State → Bool
owns = row · · · · · ✓ ✓ ✓ ·

-- "M, O": a plain line whose word memory may not have
abbrev pub dirty : State → Bool
dirty = row · ✓ ✓ · · · · · ·

-- ---- the table of 81 entries

-- "M and E stand with nothing plain or speculative, O with S, S with O and S; S-M with S-O and S-S, S-O with S-M, S-O and S-S, S-E with S-S,
-- S-S with all four speculative states. I is never paired."
abbrev pub stands : State → State → Bool
stands I = row · · · · · · · · ·
stands M = row · · · · · · · · ·
stands O = row · · · · ✓ · · · ·
stands E = row · · · · · · · · ·
stands S = row · · ✓ · ✓ · · · ·
stands SM = row · · · · · · ✓ · ✓
stands SO = row · · · · · ✓ ✓ · ✓
stands SE = row · · · · · · · · ✓
stands SS = row · · · · · ✓ ✓ ✓ ✓
