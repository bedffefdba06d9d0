-- What a load or a store of cache c, which acts with number a on address x, needs to know of the machine: the first line of each kind, and where it stands.
-- Assumes nothing.
use Rattle.std.specs.Prelude.{Bool, false, ◌&&◌, ◌||◌, List, [], ◌∷◌, ℕ, suc, eqb, Option, Some, None}
use Rattle.std.specs.Bool.{then_some}
use Rattle.std.specs.Option.{option_or}
use Rattle.rules.specs.declared.Line.{Line}
use Rattle.rules.specs.declared.Cache.{Cache}
use Rattle.rules.specs.declared.Machine.{Machine}
use Rattle.rules.specs.declared.Pos.{Pos}
use Rattle.rules.specs.declared.Held.{Held}
use Rattle.rules.specs.States.{dirty}
use Rattle.rules.specs.Line.{is_owner, is_plain}
use Rattle.rules.specs.Machine.{pos, at, find}
use Rattle.rules.specs.Load.{is_own_share, is_dirty}
use Rattle.access.specs.declared.look.Seen.{Seen}

-- the four kinds
abbrev pub owning : ℕ → ℕ → Pos → Line → Bool
owning x a p l = is_owner x a l

abbrev pub own_plain : ℕ → ℕ → Pos → Line → Bool
own_plain c x p l = eqb p.cache c && is_plain x l

abbrev pub any_plain : ℕ → Pos → Line → Bool
any_plain x p l = is_plain x l

-- what was found, with its line
abbrev pub held : Pos → Line → Held
held p l = record { place = p; line = l }

abbrev pub held_at : Machine → Option Pos → Option Held
held_at μ (Some p) = Some (held p (at μ p))
held_at μ None = None

unfoldable pub seen_of : Machine → ℕ → ℕ → ℕ → Seen
seen_of μ c a x = record {
  owner = held_at μ (find (owning x a) μ);
  share = held_at μ (find (is_own_share c x a) μ);
  own = held_at μ (find (own_plain c x) μ);
  plain = held_at μ (find (any_plain x) μ);
  dirty = is_dirty μ x;
}

-- ---- the same in one, line by line

abbrev pub unseen : Seen
unseen = record { owner = None; share = None; own = None; plain = None; dirty = false }

-- the first that passes stays
abbrev pub kept : Option Held → Bool → Held → Option Held
kept f passes h = option_or f (then_some passes h)

unfoldable pub with_line : ℕ → ℕ → ℕ → Pos → Line → Seen → Seen
with_line c a x p l seen = record {
  owner = kept seen.owner (owning x a p l) (held p l);
  share = kept seen.share (is_own_share c x a p l) (held p l);
  own = kept seen.own (own_plain c x p l) (held p l);
  plain = kept seen.plain (any_plain x p l) (held p l);
  dirty = seen.dirty || (dirty l.state && eqb l.address x);
}

-- from the front of a list to its end, by place
module _ {A S : Type 0} where
  unfoldable pub over : (ℕ → A → S → S) → List A → S → S
  over k [] s = s
  over k (y ∷ l) s = over (λ i. k (suc i)) l (k 0 y s)

abbrev pub with_cache : ℕ → ℕ → ℕ → ℕ → Cache → Seen → Seen
with_cache c a x i k seen = over (λ s l. with_line c a x (pos i s) l) k.lines seen
