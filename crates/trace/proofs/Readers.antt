-- What a reader owns, in the kit's account of memory: a reader's type at the lifetime of a signature that has one, and its laws; that a reader's machine value
-- has that type; and that what a reader owns is had twice.
-- Assumes nothing.
use mathlib.Core.List.{[], ◌∷◌}
use lib.Dec.{T as Holds}
use seplogic.Ra.Ura.{Ura}
use mir.Syntax.{named}
use mir.Val.{WT, has_ty}
use base.Logic.{SProp, ent, sep}
use types.Logic.{Logic, sem}
use contract.Lifetimes.{Lfts}
use denote.RattleType.{RattleType}
use denote.Laws.{Is}
use denote.Signature.{named_lft}
use denote.Struct.Declared.{Declared}
use denote.Struct.Laws as LL
use Rattle.trace.specs.declared.reader.Reader.{Reader}
use Rattle.trace.specs.contracts.reader.Reader as T
use Rattle.trace.proofs.reader.Reader.TheLaws as T'

abbrev pub reader_at : Lfts 1 → RattleType
reader_at κs = T.the_row (named_lft 1 0 tt κs)

abbrev pub declared_at : Lfts 1 → Declared
declared_at κs = T.the_type (named_lft 1 0 tt κs)

abbrev pub laws_at : (κs : Lfts 1) → LL.Laws (declared_at κs)
laws_at κs = T'.the_laws (named_lft 1 0 tt κs)

module _ {M : Type 1} {𝓤 : Ura M} (𝓛 : Logic 𝓤) (κs : Lfts 1) (d : Reader) where
  pub typed : Is (reader_at κs) d (T'.lowered d ∷ []) → Holds (has_ty (T'.mir (named 0)) (T'.lowered d)) × WT (T'.lowered d)
  typed is = ((LL.lawful (declared_at κs) (laws_at κs) 𝓛).typed d (T'.lowered d ∷ []) is).0

  -- a reader is Copy
  abbrev Owned : SProp 𝓤
  Owned = sem 𝓛 ((reader_at κs).own_val d (T'.lowered d ∷ []))

  pub twice : ent 𝓤 Owned (sep 𝓤 Owned Owned)
  twice = (LL.copy (declared_at κs) (T'.the_copy (named_lft 1 0 tt κs)) 𝓛).twice d (T'.lowered d ∷ [])
