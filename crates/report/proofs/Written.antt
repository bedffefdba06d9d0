-- What the line writer's answer tells; a place past the end; and a line written into the part of a buffer from a place on.
-- Assumes nothing.
use mathlib.Core.Path.{◌≡◌, refl, sym, ◌∙◌}
use mathlib.Core.Bool.{Bool, true, false, cond}
use mathlib.Core.List.{List, [], append-nil}
use Prim.Native.Nat.{ℕ, ◌+◌, ◌-◌, ◌≤◌, ◌<◌}
use native.Mathlib.Omega.{arith}
use borrow.Author.Tests.{le-leb, lt-leb, leb-true, leb-false}
use borrow.Rule.Slice.PartMut.{put_mid}
use lib.ListN.{length, take, drop, length-take, length-drop, take-append-drop, drop_of_length-le}
use lib.Seq.{drop-drop}
use Rattle.std.proofs.lemmas.List.{take_rest}
use native.Mathlib.Nat.{zero-add}
use Rattle.std.specs.Prelude.{Result, Ok, Err}
use Rattle.rules.specs.declared.Reason.{Reason}
use Rattle.rules.specs.declared.Reason.TheVariants.{NoFit}
use Rattle.report.specs.Report.{fits, laid, Writes}

abbrev answer_of : Bool → ℕ → Result ℕ Reason
answer_of b n = cond b (Ok n) (Err NoFit)

by_answer : (b : Bool) (n : ℕ) (r : Reason) → answer_of b n ≡ Err r → (b ≡ false) × (r ≡ NoFit)
by_answer true n r e = cc
by_answer false n r e = (refl, cc)

by_place : (b : Bool) (m n : ℕ) → answer_of b m ≡ Ok n → (b ≡ true) × (n ≡ m)
by_place true m n e = (refl, cc)
by_place false m n e = cc

module _ {line : List ℕ} {place : ℕ} {before after : List ℕ} where
  -- the line doesn't fit, and the buffer is as it was
  pub not_written : {r : Reason} → Writes line place before (Err r) after → (fits line place before ≡ false) × ((r ≡ NoFit) × (after ≡ before))
  not_written {r} l =
      let f = by_answer _ _ r (sym l.answer) in
      (f.0, (f.1, l.holds ∙ rw f.0))

  -- the line fits, and is laid
  pub written : {last : ℕ} → Writes line place before (Ok last) after → (fits line place before ≡ true) × ((last ≡ place + length line) × (after ≡ laid line place before))
  written {last} l =
      let f = by_place _ _ last (sym l.answer) in
      (f.0, (f.1, l.holds ∙ rw f.0))

-- nothing fits where the place is past the end
pub past_the_end : (line : List ℕ) (place : ℕ) (out : List ℕ) → length out < place → Writes line place out (Err NoFit) out
past_the_end line place out h =
    let f : fits line place out ≡ false = lt-leb (place + length line) (length out) (omega arith) in
    record { answer = rw f; holds = rw f }

-- where the line doesn't fit in the part, it doesn't in the buffer, of which nothing changes
pub refused : (line : List ℕ) (place : ℕ) (out ys : List ℕ) (r : Reason) → place ≤ length out
    → Writes line 0 (take (length out - place) (drop place out)) (Err r) ys → Writes line place out (Err r) (put_mid place (length out - place) out ys)
refused line place out ys r h w =
    let n = not_written w in
    let f : fits line place out ≡ false = lt-leb (place + length line) (length out) (omega (arith, leb-false _ _ n.0, length-take (length out - place) (drop place out), length-drop place out)) in
    record { answer = rw (f, n.1.0); holds = rw (f, n.1.1) (simp take-append-drop) }

-- where it fits in the part, it does in the buffer
pub placed : (line : List ℕ) (place : ℕ) (out ys : List ℕ) (n : ℕ) → place ≤ length out
    → Writes line 0 (take (length out - place) (drop place out)) (Ok n) ys → Writes line place out (Ok (place + n)) (put_mid place (length out - place) out ys)
placed line place out ys n h w =
    let l = written w in
    let f : fits line place out ≡ true = le-leb (place + length line) (length out) (omega (arith, leb-true _ _ l.0, length-take (length out - place) (drop place out), length-drop place out)) in
    let none : drop (length out - place) (drop place out) ≡ [] = drop_of_length-le (drop place out) (omega (arith, length-drop place out)) in
    record { answer = rw (f, l.1.0, zero-add); holds = rw (f, l.1.1) (rw (take_rest out place, none, append-nil, zero-add, drop-drop (length line) place out)) }
