-- A report that grows by a line a turn in a lent buffer; and the buffer's length, which stays.
-- Assumes nothing.
use mathlib.Core.Path.{◌≡◌, refl, sym, ◌∙◌, ap}
use mathlib.Core.Bool.{Bool, true, false}
use mathlib.Core.List.{List, [], ◌∷◌, ◌++◌, append_assoc, append-nil}
use Prim.Native.Nat.{ℕ, ◌+◌, ◌-◌, ◌≤◌, ◌<◌}
use native.Mathlib.Omega.{arith}
use borrow.Author.Tests.{le-leb, lt-leb, leb-true, leb-false}
use lib.Dec.{leb}
use lib.ListN.{length, take, drop, length-append, length-drop}
use lib.Seq.{take_at, drop_at, drop-drop}
use Rattle.std.specs.Prelude.{Ok, Err}
use Rattle.rules.specs.declared.Reason.{Reason}
use Rattle.rules.proofs.base.Bools.{by_test}
use Rattle.report.specs.Report.{fits, laid, Writes}
use Rattle.report.proofs.Written.{not_written, written}
use Rattle.play.specs.declared.Played.{Played}
use Rattle.play.specs.Buffer.{joined, fitting, Plays, Ends}

-- ---- the report so far

-- what is done stands before the place `end`, the buffer is as before from there on, and `rest` is still to come
pub record Telling (lines : List (List ℕ)) (before : List ℕ) (end : ℕ) (out : List ℕ) (rest : List (List ℕ)) : Type 0 where
  pub done : List ℕ
  pub place : end ≡ length done
  pub room : end ≤ length before
  pub holds : out ≡ done ++ drop end before
  pub front : joined (fitting (length before) lines) ≡ done ++ joined (fitting (length before - end) rest)
  pub all : leb (length (joined lines)) (length before) ≡ leb (length (joined rest)) (length before - end)

pub telling_none : (lines : List (List ℕ)) (before : List ℕ) → Telling lines before 0 before lines
telling_none lines before =
    let e : length before - 0 ≡ length before = omega arith in
    record { done = []; place = refl; room = omega arith; holds = refl; front = rw e; all = rw e }

plays_as : {lines : List (List ℕ)} {before out after : List ℕ} {p r : Played}
    → Plays lines before p out → r.end ≡ p.end → r.whole ≡ p.whole → after ≡ out → Plays lines before r after
plays_as h e w a = record { place = e ∙ h.place; whole = w ∙ h.whole; holds = a ∙ rw e h.holds; within = rw (a, e) h.within }

module _ {lines : List (List ℕ)} {before : List ℕ} {end : ℕ} {out : List ℕ} {rest : List (List ℕ)} (t : Telling lines before end out rest) where
  pub telling_length : length out ≡ length before
  telling_length = ap length t.holds ∙ (length-append t.done (drop end before) ∙ omega (arith, t.place, t.room, length-drop end before))

  -- the same, where what is still to come is told otherwise
  pub telling_as : {rest' : List (List ℕ)} → rest ≡ rest' → Telling lines before end out rest'
  telling_as e = rw (← e) t

  -- nothing more fits or is to come: the buffer stays as it is
  stays : (b : Bool) → joined (fitting (length before - end) rest) ≡ [] → leb (length (joined rest)) (length before - end) ≡ b
      → Plays lines before (record { end = end; whole = b }) out
  stays b none all =
      let w : joined (fitting (length before) lines) ≡ t.done = t.front ∙ rw none (append-nil t.done) in
      record { place = t.place ∙ ap length (sym w); whole = sym (t.all ∙ all); holds = t.holds ∙ rw w; within = omega (arith, t.room, telling_length) }

  -- no line is to come
  pub telling_end : rest ≡ [] → Plays lines before (record { end = end; whole = true }) out
  unfolding fitting joined
  telling_end e = stays true (rw e) (rw e (le-leb 0 (length before - end) (omega arith)))

  module _ (line : List ℕ) (more : List (List ℕ)) (e : rest ≡ line ∷ more) where
    -- the next line doesn't fit: the report ends
    pub telling_full : fits line end out ≡ false → Plays lines before (record { end = end; whole = false }) out
    unfolding fitting joined
    telling_full f =
        let k : length before - end < length line = omega (arith, leb-false (end + length line) (length out) f, telling_length, t.room) in
        stays false
        (rw (e, lt-leb (length line) (length before - end) k))
        (rw e (lt-leb (length (line ++ joined more)) (length before - end) (omega (arith, k, length-append line (joined more)))))

    -- it fits: one line more
    pub telling_more : fits line end out ≡ true → Telling lines before (end + length line) (laid line end out) more
    unfolding fitting joined
    telling_more f =
        let k : end + length line ≤ length before = omega (arith, leb-true (end + length line) (length out) f, telling_length) in
        let r : length before - end - length line ≡ length before - (end + length line) = omega arith in
        record {
          done = t.done ++ line;
          place = omega (arith, t.place, length-append t.done line);
          room = k;
          holds = laid_again;
          front = t.front ∙ rw (e, le-leb (length line) (length before - end) (omega (arith, k)), r)
              (sym (append_assoc t.done line (joined (fitting (length before - (end + length line)) more))));
          all = t.all ∙ rw e (same_test k);
        }
      where
        laid_again : laid line end out ≡ (t.done ++ line) ++ drop (end + length line) before
        laid_again =
            let front : take end out ≡ t.done = ap (take end) t.holds ∙ take_at t.done (drop end before) end (sym t.place) in
            let back : drop end out ≡ drop end before = ap (drop end) t.holds ∙ drop_at t.done (drop end before) end (sym t.place) in
            rw (front, sym (drop-drop (length line) end out), back, drop-drop (length line) end before)
            (sym (append_assoc t.done line (drop (end + length line) before)))

        same_test : end + length line ≤ length before
            → leb (length (line ++ joined more)) (length before - end) ≡ leb (length (joined more)) (length before - (end + length line))
        same_test k =
            let both = length-append line (joined more) in
            let left = length before - (end + length line) in
            by_test (leb (length (joined more)) left)
            (λ i. le-leb (length (line ++ joined more)) (length before - end) (omega (arith, k, leb-true (length (joined more)) left i, both)) ∙ sym i)
            (λ i. lt-leb (length (line ++ joined more)) (length before - end) (omega (arith, k, leb-false (length (joined more)) left i, both)) ∙ sym i)

-- ---- a turn

module _ {lines : List (List ℕ)} {before : List ℕ} {end : ℕ} {out : List ℕ} {rest : List (List ℕ)} (t : Telling lines before end out rest) where
  module _ {line : List ℕ} {more : List (List ℕ)} (e : rest ≡ line ∷ more) {after : List ℕ} where
    -- the next line was refused with 13: the report ends
    pub telling_refused : {r : Reason} → Writes line end out (Err r) after → Plays lines before (record { end = end; whole = false }) after
    telling_refused l =
        let n = not_written l in
        rw n.1.1 (telling_full t line more e n.0)

    -- the next line was written
    pub telling_wrote : {last : ℕ} → Writes line end out (Ok last) after → Telling lines before last after more
    telling_wrote l =
        let n = written l in
        rw (n.1.0, n.1.1) (telling_more t line more e n.0)

  -- the next line is the last, whether it fits or not
  pub telling_last : {line : List ℕ} → rest ≡ line ∷ [] → {r : Played} {after : List ℕ} → Ends line end out r after → Plays lines before r after
  telling_last {line} e l = by_test (fits line end out)
      (λ f. plays_as (telling_end (telling_more t line [] e f) refl) (l.place ∙ rw f) (l.whole ∙ f) (l.holds ∙ rw f))
      (λ f. plays_as (telling_full t line [] e f) (l.place ∙ rw f) (l.whole ∙ f) (l.holds ∙ rw f))

-- a report of one line
pub one_line : {line before : List ℕ} {r : Played} {after : List ℕ} → Ends line 0 before r after → Plays (line ∷ []) before r after
one_line {line} {before} l = telling_last (telling_none (line ∷ []) before) refl l

-- ---- lengths

-- the lines that fit in a room are no longer than it
pub fitting_fits : (lines : List (List ℕ)) (room : ℕ) → length (joined (fitting room lines)) ≤ room
unfolding fitting joined
fitting_fits [] room = omega arith
fitting_fits (l ∷ ls) room = by_test (leb (length l) room)
    (λ i. rw i (omega (arith, leb-true (length l) room i, fitting_fits ls (room - length l), length-append l (joined (fitting (room - length l) ls)))))
    (λ i. rw i (omega arith))

-- a report changes no length
pub plays_length : {lines : List (List ℕ)} {before : List ℕ} {r : Played} {after : List ℕ} → Plays lines before r after → length after ≡ length before
plays_length {lines} {before} {r} p =
    ap length p.holds
    ∙ (length-append (joined (fitting (length before) lines)) (drop r.end before)
    ∙ omega (arith, p.place, length-drop r.end before, fitting_fits lines (length before)))
