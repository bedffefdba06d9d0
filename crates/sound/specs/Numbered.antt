-- The house rules over the 64 slots numbered through, as the code goes: slot i % 16 of cache i / 16 is number i. That this comes to `is_sound` is
-- shown in proofs/Bridge.antt.
-- Assumes nothing.
use Rattle.std.specs.Prelude.{◌≡◌, Bool, true, false, ◌&&◌, ◌||◌, not, ℕ, zero, suc, ◌≤◌, ◌<◌, ◌/◌, ◌%◌, leb, eqb, length, get_or, Option, Some, None}
use Rattle.rules.specs.declared.Held.{Held}
use Rattle.rules.specs.declared.Line.{Line}
use Rattle.rules.specs.declared.Machine.{Machine}
use Rattle.rules.specs.declared.Pos.{Pos}
use Rattle.rules.specs.Data.{Data, same_data}
use Rattle.rules.specs.States.{is_o, is_e, is_s, is_so, is_se, is_ss, spec, top, owns}
use Rattle.rules.specs.Line.{live}
use Rattle.rules.specs.Machine.{pos, at, memory_at}
use Rattle.rules.specs.HouseTest.{imp, slot_fits, same_pos, pair_fits, owns_it}
use Rattle.sound.specs.declared.Chains.{Chains}
use Rattle.sound.specs.declared.seen.Seen.{Seen}

-- f holds at each number below n; at some number below n
unfoldable pub all_below : ℕ → (ℕ → Bool) → Bool
all_below zero f = true
all_below (suc n) f = all_below n f && f n

unfoldable pub any_below : ℕ → (ℕ → Bool) → Bool
any_below zero f = false
any_below (suc n) f = any_below n f || f n

-- ---- lines by number

abbrev pub pos_of : ℕ → Pos
pos_of i = pos (i / 16) (i % 16)

abbrev pub line_no : Machine → ℕ → Line
line_no μ i = at μ (pos_of i)

abbrev pub held_no : Machine → ℕ → Held
held_no μ i = record { place = pos_of i; line = line_no μ i }

abbrev pub slot_no : Machine → ℕ → Bool
slot_no μ i = slot_fits μ (pos_of i) (line_no μ i)

-- it holds a live line of address x
unfoldable pub holds : Machine → ℕ → ℕ → Bool
holds μ x j = live μ.lcvid (line_no μ j) && eqb (line_no μ j).address x

-- ---- what a live line k sees of the live lines l of its address

-- what it has seen, and l too
unfoldable pub seeing : ℕ → Held → Held → Seen → Seen
seeing lc k l s = record {
  fits = s.fits && imp (not (same_pos k.place l.place)) (pair_fits k.place l.place k.line l.line);
  o = s.o || is_o l.line.state;
  top = s.top || top l.line.state;
  low = s.low || (owns l.line.state && leb l.line.m lc);
  next = s.next || (owns l.line.state && eqb l.line.m k.line.h);
  owner = s.owner || owns_it lc k.place k.line l.place l.line;
}

-- what it has seen, with the word of memory, is all that it needs
unfoldable pub suffices : Line → Data → Seen → Bool
suffices k word s =
    s.fits
    && (imp (is_e k.state || is_se k.state) same
    && (imp (is_s k.state) (same || s.o)
    && (imp (spec k.state) s.top
    && (imp (spec k.state) s.low
    && (imp (is_so k.state) s.next
    && imp (is_ss k.state) s.owner)))))
  where
    same : Bool
    same = same_data k.word word

-- what a line k has seen of the slots below n
unfoldable pub seen_below : Machine → Held → ℕ → Seen
seen_below μ k n = record {
  fits = all_below n (λ j. imp (alive j && (here j && not (same_pos k.place (pos_of j)))) (pair_fits k.place (pos_of j) k.line (line_no μ j)));
  o = any_below n (λ j. alive j && (here j && is_o (line_no μ j).state));
  top = any_below n (λ j. alive j && (here j && top (line_no μ j).state));
  low = any_below n (λ j. alive j && (here j && (owns (line_no μ j).state && leb (line_no μ j).m μ.lcvid)));
  next = any_below n (λ j. alive j && (here j && (owns (line_no μ j).state && eqb (line_no μ j).m k.line.h)));
  owner = any_below n (λ j. alive j && (here j && owns_it μ.lcvid k.place k.line (pos_of j) (line_no μ j)));
}
  where
    alive : ℕ → Bool
    alive j = live μ.lcvid (line_no μ j)

    here : ℕ → Bool
    here j = eqb (line_no μ j).address k.line.address

-- a line k, if it lives, stands among the lines of its address
unfoldable pub stands_in : Machine → Held → Bool
stands_in μ k = imp (live μ.lcvid k.line) (suffices k.line (memory_at μ k.line.address) (seen_below μ k 64))

abbrev pub stands_no : Machine → ℕ → Bool
stands_no μ i = stands_in μ (held_no μ i)

-- ---- the live lines of an address, chained

-- no slot from n on, up to r, holds one
abbrev pub NoneIn : Machine → ℕ → ℕ → ℕ → Type 0
NoneIn μ x n r = (j : ℕ) → n ≤ j → j < r → holds μ x j ≡ false

-- the first slot from n on that holds one
abbrev pub IsFirst : Machine → ℕ → ℕ → Option ℕ → Type 0
IsFirst μ x n (Some r) = (n ≤ r) × (r < 64) × (holds μ x r ≡ true) × NoneIn μ x n r
IsFirst μ x n None = NoneIn μ x n 64

-- what is known of the slots from n on: each fits by itself, the first one of each address, and the next one after each
pub record Chained (μ : Machine) (n : ℕ) (c : Chains) : Type 0 where
  pub fits : (j : ℕ) → n ≤ j → j < 64 → slot_no μ j ≡ true
  pub starts : (x : ℕ) → x < 64 → IsFirst μ x n (get_or c.first x None)
  pub follows : (x j : ℕ) → n ≤ j → j < 64 → holds μ x j ≡ true → IsFirst μ x (suc j) (get_or c.next j None)
  pub firsts : length c.first ≡ 64
  pub nexts : length c.next ≡ 64
