-- The house rules as one test, which code computes: refusal 2 is given exactly when it is false. House.antt has them in document 01's words, and the law
-- `house` says that the two are the same. Here they stand as what a line owes by itself, what any two live lines of an address owe each other,
-- and what a live line needs beside it.
-- Assumes nothing.
use Rattle.std.specs.Prelude.{Bool, ◌&&◌, ◌||◌, not, ℕ, suc, max, ltb, leb, eqb}
use Rattle.rules.specs.declared.Line.{Line}
use Rattle.rules.specs.declared.Machine.{Machine}
use Rattle.rules.specs.declared.Pos.{Pos}
use Rattle.rules.specs.Data.{no_data, same_data}
use Rattle.rules.specs.States.{is_i, is_o, is_e, is_s, is_so, is_se, is_ss, plain, spec, top, owns, stands}
use Rattle.rules.specs.Line.{live}
use Rattle.rules.specs.Machine.{memory_at, vids, any_line, all_lines}

abbrev pub imp : Bool → Bool → Bool
imp a b = not a || b

-- ---- one line; VIDs are below N

-- "empty slots are zero; plain lines have VIDs 0, 0; S-E has m = 0; S-M and S-E have m ≤ h ≤ 63 and h ≥ 1; S-O has m < h ≤ 63; S-S has m < h ≤ 64"
unfoldable pub line_fits : ℕ → Line → Bool
line_fits N l =
    imp (is_i l.state) (eqb l.address 0 && (eqb l.m 0 && (eqb l.h 0 && same_data l.word no_data)))
    && (imp (plain l.state) (eqb l.m 0 && eqb l.h 0)
    && (imp (is_se l.state) (eqb l.m 0)
    && (imp (top l.state) (leb l.m l.h && (ltb l.h N && leb 1 l.h))
    && (imp (is_so l.state) (ltb l.m l.h && ltb l.h N)
    && imp (is_ss l.state) (ltb l.m l.h && leb l.h N)))))

-- "unused caches are empty", "addresses are below 64"
unfoldable pub slot_fits : Machine → Pos → Line → Bool
slot_fits μ p l = (ltb p.cache μ.count || is_i l.state) && (ltb l.address 64 && line_fits (vids μ) l)

-- ---- any two live lines of one address, k at p and l at q

-- the ranges of two owners lie one behind the other
unfoldable pub disjoint : Line → Line → Bool
disjoint k l = (is_so k.state && leb k.h l.m) || (is_so l.state && leb l.h k.m)

-- the table; plain lines are in different caches and agree; ranges are disjoint; no cache holds two S-S with the same m
unfoldable pub pair_fits : Pos → Pos → Line → Line → Bool
pair_fits p q k l =
    stands k.state l.state
    && (imp (plain k.state) (not (eqb p.cache q.cache) && same_data k.word l.word)
    && (imp (owns k.state && owns l.state) (disjoint k l)
    && imp (is_ss k.state && (is_ss l.state && eqb p.cache q.cache)) (not (eqb k.m l.m))))

-- ---- what a live line k at p needs

-- a live line of the address passes
unfoldable pub some : Machine → ℕ → (Pos → Line → Bool) → Bool
some μ x t = any_line (λ q l. live μ.lcvid l && (eqb l.address x && t q l)) μ

-- l at q is the owner line of the S-S k at p
unfoldable pub owns_it : ℕ → Pos → Line → Pos → Line → Bool
owns_it lc p k q l =
    owns l.state && (eqb l.m k.m && (not (eqb q.cache p.cache) && (same_data l.word k.word
    && (leb k.h (suc (max l.h lc)) && imp (is_so l.state) (leb k.h l.h)))))

-- E and S-E equal memory; S equals memory or stands beside an O; a speculative line has a newest version and an owner at or below LCVID; an S-O has an
-- owner that starts where it ends; an S-S has its owner line
unfoldable pub needs_met : Machine → Pos → Line → Bool
needs_met μ p k =
    imp (is_e k.state || is_se k.state) (same_data k.word (memory_at μ k.address))
    && (imp (is_s k.state) (same_data k.word (memory_at μ k.address) || some μ k.address (λ q l. is_o l.state))
    && (imp (spec k.state) (some μ k.address (λ q l. top l.state))
    && (imp (spec k.state) (some μ k.address (λ q l. owns l.state && leb l.m μ.lcvid))
    && (imp (is_so k.state) (some μ k.address (λ q l. owns l.state && eqb l.m k.h))
    && imp (is_ss k.state) (some μ k.address (owns_it μ.lcvid p k))))))

-- ---- the machine

abbrev pub same_pos : Pos → Pos → Bool
same_pos p q = eqb p.cache q.cache && eqb p.slot q.slot

unfoldable pub pairs_fit : Machine → Pos → Line → Bool
pairs_fit μ p k = all_lines (λ q l. imp (live μ.lcvid l && (eqb l.address k.address && not (same_pos p q))) (pair_fits p q k l)) μ

-- "the cache count is 1 to 4 ... and LCVID ≤ 63", and all lines
unfoldable pub is_sound : Machine → Bool
is_sound μ =
    (leb 1 μ.count && (leb μ.count 4 && ltb μ.lcvid (vids μ)))
    && (all_lines (slot_fits μ) μ
    && all_lines (λ p k. imp (live μ.lcvid k) (pairs_fit μ p k && needs_met μ p k)) μ)
