-- The lines of a machine by place: after a change, a drop and a put; what a search finds; tests of all lines and of some line.
-- Assumes nothing.
use mathlib.Core.Path.{◌≡◌, refl, sym, ◌∙◌, ap}
use mathlib.Core.Logic.{◌≢◌, ◌⊎◌, inl, inr}
use mathlib.Core.Bool.{Bool, true, false, cond, not, true≢false, false≢true}
use mathlib.Core.List.{List}
use Prim.Native.Nat.{ℕ, ◌<◌}
use native.Mathlib.Omega.{arith}
use native.Mathlib.Decide.{dec_lt, ℕ_discrete}
use lib.ListN.{length, get_or, set, get_or-eq_default}
use lib.Seq.{get_or-set_same, get_or-set_other, set_out}
use borrow.Author.Tests.{not-true}
use Rattle.std.specs.Prelude.{Option, Some, None}
use Rattle.rules.specs.declared.Line.{Line}
use Rattle.rules.specs.declared.Cache.{Cache}
use Rattle.rules.specs.declared.Machine.{Machine}
use Rattle.rules.specs.declared.Pos.{Pos}
use Rattle.rules.specs.Line.{empty, live}
use Rattle.rules.specs.Lists.{map_at, all_at, first_at}
use Rattle.rules.specs.Machine.{pos, no_cache, at, change, drop, put, in_cache, find, is_found, any_line, all_lines, free_slot}
use Rattle.std.proofs.lemmas.Bool.{both_ways}
use Rattle.rules.proofs.base.Bools.{by_test}
use Rattle.rules.proofs.base.Tests.{Decides}
use Rattle.rules.proofs.base.Lists.{get_d_map, all_at_lem, all_of, first_some, first_none, found_some, found_none}
use Rattle.rules.proofs.base.Lines.{pos_dec}

-- what a search found is a place or none
is_at : Option Pos → Bool
is_at (Some p) = true
is_at None = false

at_not_nowhere : {P : Type 0} {p : Pos} → Some p ≡ None → P
unfolding is_at
at_not_nowhere e = absurd (true≢false (ap is_at e))

place_of : Option Pos → Pos
place_of (Some p) = p
place_of None = pos 0 0

at_is : {p q : Pos} → Some p ≡ Some q → p ≡ q
unfolding place_of
at_is e = ap place_of e

abbrev lines_of : Machine → ℕ → List Line
lines_of μ c = (get_or μ.caches c no_cache).lines

-- ---- a change, a drop

pub at_change : (k : Pos → Line → Line) (μ : Machine) → ((p : Pos) → k p empty ≡ empty) → (p : Pos) → at (change k μ) p ≡ k p (at μ p)
unfolding at change
at_change k μ h p =
    ap (λ (c : Cache). get_or c.lines p.slot empty) (get_d_map (λ c g. record { lines = map_at (λ s l. k (pos c s) l) g.lines }) μ.caches no_cache
    (λ i. unfold map_at in refl) p.cache)
    ∙ get_d_map (λ s l. k (pos p.cache s) l) (lines_of μ p.cache) empty (λ i. h (pos p.cache i)) p.slot

-- a dropped line is empty, another stays
pub at_drop : (t : Pos → Line → Bool) (μ : Machine) (p : Pos) → at (drop t μ) p ≡ cond (t p (at μ p)) empty (at μ p)
unfolding drop
at_drop t μ p = at_change (λ p l. cond (t p l) empty l) μ (λ p. by_test (t p empty) (λ i. rw i) (λ i. rw i)) p

module _ (t : Pos → Line → Bool) (μ : Machine) (p : Pos) where
  pub drop_gone : t p (at μ p) ≡ true → at (drop t μ) p ≡ empty
  drop_gone i = at_drop t μ p ∙ rw i

  pub drop_stays : t p (at μ p) ≡ false → at (drop t μ) p ≡ at μ p
  drop_stays i = at_drop t μ p ∙ rw i

-- ---- a put

-- a place that the machine has
pub record Within (μ : Machine) (p : Pos) : Type 0 where
  pub cache : p.cache < length μ.caches
  pub slot : p.slot < length (lines_of μ p.cache)

pub at_put_same : (μ : Machine) (p : Pos) (l : Line) → Within μ p → at (put p l μ) p ≡ l
unfolding at put
at_put_same μ p l w = rw (get_or-set_same μ.caches p.cache _ no_cache w.cache) (get_or-set_same (lines_of μ p.cache) p.slot l empty w.slot)

pub at_put_other : (μ : Machine) (p q : Pos) (l : Line) → q ≢ p → at (put p l μ) q ≡ at μ q
unfolding at put
at_put_other μ p q l n = go (ℕ_discrete q.cache p.cache) (dec_lt p.cache (length μ.caches))
  where
    h : Cache
    h = record { lines = set (lines_of μ p.cache) p.slot l }

    go : Dec (q.cache ≡ p.cache) → Dec (p.cache < length μ.caches)
        → get_or (get_or (set μ.caches p.cache h) q.cache no_cache).lines q.slot empty ≡ get_or (lines_of μ q.cache) q.slot empty
    go (no c) d = rw (get_or-set_other μ.caches p.cache q.cache h no_cache c)
    go (yes c) (no d) = rw (set_out μ.caches p.cache h (omega arith))
    go (yes c) (yes d) =
        rw (c, get_or-set_same μ.caches p.cache h no_cache d) (get_or-set_other (lines_of μ p.cache) p.slot q.slot l empty
        (λ e. n (λ i. record { cache = c i; slot = e i })))

-- a line that is there stands within
pub some_within : (μ : Machine) (p : Pos) → at μ p ≢ empty → Within μ p
unfolding at
some_within μ p n = go (dec_lt p.cache (length μ.caches)) (dec_lt p.slot (length (lines_of μ p.cache)))
  where
    go : Dec (p.cache < length μ.caches) → Dec (p.slot < length (lines_of μ p.cache)) → Within μ p
    go (yes c) (yes d) = record { cache = c; slot = d }
    go (no c) d = absurd (n (rw (get_or-eq_default μ.caches no_cache {n = p.cache} (omega arith)) refl))
    go (yes c) (no d) = absurd (n (get_or-eq_default (lines_of μ p.cache) empty (omega arith)))

-- anywhere: the line put, or the one that was there
pub at_put_any : (μ : Machine) (p q : Pos) (l : Line) → (at (put p l μ) q ≡ l) ⊎ (at (put p l μ) q ≡ at μ q)
unfolding at put
at_put_any μ p q l = go (pos_dec q p) (dec_lt p.cache (length μ.caches)) (dec_lt p.slot (length (lines_of μ p.cache)))
  where
    h : Cache
    h = record { lines = set (lines_of μ p.cache) p.slot l }

    go : Dec (q ≡ p) → Dec (p.cache < length μ.caches) → Dec (p.slot < length (lines_of μ p.cache)) → (at (put p l μ) q ≡ l) ⊎ (at (put p l μ) q ≡ at μ q)
    go (no d) e f = inr (at_put_other μ p q l d)
    go (yes d) (yes e) (yes f) = inl (rw d (at_put_same μ p l (record { cache = e; slot = f })))
    go (yes d) (no e) f = inr (rw (set_out μ.caches p.cache h (omega arith)))
    go (yes d) (yes e) (no f) = inr (rw (d, get_or-set_same μ.caches p.cache h no_cache e, set_out (lines_of μ p.cache) p.slot l (omega arith)))

-- ---- a search

-- what is found passes
pub find_some : (t : Pos → Line → Bool) (μ : Machine) (p : Pos) → find t μ ≡ Some p → t p (at μ p) ≡ true
unfolding find at
find_some t μ p e =
    let (c, h, d) = found_some (λ c h. in_cache c (first_at (λ s l. t (pos c s) l) h.lines)) μ.caches no_cache p e in
    go c (first_at (λ s l. t (pos c s) l) (lines_of μ c)) refl d
  where
    go : (c : ℕ) (r : Option ℕ) → first_at (λ s l. t (pos c s) l) (lines_of μ c) ≡ r → in_cache c r ≡ Some p → t p (get_or (lines_of μ p.cache) p.slot empty) ≡ true
    go c (Some s) q d = let z : pos c s ≡ p = at_is d in rw (← z) (first_some (λ s l. t (pos c s) l) (lines_of μ c) empty s q).1
    go c None q d = at_not_nowhere (sym d)

-- where nothing is found no line passes
pub find_none : (t : Pos → Line → Bool) (μ : Machine) → ((q : Pos) → t q empty ≡ false) → find t μ ≡ None → (p : Pos) → t p (at μ p) ≡ false
unfolding find
find_none t μ none e p = go (dec_lt p.cache (length μ.caches)) (dec_lt p.slot (length (lines_of μ p.cache)))
  where
    in_lines : (r : Option ℕ) → first_at (λ s l. t (pos p.cache s) l) (lines_of μ p.cache) ≡ r → in_cache p.cache r ≡ None → p.slot < length (lines_of μ p.cache)
        → t p (get_or (lines_of μ p.cache) p.slot empty) ≡ false
    in_lines (Some s) q d h = at_not_nowhere d
    in_lines None q d h = first_none (λ s l. t (pos p.cache s) l) (lines_of μ p.cache) empty q p.slot h

    outside : (Within μ p → ⊥) → t p (at μ p) ≡ false
    outside n = by_test (t p (at μ p)) (λ i. absurd (n (some_within μ p (λ d. both_ways _ (none p) (rw d at i))))) (λ i. i)

    go : Dec (p.cache < length μ.caches) → Dec (p.slot < length (lines_of μ p.cache)) → t p (at μ p) ≡ false
    go (yes c) (yes s) =
        unfold at in in_lines (first_at (λ s l. t (pos p.cache s) l) (lines_of μ p.cache)) refl
        (found_none (λ c h. in_cache c (first_at (λ s l. t (pos c s) l) h.lines)) μ.caches no_cache e p.cache c) s
    go (no c) s = outside (λ w. c w.cache)
    go (yes c) (no s) = outside (λ w. s w.slot)

-- ---- tests of lines

pub all_lines_lem : (k : Pos → Line → Bool) (P : Pos → Line → Type 0) (μ : Machine) → ((p : Pos) (l : Line) → Decides (k p l) (P p l)) → ((p : Pos) → P p empty)
    → Decides (all_lines k μ) ((p : Pos) → P p (at μ p))
unfolding all_lines at
all_lines_lem k P μ d e = record {
  says = λ h p. (d p (at μ p)).says (all_at_lem (λ s l. k (pos p.cache s) l) (lines_of μ p.cache) empty (λ s. (d (pos p.cache s) empty).when (e (pos p.cache s)))
      (all_at_lem (λ c h. all_at (λ s l. k (pos c s) l) h.lines) μ.caches no_cache (λ c. unfold all_at in refl) h p.cache) p.slot);
  when = λ h. all_of (λ c g. all_at (λ s l. k (pos c s) l) g.lines) μ.caches no_cache
      (λ c i. all_of (λ s l. k (pos c s) l) (lines_of μ c) empty (λ s j. (d (pos c s) (at μ (pos c s))).when (h (pos c s))));
}

pub any_line_lem : (k : Pos → Line → Bool) (P : Pos → Line → Type 0) (μ : Machine) → ((p : Pos) (l : Line) → Decides (k p l) (P p l)) → ((p : Pos) → P p empty → ⊥)
    → Decides (any_line k μ) ((p : Pos) × P p (at μ p))
unfolding any_line
any_line_lem k P μ d e = record { says = says (find k μ) refl; when = λ h. when h (find k μ) refl }
  where
    says : (r : Option Pos) → find k μ ≡ r → is_found r ≡ true → (p : Pos) × P p (at μ p)
    says (Some p) q t = (p, (d p (at μ p)).says (find_some k μ p q))
    says None q t = absurd (false≢true t)

    when : (p : Pos) × P p (at μ p) → (r : Option Pos) → find k μ ≡ r → is_found r ≡ true
    when h (Some p) q = refl
    when h None q = absurd (both_ways _ (find_none k μ (λ p. by_test (k p empty) (λ t. absurd (e p ((d p empty).says t))) (λ t. t)) q h.0) ((d h.0 (at μ h.0)).when h.1))

-- ---- a free slot

pub free_within : (μ : Machine) (c s : ℕ) → free_slot μ c ≡ Some s → c < length μ.caches → Within μ (pos c s) × (live μ.lcvid (at μ (pos c s)) ≡ false)
unfolding free_slot at
free_within μ c s e h =
    let (i, j) = first_some (λ s l. not (live μ.lcvid l)) (lines_of μ c) empty s e in
    (record { cache = h; slot = i }, not-true (live μ.lcvid (get_or (lines_of μ c) s empty)) j)
