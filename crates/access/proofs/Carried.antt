-- What a plan comes to when it is carried out: a change that leaves every line leaves the machine, and the line that was put is what the rules put there.
-- Assumes nothing.
use mathlib.Core.Path.{◌≡◌, refl, ap}
use mathlib.Core.Bool.{Bool, true, false, cond, ◌&&◌}
use mathlib.Core.List.{List, [], ◌∷◌}
use Prim.Native.Nat.{ℕ, zero, suc, ◌<◌}
use native.Mathlib.Omega.{arith}
use lib.Dec.{eqb, ltb}
use lib.ListN.{get_or, set}
use lib.Seq.{set_out, set-get_or}
use borrow.Author.Tests.{ltb-true, ltb-false}
use Rattle.std.proofs.lemmas.Bool.{and_parts}
use Rattle.std.specs.Prelude.{Some}
use Rattle.std.specs.Bool.{then_some}
use Rattle.rules.specs.declared.Line.{Line}
use Rattle.rules.specs.declared.Cache.{Cache}
use Rattle.rules.specs.declared.Machine.{Machine}
use Rattle.rules.specs.declared.Pos.{Pos}
use Rattle.rules.specs.declared.Answer.{Answer}
use Rattle.rules.specs.declared.Answer.TheVariants.{Done}
use Rattle.rules.specs.Data.{Data}
use Rattle.rules.specs.States.{is_sm}
use Rattle.rules.specs.Line.{empty, is_share}
use Rattle.rules.specs.Lists.{map_at}
use Rattle.rules.specs.Machine.{pos, at, no_cache, with_caches, change, drop, put, gives, place}
use Rattle.rules.specs.Load.{read_by, after_read}
use Rattle.rules.specs.Store.{misspeculates, version, closed, store_over, store_split, store_owned}
use Rattle.rules.proofs.Shape.{Shape, no_slot}
use Rattle.rules.proofs.base.Lists.{get_d_map}
use Rattle.moves.specs.declared.changes.Change.{Change}
use Rattle.moves.specs.declared.changes.Change.TheVariants.{DropOf, DropShares, DropStale, Demote, Abort, Reset, Stay}
use Rattle.moves.specs.Change.{changed, is_stay}
use Rattle.access.specs.declared.plans.Places.TheVariants.{One}
use Rattle.access.specs.Look.{held}
use Rattle.access.specs.Plan.{putting, carried, answering}

module _ {A : Type 0} where
  map_same : (k : ℕ → A → A) → ((i : ℕ) (y : A) → k i y ≡ y) → (l : List A) → map_at k l ≡ l
  unfolding map_at
  map_same k e [] = refl
  map_same k e (y ∷ l) = rw (e 0 y, map_same (λ i. k (suc i)) (λ i. e (suc i)) l)

-- every line stays, and so does the machine
pub stay_changes : (μ : Machine) → change (changed Stay) μ ≡ μ
unfolding change
stay_changes μ = ap (with_caches μ) (map_same _ (λ c h. ap with_lines (map_same _ (λ s l. refl) h.lines)) μ.caches)
  where
    with_lines : List Line → Cache
    with_lines ls = record { lines = ls }

pub stays_changes : (ch : Change) (μ : Machine) → is_stay ch ≡ true → change (changed ch) μ ≡ μ
stays_changes (DropOf x) μ e = absurd (cc)
stays_changes (DropShares x m) μ e = absurd (cc)
stays_changes (DropStale c x m) μ e = absurd (cc)
stays_changes (Demote x) μ e = absurd (cc)
stays_changes (Abort lc) μ e = absurd (cc)
stays_changes Reset μ e = absurd (cc)
stays_changes Stay μ e = stay_changes μ

pub answering_gives : (μ : Machine) (c : ℕ) (r : Answer) → carried μ c (answering r) ≡ gives r μ
unfolding carried
answering_gives μ c r = ap (gives r) (stay_changes μ)

-- ---- a line put

-- a place of the machine, by its test
pub in_cache_lem : (p : Pos) → (ltb p.cache 4 && ltb p.slot 16) ≡ true → p.cache < 4
in_cache_lem p e = ltb-true p.cache 4 (and_parts (ltb p.cache 4) (ltb p.slot 16) e).0

pub in_slot : (p : Pos) → (ltb p.cache 4 && ltb p.slot 16) ≡ true → p.slot < 16
in_slot p e = ltb-true p.slot 16 (and_parts (ltb p.cache 4) (ltb p.slot 16) e).1

-- past the end a line is put nowhere
pub put_out : (μ : Machine) → Shape μ → (p : Pos) (l : Line) → (ltb p.cache 4 && ltb p.slot 16) ≡ false → put p l μ ≡ μ
unfolding put
put_out μ h p l e = go (ltb p.cache 4) refl
  where
    go : (b : Bool) → ltb p.cache 4 ≡ b → put p l μ ≡ μ
    go true t =
        let s = ltb-false p.slot 16 (rw (← e, t) refl) in
        rw (set_out _ p.slot _ (no_slot μ h p.cache p.slot (ltb-true p.cache 4 t) s), set-get_or μ.caches p.cache no_cache)
    go false t = rw (set_out μ.caches p.cache _ (omega (arith, ltb-false p.cache 4 t, h.four)))

-- the owner's line after the read, in its slot
pub owner_read : (μ : Machine) (vid : Bool) (a : ℕ) (o : Pos) {l : Line} → l ≡ at μ o → putting (then_some vid (held o (read_by a l))) μ ≡ after_read μ vid a o
unfolding after_read
owner_read μ true a o e = rw e
owner_read μ false a o e = refl

-- ---- a line put, and then a change: the line changed, put after it

module _ {A : Type 0} where
  map_set : (k : ℕ → A → A) (l : List A) (i : ℕ) (y : A) → map_at k (set l i y) ≡ set (map_at k l) i (k i y)
  unfolding map_at
  map_set k [] i y = refl
  map_set k (z ∷ l) zero y = refl
  map_set k (z ∷ l) (suc i) y = ap (λ (r : List A). k 0 z ∷ r) (map_set (λ j. k (suc j)) l i y)

pub change_put : (k : Pos → Line → Line) (p : Pos) (l : Line) (μ : Machine) → change k (put p l μ) ≡ put p (k p l) (change k μ)
unfolding change put map_at
change_put k p l μ =
    rw (
      map_set (λ c h. record { lines = map_at (λ s l. k (pos c s) l) h.lines }) μ.caches p.cache,
      map_set (λ s l. k (pos p.cache s) l) (get_or μ.caches p.cache no_cache).lines p.slot l,
      get_d_map (λ c h. record { lines = map_at (λ s l. k (pos c s) l) h.lines }) μ.caches no_cache (λ i. refl) p.cache,
    )

-- the S-S lines drop, and what is left of the owner is none
pub owner_left : (μ : Machine) (c a x : ℕ) (d : Data) (o : Pos) {l left : Line} → l ≡ at μ o → misspeculates a l ≡ false → left ≡ cond (is_sm l.state && eqb a l.m) empty (closed a l)
    → carried μ c (record { answer = Done; put = Some (held o left); change = DropShares x l.m; places = One (version x a d) }) ≡ store_owned μ c a x d o
unfolding carried store_owned store_over store_split drop is_share
owner_left μ c a x d o {l} e f g = rw (g, change_put, ← e, f) (go (is_sm l.state && eqb a l.m))
  where
    k : Pos → Line → Line
    k = changed (DropShares x l.m)

    go : (b : Bool) → place μ Done c (version x a d) (put o (k o (cond b empty (closed a l))) (change k μ))
        ≡ cond b (place μ Done c (version x a d) (put o empty (change k μ))) (place μ Done c (version x a d) (put o (closed a l) (change k μ)))
    go true = refl
    go false = refl
