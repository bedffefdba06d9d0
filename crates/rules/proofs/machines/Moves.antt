-- The moves that steps are made of, each local to an address: a line put, lines dropped or changed, a word written; and that they keep the rules of lines.
-- Assumes nothing.
use mathlib.Core.Path.{◌≡◌, refl, ◌∙◌}
use mathlib.Core.Logic.{◌≢◌, ◌⊎◌, inl, inr}
use mathlib.Core.Bool.{Bool, true, false}
use Prim.Native.Nat.{ℕ, ◌<◌}
use native.Mathlib.Decide.{ℕ_discrete}
use lib.ListN.{length, length-set}
use lib.Seq.{get_or-set_same, get_or-set_other}
use Rattle.std.specs.Prelude.{Some}
use Rattle.rules.specs.declared.Line.{Line}
use Rattle.rules.specs.declared.Machine.{Machine}
use Rattle.rules.specs.declared.Pos.{Pos}
use Rattle.rules.specs.Data.{Data, no_data}
use Rattle.rules.specs.Line.{empty, live}
use Rattle.rules.specs.Machine.{pos, at, memory_at, change, drop, put, write, free_slot}
use Rattle.rules.specs.House.{LineRules}
use Rattle.std.proofs.lemmas.Bool.{both_ways}
use Rattle.rules.proofs.base.Bools.{by_test}
use Rattle.rules.proofs.base.Lists.{length_map}
use Rattle.rules.proofs.base.Lines.{Here, live_test, pos_dec}
use Rattle.rules.proofs.base.LineRules.{rules_empty}
use Rattle.rules.proofs.machines.Places.{at_change, drop_gone, drop_stays, at_put_same, at_put_other, at_put_any, free_within}
use Rattle.rules.proofs.address.Added.{Added}
use Rattle.rules.proofs.machines.Local.{Off, off_empty, off_at, off_free, Local}

-- ---- put

pub put_local : (μ : Machine) (p : Pos) (l : Line) (x : ℕ) → Off μ.lcvid x (at μ p) → Off μ.lcvid x l → Local μ (put p l μ) x
put_local μ p l x i j = record { last = unfold put in refl; memory = λ y n. unfold put memory_at in refl; lines = λ q. go q (pos_dec q p) (at_put_any μ p q l) }
  where
    go : (q : Pos) → Dec (q ≡ p) → (at (put p l μ) q ≡ l) ⊎ (at (put p l μ) q ≡ at μ q) → (at (put p l μ) q ≡ at μ q) ⊎ (Off μ.lcvid x (at μ q) × Off μ.lcvid x (at (put p l μ) q))
    go q (no n) e = inl (at_put_other μ p q l n)
    go q (yes d) (inl e) = inr (rw d i, rw e j)
    go q (yes d) (inr e) = inl e

pub put_fits : {N : ℕ} (μ : Machine) (p : Pos) (l : Line) → LineRules N l → ((q : Pos) → LineRules N (at μ q)) → (q : Pos) → LineRules N (at (put p l μ) q)
put_fits {N} μ p l i f q = go (at_put_any μ p q l)
  where
    go : (at (put p l μ) q ≡ l) ⊎ (at (put p l μ) q ≡ at μ q) → LineRules N (at (put p l μ) q)
    go (inl e) = rw e i
    go (inr e) = rw e (f q)

pub put_memory : (μ : Machine) (p : Pos) (l : Line) (x : ℕ) → memory_at (put p l μ) x ≡ memory_at μ x
put_memory μ p l x = unfold put memory_at in refl

pub put_width : (μ : Machine) (p : Pos) (l : Line) → length (put p l μ).caches ≡ length μ.caches
unfolding put
put_width μ p l = length-set μ.caches p.cache _

-- ---- a line placed in the free slot e of cache c

module _ (δ : Machine) (c e : ℕ) (l : Line) (slot : free_slot δ c ≡ Some e) (in_range : c < length δ.caches) where
  pub placed_new : at (put (pos c e) l δ) (pos c e) ≡ l
  placed_new = at_put_same δ (pos c e) l (free_within δ c e slot in_range).0

  pub placed_free : live δ.lcvid (at δ (pos c e)) ≡ false
  placed_free = (free_within δ c e slot in_range).1

  pub placed_local : (x : ℕ) → l.address ≡ x → Local δ (put (pos c e) l δ) x
  placed_local x i = put_local δ (pos c e) l x (off_free δ.lcvid x (at δ (pos c e)) placed_free) (off_at δ.lcvid x l i)

  pub placed_added : (x : ℕ) → Here δ.lcvid x l → Added (at δ) (at (put (pos c e) l δ)) δ.lcvid x (pos c e)
  placed_added x h =
      record {
        rest = λ q n. at_put_other δ (pos c e) q l n;
        free = λ k. both_ways _ placed_free ((live_test δ.lcvid (at δ (pos c e))).when k.alive);
        here = rw placed_new h;
      }

-- ---- drop

pub drop_local : (t : Pos → Line → Bool) (μ : Machine) (x : ℕ) → ((p : Pos) → t p (at μ p) ≡ true → (at μ p).address ≡ x) → Local μ (drop t μ) x
drop_local t μ x k = record {
  last = unfold drop change in refl;
  memory = λ y n. unfold drop change memory_at in refl;
  lines = λ q. by_test (t q (at μ q)) (λ i. inr (off_at μ.lcvid x (at μ q) (k q i), rw (drop_gone t μ q i) (off_empty μ.lcvid x))) (λ i. inl (drop_stays t μ q i));
}

pub drop_fits : {N : ℕ} (t : Pos → Line → Bool) (μ : Machine) → ((q : Pos) → LineRules N (at μ q)) → (q : Pos) → LineRules N (at (drop t μ) q)
drop_fits {N} t μ f q = by_test (t q (at μ q)) (λ i. rw (drop_gone t μ q i) (rules_empty N)) (λ i. rw (drop_stays t μ q i) (f q))

pub drop_memory : (t : Pos → Line → Bool) (μ : Machine) (x : ℕ) → memory_at (drop t μ) x ≡ memory_at μ x
drop_memory t μ x = unfold drop change memory_at in refl

pub drop_width : (t : Pos → Line → Bool) (μ : Machine) → length (drop t μ).caches ≡ length μ.caches
unfolding drop change
drop_width t μ = length_map _ μ.caches

-- ---- change

pub change_width : (k : Pos → Line → Line) (μ : Machine) → length (change k μ).caches ≡ length μ.caches
unfolding change
change_width k μ = length_map _ μ.caches

pub change_local : (k : Pos → Line → Line) (μ : Machine) (x : ℕ) → ((p : Pos) → k p empty ≡ empty) → ((p : Pos) (l : Line) → l.address ≢ x → k p l ≡ l)
    → ((p : Pos) (l : Line) → l.address ≡ x → (k p l).address ≡ x) → Local μ (change k μ) x
change_local k μ x e other same = record { last = unfold change in refl; memory = λ y n. unfold change memory_at in refl; lines = λ q. go q (ℕ_discrete (at μ q).address x) }
  where
    go : (q : Pos) → Dec ((at μ q).address ≡ x) → (at (change k μ) q ≡ at μ q) ⊎ (Off μ.lcvid x (at μ q) × Off μ.lcvid x (at (change k μ) q))
    go q (no n) = inl (at_change k μ e q ∙ other q (at μ q) n)
    go q (yes d) = inr (off_at μ.lcvid x (at μ q) d, rw (at_change k μ e q) (off_at μ.lcvid x (k q (at μ q)) (same q (at μ q) d)))

pub change_memory : (k : Pos → Line → Line) (μ : Machine) (x : ℕ) → memory_at (change k μ) x ≡ memory_at μ x
change_memory k μ x = unfold change memory_at in refl

-- ---- write

pub write_local : (μ : Machine) (x : ℕ) (d : Data) → Local μ (write x d μ) x
write_local μ x d =
    record { last = unfold write in refl; memory = λ y n. unfold write memory_at in get_or-set_other μ.memory x y d no_data n; lines = λ q. inl (unfold write at in refl) }

pub write_lines : (μ : Machine) (x : ℕ) (d : Data) (q : Pos) → at (write x d μ) q ≡ at μ q
write_lines μ x d q = unfold write at in refl

pub write_memory : (μ : Machine) (x : ℕ) (d : Data) → x < length μ.memory → memory_at (write x d μ) x ≡ d
write_memory μ x d h = unfold write memory_at in get_or-set_same μ.memory x d no_data h
