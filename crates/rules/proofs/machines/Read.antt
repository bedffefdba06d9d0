-- Reading the owner for a: where the load has a VID the owner's h is raised to a. Nothing that is seen changes, and a is marked.
-- Assumes nothing.
use mathlib.Core.Path.{◌≡◌, refl, ◌∙◌}
use mathlib.Core.Logic.{◌≢◌, ◌⊎◌, inl, inr}
use mathlib.Core.Bool.{Bool, true, false, false≢true}
use Prim.Native.Nat.{ℕ, ◌≤◌, ◌<◌}
use native.Mathlib.Omega.{arith}
use lib.ListN.{length}
use Rattle.rules.specs.declared.Line.{Line}
use Rattle.rules.specs.declared.Machine.{Machine}
use Rattle.rules.specs.declared.Pos.{Pos}
use Rattle.rules.specs.States.{is_so, top, owns}
use Rattle.rules.specs.Line.{empty}
use Rattle.rules.specs.Machine.{at, put}
use Rattle.rules.specs.House.{LineRules}
use Rattle.rules.specs.Load.{read_by, after_read}
use Rattle.rules.proofs.base.Bools.{by_test}
use Rattle.rules.proofs.base.States.{owns_cases, so_ranged, top_not_ranged}
use Rattle.rules.proofs.base.Lines.{Here, pos_dec}
use Rattle.rules.proofs.base.LineRules.{rules_top}
use Rattle.rules.proofs.address.Sound.{OwnerAt}
use Rattle.rules.proofs.address.Owners.{mark_range}
use Rattle.rules.proofs.address.Rebuild.{Like, like_same, like_here, still, SameAt, keeps_same}
use Rattle.rules.proofs.machines.Places.{at_put_same, at_put_other, some_within}
use Rattle.rules.proofs.machines.Sound.{Sound, good}
use Rattle.rules.proofs.machines.View.{Marked}
use Rattle.rules.proofs.machines.Local.{off_at, Keeps, local_keeps, keeps_itself}
use Rattle.rules.proofs.machines.Moves.{put_local, put_fits, put_memory, put_width}

-- ---- the line that was read

like_read : (a : ℕ) (l : Line) → Like a l (read_by a l)
unfolding read_by
like_read a l =
    by_test (top l.state)
    (λ t. rw t (record { state = refl; same_m = refl; word = refl; more = omega arith; most = omega arith; end = λ r. top_not_ranged l.state t r }))
    (λ t. rw t (like_same a refl))

read_address : (a : ℕ) (l : Line) → (read_by a l).address ≡ l.address
unfolding read_by
read_address a l = by_test (top l.state) (λ t. rw t) (λ t. rw t)

read_high : (a : ℕ) (l : Line) → top l.state ≡ true → a ≤ (read_by a l).h
unfolding read_by
read_high a l t = rw t (omega arith)

read_rules : {N : ℕ} (a : ℕ) (l : Line) → a < N → LineRules N l → LineRules N (read_by a l)
unfolding read_by
read_rules {N} a l small r =
    by_test (top l.state)
    (λ t. let (i, j, k) = r.newest t in rw t (rules_top N _ t (omega arith) (omega arith) (omega arith) r.zero))
    (λ t. rw t r)

-- ---- the machine after

pub record Reads (N : ℕ) (μ ρ : Machine) (vid : Bool) (a x : ℕ) (o : Pos) : Type 0 where
  pub keeps : Keeps N μ ρ a x
  pub like : Like a (at μ o) (at ρ o)
  pub here : Here ρ.lcvid x (at ρ o)
  pub high : vid ≡ true → top (at μ o).state ≡ true → a ≤ (at ρ o).h
  pub width : length ρ.caches ≡ length μ.caches

module _ {N : ℕ} {μ : Machine} (s : Sound N μ) (a x : ℕ) (small : a < N) (o : Pos) (O : OwnerAt (at μ) μ.lcvid x a o) where
  abbrev raised : Machine
  raised = put o (read_by a (at μ o)) μ

  raised_o : at raised o ≡ read_by a (at μ o)
  raised_o = at_put_same μ o (read_by a (at μ o)) (some_within μ o some)
    where
      some : at μ o ≢ empty
      some e = let z : owns empty.state ≡ true = rw e at O.owning in false≢true z

  like_o : Like a (at μ o) (at raised o)
  like_o = rw raised_o (like_read a (at μ o))

  here_o : Here μ.lcvid x (at raised o)
  here_o = like_here like_o (rw raised_o (read_address a (at μ o) ∙ O.here.at)) O.here

  raised_same : SameAt a (at μ) (at raised) μ.lcvid x
  raised_same = record { there = λ q h. there q h (pos_dec q o); back = λ q h. back q h (pos_dec q o) }
    where
      there : (q : Pos) → Here μ.lcvid x (at μ q) → Dec (q ≡ o) → Here μ.lcvid x (at raised q) × Like a (at μ q) (at raised q)
      there q h (yes e) = rw e (here_o, like_o)
      there q h (no n) = let e = at_put_other μ o q (read_by a (at μ o)) n in (rw e h, like_same a e)

      back : (q : Pos) → Here μ.lcvid x (at raised q) → Dec (q ≡ o) → Here μ.lcvid x (at μ q) × Like a (at μ q) (at raised q)
      back q h (yes e) = rw e (O.here, like_o)
      back q h (no n) = let e = at_put_other μ o q (read_by a (at μ o)) n in (rw e at h, like_same a e)

  pub reads : (vid : Bool) → Reads N μ (after_read μ vid a o) vid a x o
  unfolding after_read
  reads true = record {
    keeps = local_keeps s
        (put_local μ o (read_by a (at μ o)) x (off_at μ.lcvid x (at μ o) O.here.at) (off_at μ.lcvid x (read_by a (at μ o)) (read_address a (at μ o) ∙ O.here.at)))
        (put_fits μ o (read_by a (at μ o)) (read_rules a (at μ o) small (s.fits o)) s.fits) a (put_memory μ o (read_by a (at μ o)) x) (keeps_same raised_same (s.each x));
    like = like_o;
    here = unfold put in here_o;
    high = λ v t. rw raised_o (read_high a (at μ o) t);
    width = put_width μ o (read_by a (at μ o));
  }
  reads false = record { keeps = keeps_itself a x s; like = like_same a refl; here = O.here; high = λ v. absurd (false≢true v); width = refl }

  -- an S-O's range is marked by what is above it; an S-M or S-E by its h
  pub reads_mark : μ.lcvid < a → Marked (after_read μ true a o) x a
  unfolding after_read
  reads_mark i = go (owns_cases (at μ o).state O.owning)
    where
      go : (is_so (at μ o).state ≡ true) ⊎ (top (at μ o).state ≡ true) → Marked (after_read μ true a o) x a
      go (inl j) = (reads true).keeps.keeps x a i (mark_range (good s x) a o O.here j (O.hit.until (so_ranged (at μ o).state j)))
      go (inr t) = unfold put in (o, here_o, (still like_o top t, rw raised_o (read_high a (at μ o) t)))
