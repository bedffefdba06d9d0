-- What a store's search for the owner comes to: too late is misspeculation, and else the owner is the one that was found.
-- Assumes nothing.
use mathlib.Core.Path.{◌≡◌, refl, sym, ap, ◌∙◌, subst}
use mathlib.Core.Bool.{Bool, true, false, cond}
use Prim.Native.Nat.{ℕ}
use Rattle.std.specs.Prelude.{Option, Some, None, Result, Ok, Err}
use Rattle.rules.specs.declared.Held.{Held}
use Rattle.rules.specs.declared.Machine.{Machine}
use Rattle.rules.specs.declared.Pos.{Pos}
use Rattle.rules.specs.declared.Answer.TheVariants.{Misspec}
use Rattle.rules.specs.declared.Answered.{Answered}
use Rattle.rules.specs.Data.{Data}
use Rattle.rules.specs.Machine.{at, find, gives}
use Rattle.rules.specs.Abort.{abort_of}
use Rattle.rules.specs.Load.{plain_data}
use Rattle.rules.specs.Store.{misspeculates, store_new, store_m, store_owned, store_by, store_plain_by, store_of}
use Rattle.access.specs.declared.ask.Asked.{Asked}
use Rattle.access.specs.declared.stores.Late.{Late}
use Rattle.access.specs.Look.{owning, held, held_at}
use Rattle.access.specs.Plan.{Holds, StoreSees, held_word}
use Rattle.access.specs.Search.{searched, ActsAs}
use Rattle.access.proofs.Found.{found_stands, plain_data_held}

-- the store goes on from the owner that was seen, which it does not come too late for
abbrev Search : Type 0
Search = Result (Option Held) Late

pub cleared : (a : ℕ) (g : Option Held) {h : Option Held} → searched a g ≡ Ok h → g ≡ h
cleared a (Some o) {h} e = go (misspeculates a o.line) e
  where
    go : (b : Bool) → cond {A = Search} b (Err (record {})) (Ok (Some o)) ≡ Ok h → Some o ≡ h
    go true e = absurd (cc)
    go false e = cc
cleared a None e = cc

-- the search of that owner alone goes on from it too
pub goes_on : (a : ℕ) (g : Option Held) {h : Option Held} → searched a g ≡ Ok h → searched a h ≡ Ok h
goes_on a g {h} e = rw (cleared a g e) at e

pub on_time : (a : ℕ) (h : Held) {g : Option Held} → searched a (Some h) ≡ Ok g → misspeculates a h.line ≡ false
on_time a h {g} e = go (misspeculates a h.line) e
  where
    go : (b : Bool) → cond {A = Search} b (Err (record {})) (Ok (Some h)) ≡ Ok g → b ≡ false
    go true e = absurd (cc)
    go false e = refl

too_late : (a : ℕ) (h : Held) {l : Late} → searched a (Some h) ≡ Err l → misspeculates a h.line ≡ true
too_late a h {l} e = go (misspeculates a h.line) e
  where
    go : (b : Bool) → cond {A = Search} b (Err (record {})) (Ok (Some h)) ≡ Err l → b ≡ true
    go true e = refl
    go false e = absurd (cc)

module _ (μ : Machine) (c a x : ℕ) (d : Data) where
  -- by what was found
  late_found : (vid : Bool) → ActsAs μ vid a → (f : Option Pos) {l : Late} → searched a (held_at μ f) ≡ Err l
      → cond vid (store_by μ c a x d f) (store_plain_by μ c x d f) ≡ gives Misspec (abort_of μ)
  unfolding store_owned
  late_found true p (Some o) e = rw (too_late a (held o (at μ o)) e)
  late_found false p (Some o) e = rw (subst (λ n. misspeculates n (at μ o) ≡ true) (p refl) (too_late a (held o (at μ o)) e))
  late_found vid p None e = absurd (cc)

  pub misspecs : (vid : Bool) {h : Option Held} {l : Late} → Holds μ (owning x a) h → ActsAs μ vid a → searched a h ≡ Err l → store_of μ vid c a x d ≡ gives Misspec (abort_of μ)
  unfolding store_of
  misspecs vid g p e = late_found vid p (find (owning x a) μ) (rw g at e)

  -- a plain store that does not come too late
  plain_found : (f : Option Pos) {h : Option Held} → a ≡ μ.lcvid → searched a (held_at μ f) ≡ Ok h → store_plain_by μ c x d f ≡ store_m μ c x d
  plain_found (Some o) p e = rw (subst (λ n. misspeculates n (at μ o) ≡ false) p (on_time a (held o (at μ o)) e))
  plain_found None p e = refl

  pub plain_goes_on : {h g : Option Held} → Holds μ (owning x a) h → searched a h ≡ Ok g → a ≡ μ.lcvid → store_of μ false c a x d ≡ store_m μ c x d
  unfolding store_of
  plain_goes_on g e p = plain_found (find (owning x a) μ) p (rw g at e)

  -- a store with a VID, from an owner and from none
  abbrev pub stored_by : Option Held → Answered
  stored_by (Some h) = store_owned μ c a x d h.place
  stored_by None = store_new μ c a x d

  stored_held : (f : Option Pos) → store_by μ c a x d f ≡ stored_by (held_at μ f)
  stored_held (Some o) = refl
  stored_held None = refl

  pub store_held : {h : Option Held} → Holds μ (owning x a) h → store_of μ true c a x d ≡ stored_by h
  unfolding store_of
  store_held e = rw e (stored_held (find (owning x a) μ))

-- ---- by what a store sees

module _ {k : Asked} {μ : Machine} {o : Option Held} (f : StoreSees k o μ) where
  pub owner_found : {h : Held} → o ≡ Some h → h.line ≡ at μ h.place
  owner_found e = found_stands μ (find (owning k.access.x k.access.a) μ) (sym f.owner ∙ e)

  pub old_word : held_word k.seen.plain k.memory ≡ plain_data μ k.access.x
  old_word = sym (plain_data_held μ k.access.x f.plain f.memory)

  pub store_from : (c : ℕ) (d : Data) {h : Held} → k.access.vid ≡ true → o ≡ Some h → store_of μ k.access.vid c k.access.a k.access.x d ≡ store_owned μ c k.access.a k.access.x d h.place
  store_from c d v e = rw v (store_held μ c k.access.a k.access.x d f.owner ∙ ap (stored_by μ c k.access.a k.access.x d) e)

  pub store_first : (c : ℕ) (d : Data) → k.access.vid ≡ true → o ≡ None → store_of μ k.access.vid c k.access.a k.access.x d ≡ store_new μ c k.access.a k.access.x d
  store_first c d v e = rw v (store_held μ c k.access.a k.access.x d f.owner ∙ ap (stored_by μ c k.access.a k.access.x d) e)
