-- Laws of the memory without caches and of the order in which it runs the accesses that stand: what a new access changes, and what striking leaves.
-- Assumes nothing.
use mathlib.Core.Path.{◌≡◌, refl, sym, ◌∙◌}
use mathlib.Core.Logic.{◌≢◌}
use mathlib.Core.Bool.{Bool, true, false, cond, ◌&&◌}
use mathlib.Core.List.{List, [], ◌∷◌, ◌++◌, append_assoc, append-nil}
use Prim.Native.Nat.{ℕ, zero, suc, ◌+◌, ◌-◌, ◌≤◌, ◌<◌}
use native.Mathlib.Omega.{arith}
use native.Mathlib.Nat.{add-zero, add-suc}
use native.Mathlib.Decide.{dec_lt}
use lib.Dec.{leb, eqb}
use borrow.Author.Tests.{leb-true, leb-false, eqb-true, eq-eqb, ne_eqb}
use Rattle.rules.specs.Flights.{Access, up_to, of_vid, below, in_order, once, Returned, Every}

-- ---- what holds of each

pub every_any : {A : Type 0} (P : A → Type 0) (l : List A) → ((e : A) → P e) → Every P l
unfolding Every
every_any P [] f = tt
every_any P (e ∷ l) f = (f e, every_any P l f)

pub every_of : {A : Type 0} (P Q : A → Type 0) (l : List A) → ((e : A) → P e → Q e) → Every P l → Every Q l
unfolding Every
every_of P Q [] f h = tt
every_of P Q (e ∷ l) f h = (f e h.0, every_of P Q l f h.1)

every_append : {A : Type 0} (P : A → Type 0) (l k : List A) → Every P l → Every P k → Every P (l ++ k)
unfolding Every
every_append P [] k h j = j
every_append P (e ∷ l) k h j = (h.0, every_append P l k h.1 j)

pub every_new : {A : Type 0} (P : A → Type 0) (l : List A) (e : A) → Every P l → P e → Every P (l ++ e ∷ [])
every_new P l e h p = every_append P l (e ∷ []) h (unfold Every in (p, tt))

every_none : {A : Type 0} (l : List A) → Every (λ e. ⊥) l → l ≡ []
unfolding Every
every_none [] h = refl
every_none (e ∷ l) h = absurd h.0

pub every_up_to : (P : Access → Type 0) (v : ℕ) (l : List Access) → Every (λ e. e.vid ≤ v → P e) l → Every P (up_to v l)
unfolding Every up_to
every_up_to P v [] h = tt
every_up_to P v (e ∷ l) h = go (leb e.vid v) refl (every_up_to P v l h.1)
  where
    go : (b : Bool) → leb e.vid v ≡ b → Every P (up_to v l) → Every P (cond b (e ∷ up_to v l) (up_to v l))
    go true p r = (h.0 (leb-true e.vid v p), r)
    go false p r = r

every_of_vid : (P : Access → Type 0) (v : ℕ) (l : List Access) → Every (λ e. e.vid ≡ v → P e) l → Every P (of_vid v l)
unfolding Every of_vid
every_of_vid P v [] h = tt
every_of_vid P v (e ∷ l) h = go (eqb e.vid v) refl (every_of_vid P v l h.1)
  where
    go : (b : Bool) → eqb e.vid v ≡ b → Every P (of_vid v l) → Every P (cond b (e ∷ of_vid v l) (of_vid v l))
    go true p r = (h.0 (eqb-true e.vid v p), r)
    go false p r = r

-- ---- the order, cut in two at a VID

-- the accesses with the k VIDs from v on, by VID
between : ℕ → ℕ → List Access → List Access
between v zero l = []
between v (suc k) l = between v k l ++ of_vid (v + k) l

every_between : (P : Access → Type 0) (v k : ℕ) (l : List Access) → Every (λ e. v ≤ e.vid → P e) l → Every P (between v k l)
unfolding between Every
every_between P v zero l h = tt
every_between P v (suc k) l h =
    every_append P (between v k l) (of_vid (v + k) l) (every_between P v k l h) (every_of_vid P (v + k) l (every_of _ _ l (λ e p q. p (omega arith)) h))

below_between : (v k : ℕ) (l : List Access) → below (v + k) l ≡ below v l ++ between v k l
unfolding between below
below_between v zero l = simp (add-zero, append-nil)
below_between v (suc k) l = rw (add-suc, below_between v k l) (append_assoc (below v l) (between v k l) (of_vid (v + k) l))

below_split : (n v : ℕ) (l : List Access) → v ≤ n → below n l ≡ below v l ++ between v (n - v) l
below_split n v l h = let q : v + (n - v) ≡ n = omega arith in rw q at (below_between v (n - v) l)

pub below_nil : (n : ℕ) → below n [] ≡ []
unfolding below of_vid
below_nil zero = refl
below_nil (suc n) = rw (below_nil n)

-- no access has a VID from v on
pub below_top : (n v : ℕ) (l : List Access) → v ≤ n → Every (λ e. e.vid < v) l → below n l ≡ below v l
below_top n v l h q =
    below_split n v l h ∙ rw (every_none (between v (n - v) l) (every_between (λ e. ⊥) v (n - v) l (every_of _ _ l (λ e p j. omega arith) q)), append-nil)

-- ---- the order where those above a VID are struck

of_vid_kept : (u v : ℕ) (l : List Access) → u ≤ v → of_vid u (up_to v l) ≡ of_vid u l
unfolding of_vid up_to
of_vid_kept u v [] h = refl
of_vid_kept u v (e ∷ l) h = go (leb e.vid v) refl (eqb e.vid u) refl (of_vid_kept u v l h)
  where
    go : (b : Bool) → leb e.vid v ≡ b → (c : Bool) → eqb e.vid u ≡ c → of_vid u (up_to v l) ≡ of_vid u l
        → of_vid u (cond b (e ∷ up_to v l) (up_to v l)) ≡ cond c (e ∷ of_vid u l) (of_vid u l)
    go true p c q ih = rw (q, ih)
    go false p true q ih = absurd (omega (arith, leb-false e.vid v p, eqb-true e.vid u q))
    go false p false q ih = ih

below_kept : (n v : ℕ) (l : List Access) → n ≤ suc v → below n (up_to v l) ≡ below n l
unfolding below
below_kept zero v l h = refl
below_kept (suc n) v l h = rw (below_kept n v l (omega arith), of_vid_kept n v l (omega arith))

pub below_struck : (n v : ℕ) (l : List Access) → v < n → below n (up_to v l) ≡ below (suc v) l
below_struck n v l h = below_top n (suc v) (up_to v l) h (every_up_to _ v l (every_any _ l (λ e j. omega arith))) ∙ below_kept (suc v) v l (omega arith)

-- ---- the order with a new access: behind all those up to its VID, before those above it

of_vid_append : (v : ℕ) (l k : List Access) → of_vid v (l ++ k) ≡ of_vid v l ++ of_vid v k
unfolding of_vid
of_vid_append v [] k = refl
of_vid_append v (e ∷ l) k = rw (of_vid_append v l k) (go (eqb e.vid v))
  where
    go : (b : Bool) → cond b (e ∷ (of_vid v l ++ of_vid v k)) (of_vid v l ++ of_vid v k) ≡ cond b (e ∷ of_vid v l) (of_vid v l) ++ of_vid v k
    go true = refl
    go false = refl

of_vid_new : (l : List Access) (e : Access) → of_vid e.vid (l ++ e ∷ []) ≡ of_vid e.vid l ++ e ∷ []
of_vid_new l e = rw of_vid_append (unfold of_vid in (simp (eq-eqb e.vid e.vid refl)))

of_vid_new_other : (v : ℕ) (l : List Access) (e : Access) → e.vid ≢ v → of_vid v (l ++ e ∷ []) ≡ of_vid v l
of_vid_new_other v l e h = rw of_vid_append (unfold of_vid in (simp (ne_eqb e.vid v h, append-nil)))

pub below_new_above : (n : ℕ) (l : List Access) (e : Access) → n ≤ e.vid → below n (l ++ e ∷ []) ≡ below n l
unfolding below
below_new_above zero l e h = refl
below_new_above (suc n) l e h = rw (below_new_above n l e (omega arith), of_vid_new_other n l e (omega arith))

between_new_below : (v k : ℕ) (l : List Access) (e : Access) → e.vid < v → between v k (l ++ e ∷ []) ≡ between v k l
unfolding between
between_new_below v zero l e h = refl
between_new_below v (suc k) l e h = rw (between_new_below v k l e h, of_vid_new_other (v + k) l e (omega arith))

below_new : (n : ℕ) (l : List Access) (e : Access) → e.vid < n
    → below n (l ++ e ∷ []) ≡ below (suc e.vid) l ++ e ∷ between (suc e.vid) (n - suc e.vid) l
unfolding below
below_new n l e h =
    rw (
      below_split n (suc e.vid) (l ++ e ∷ []) h,
      below_new_above e.vid l e (omega arith),
      of_vid_new l e,
      between_new_below (suc e.vid) (n - suc e.vid) l e (omega arith),
    )
    (simp append_assoc)

pub in_order_new : (n : ℕ) (fs : List (List Access)) (f : List Access) → in_order n (fs ++ f ∷ []) ≡ in_order n fs ++ below n f
unfolding in_order
in_order_new n [] f = append-nil (below n f)
in_order_new n (g ∷ fs) f = rw (in_order_new n fs f) (sym (append_assoc (below n g) (in_order n fs) (below n f)))

-- ---- the memory

-- the memory after a list of accesses
unfoldable pub after : (ℕ → ℕ) → List Access → ℕ → ℕ
after mem [] = mem
after mem (e ∷ l) = after (once mem e) l

pub after_append : (mem : ℕ → ℕ) (l k : List Access) → after mem (l ++ k) ≡ after (after mem l) k
unfolding after
after_append mem [] k = refl
after_append mem (e ∷ l) k = after_append (once mem e) l k

pub returned_append : (mem : ℕ → ℕ) (l k : List Access) → Returned mem l → Returned (after mem l) k → Returned mem (l ++ k)
unfolding after Returned
returned_append mem [] k r s = s
returned_append mem (e ∷ l) k r s = (r.0, returned_append (once mem e) l k r.1 s)

returned_left : (mem : ℕ → ℕ) (l k : List Access) → Returned mem (l ++ k) → Returned mem l
unfolding Returned
returned_left mem [] k r = tt
returned_left mem (e ∷ l) k r = (r.0, returned_left (once mem e) l k r.1)

returned_right : (mem : ℕ → ℕ) (l k : List Access) → Returned mem (l ++ k) → Returned (after mem l) k
unfolding after Returned
returned_right mem [] k r = r
returned_right mem (e ∷ l) k r = returned_right (once mem e) l k r.1

pub returned_below : (mem : ℕ → ℕ) (n v : ℕ) (l : List Access) → v ≤ n → Returned mem (below n l) → Returned mem (below v l)
returned_below mem n v l h r = returned_left mem (below v l) (between v (n - v) l) (rw (below_split n v l h) at r)

-- ---- each address goes by itself

-- the access e does nothing to the word at x
abbrev pub Leaves : Access → ℕ → Type 0
Leaves e x = (mem : ℕ → ℕ) → once mem e x ≡ mem x

pub load_leaves : (e : Access) (x : ℕ) → e.stores ≡ false → Leaves e x
unfolding once
load_leaves e x h mem = rw h (go (eqb x e.at))
  where
    go : (b : Bool) → cond (b && false) e.word (mem x) ≡ mem x
    go true = refl
    go false = refl

pub other_leaves : (e : Access) (x : ℕ) → e.at ≢ x → Leaves e x
unfolding once
other_leaves e x h mem = rw (ne_eqb x e.at (λ q. h (sym q)))

once_store : (mem : ℕ → ℕ) (e : Access) → e.stores ≡ true → once mem e e.at ≡ e.word
unfolding once
once_store mem e h = rw (eq-eqb e.at e.at refl, h)

once_local : (mem mem' : ℕ → ℕ) (e : Access) (x : ℕ) → mem x ≡ mem' x → once mem e x ≡ once mem' e x
unfolding once
once_local mem mem' e x h = rw h

after_local : (mem mem' : ℕ → ℕ) (l : List Access) (x : ℕ) → mem x ≡ mem' x → after mem l x ≡ after mem' l x
unfolding after
after_local mem mem' [] x h = h
after_local mem mem' (e ∷ l) x h = after_local (once mem e) (once mem' e) l x (once_local mem mem' e x h)

after_leaves : (mem : ℕ → ℕ) (l : List Access) (x : ℕ) → Every (λ e. Leaves e x) l → after mem l x ≡ mem x
unfolding after Every
after_leaves mem [] x q = refl
after_leaves mem (e ∷ l) x q = after_leaves (once mem e) l x q.1 ∙ q.0 mem

returned_local : (mem mem' : ℕ → ℕ) (l : List Access) → Every (λ e. mem e.at ≡ mem' e.at) l → Returned mem l → Returned mem' l
unfolding Returned Every
returned_local mem mem' [] q r = tt
returned_local mem mem' (e ∷ l) q r =
    (λ s. r.0 s ∙ q.0, returned_local (once mem e) (once mem' e) l (every_of _ _ l (λ d. once_local mem mem' e d.at) q.1) r.1)

-- ---- a flight with a new access

module _ (mem : ℕ → ℕ) (n : ℕ) (l : List Access) (e : Access) where
  module _ (low : e.vid < n) where
    -- those that the new access goes behind, and those that it goes before
    abbrev front : List Access
    front = below (suc e.vid) l

    abbrev back : List Access
    back = between (suc e.vid) (n - suc e.vid) l

    below_old : below n l ≡ front ++ back
    below_old = below_split n (suc e.vid) l low

    every_back : (P : Access → Type 0) → Every (λ d. e.vid < d.vid → P d) l → Every P back
    every_back P q = every_between P (suc e.vid) (n - suc e.vid) l q

    -- the new one returned what it had to, and does nothing to what those above it use
    pub returned_new : (e.stores ≡ false → e.word ≡ after mem (below (suc e.vid) l) e.at) → Every (λ d. e.vid < d.vid → Leaves e d.at) l
        → Returned mem (below n l) → Returned mem (below n (l ++ e ∷ []))
    returned_new w q r =
        rw (below_new n l e low)
        (returned_append mem front (e ∷ back) (returned_left mem front back (rw below_old at r))
        (unfold Returned in (
          w,
          returned_local (after mem front) (once (after mem front) e) back
              (every_of _ _ back (λ d p. sym (p (after mem front))) (every_back _ q))
              (returned_right mem front back (rw below_old at r)),
        )))

    -- a store at an address to which none above it stores
    pub after_new_store : e.stores ≡ true → Every (λ d. e.vid < d.vid → Leaves d e.at) l → after mem (below n (l ++ e ∷ [])) e.at ≡ e.word
    after_new_store h q =
        rw (below_new n l e low, after_append mem front (e ∷ back))
        (unfold after in (after_leaves (once (after mem front) e) back e.at (every_back _ q) ∙ once_store (after mem front) e h))

    after_new_low : (x : ℕ) → Leaves e x → after mem (below n (l ++ e ∷ [])) x ≡ after mem (below n l) x
    after_new_low x h =
        rw (below_new n l e low, below_old, after_append mem front (e ∷ back), after_append mem front back)
        (unfold after in (after_local (once (after mem front) e) (after mem front) back x (h (after mem front))))

  pub after_new : (x : ℕ) → Leaves e x → after mem (below n (l ++ e ∷ [])) x ≡ after mem (below n l) x
  after_new x h = go (dec_lt e.vid n)
    where
      go : Dec (e.vid < n) → after mem (below n (l ++ e ∷ [])) x ≡ after mem (below n l) x
      go (yes low) = after_new_low low x h
      go (no up) = rw (below_new_above n l e (omega arith))
