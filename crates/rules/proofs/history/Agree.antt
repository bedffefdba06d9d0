-- Demand 3 for any machine that keeps the laws: what stands agrees with the machine, every lawful step keeps that, and so each load that stands
-- returned what the memory without caches returns.
-- Assumes nothing.
use mathlib.Core.Path.{◌≡◌, refl, sym, ◌∙◌}
use mathlib.Core.Logic.{◌≢◌}
use mathlib.Core.Bool.{true, false, true≢false}
use mathlib.Core.List.{List, [], ◌∷◌, ◌++◌}
use Prim.Native.Nat.{ℕ, suc, ◌≤◌, ◌<◌}
use native.Mathlib.Omega.{arith}
use native.Mathlib.Decide.{dec_lt, dec_le, ℕ_discrete}
use Rattle.rules.specs.declared.Op.{Op}
use Rattle.rules.specs.declared.Op.TheVariants.{Load, Store, Commit, Abort, Reset, Evict}
use Rattle.rules.specs.declared.Answer.{Answer}
use Rattle.rules.specs.declared.Answer.TheVariants.{Value, Done, Misspec, Overflow, Refused}
use Rattle.rules.specs.Step.{acts_with}
use Rattle.rules.specs.Flights.{Access, Standing, none, more, struck, loaded, finished, note, standing, events, below, in_order, Returned, Every, Serial}
use Rattle.rules.proofs.history.Laws.{KeepsMarks, Loads, Stores, Commits, Aborts, Resets, Evicts, LawValue, LawDone, Law}
use Rattle.rules.proofs.history.Memory.{every_any, every_of, every_new, every_up_to, below_nil, below_top, below_struck, below_new_above, in_order_new, after, after_append, returned_append, returned_below, load_leaves, other_leaves, returned_new, after_new, after_new_store}

-- the machine after a list of steps
module _ {M : Type 0} (next : M → Op → M) where
  unfoldable pub final : M → List Op → M
  final m [] = m
  final m (op ∷ ops) = final (next m op) ops

module _ (M : Type 0) (line : ℕ → ℕ) (lc : M → ℕ) (view : M → ℕ → ℕ → ℕ) (Marked : M → ℕ → ℕ → Type 0) (Sound : M → Type 0) (N : ℕ) (mem : ℕ → ℕ) where
  -- the memory without caches when this flight begins
  abbrev base : Standing → ℕ → ℕ
  base g = after mem (in_order N g.past)

  -- the VID of an access of this flight is small, and above the last committed one the access has left its mark
  abbrev Bound : M → Access → Type 0
  Bound m e = (e.vid < N) × (lc m < e.vid → Marked m e.at e.vid)

  -- what stands is as it should be, and each number sees what the memory without caches holds after this flight's accesses up to that number
  pub record Agrees (g : Standing) (m : M) : Type 0 where
    pub sound : Sound m
    pub last : g.last ≡ lc m
    pub all_past : Every (λ f. Every (λ e. e.vid < N) f) g.past
    pub returned_past : Returned mem (in_order N g.past)
    pub returned_now : Returned (base g) (below N g.now)
    pub views : (x a : ℕ) → lc m ≤ a → view m x a ≡ after (base g) (below (suc a) g.now) x
    pub bound : Every (Bound m) g.now

  pub agrees_serial : (g : Standing) (m : M) → Agrees g m → Serial N mem g
  agrees_serial g m i = record {
    all = every_new _ g.past g.now i.all_past (every_of _ _ g.now (λ e p. p.0) i.bound);
    returned = rw (in_order_new N g.past g.now) (returned_append mem (in_order N g.past) (below N g.now) i.returned_past i.returned_now);
  }

  -- ---- one step, from m to n

  module _ (g : Standing) (m n : M) (s : Sound n) (i : Agrees g m) where
    bound_kept : lc m ≤ lc n → KeepsMarks M line lc view Marked m n → Every (Bound n) g.now
    bound_kept h k = every_of _ _ g.now (λ e p. (p.0, λ j. k e.at e.vid j (p.1 (omega arith)))) i.bound

    agrees_evict : Evicts M line lc view Marked m n → Agrees g n
    agrees_evict l = record {
      sound = s;
      last = i.last ∙ sym l.last;
      all_past = i.all_past;
      returned_past = i.returned_past;
      returned_now = i.returned_now;
      views = λ x a h. l.same x a h ∙ i.views x a (omega (arith, l.last));
      bound = bound_kept (omega (arith, l.last)) l.keeps;
    }

    agrees_commit : (v : ℕ) → Commits M line lc view Marked m n v → Agrees (record { last = v; past = g.past; now = g.now }) n
    agrees_commit v l = record {
      sound = s;
      last = sym l.last;
      all_past = i.all_past;
      returned_past = i.returned_past;
      returned_now = i.returned_now;
      views = λ x a h. l.same x a h ∙ i.views x a (omega (arith, l.last, l.next));
      bound = bound_kept (omega (arith, l.last, l.next)) l.keeps;
    }

    agrees_abort : lc m < N → Aborts M line lc view Marked m n → Agrees (struck g) n
    agrees_abort small l = record {
      sound = s;
      last = i.last ∙ sym l.last;
      all_past = i.all_past;
      returned_past = i.returned_past;
      returned_now = rw (i.last, below_struck N (lc m) g.now small) (returned_below (base g) N (suc (lc m)) g.now small i.returned_now);
      views = λ x a h.
          l.back x a (omega (arith, l.last)) ∙ i.views x (lc m) (omega arith)
          ∙ sym (rw (i.last, below_struck (suc a) (lc m) g.now (omega (arith, l.last))));
      bound = every_up_to (Bound n) g.last g.now (every_of _ _ g.now (λ e p q. (p.0, λ j. absurd (omega (arith, i.last, l.last)))) i.bound);
    }

    -- a reset is taken only when no access stands above the last committed VID
    below_settled : lc m < N → Resets M line lc view Marked m n → below N g.now ≡ below (suc (lc m)) g.now
    below_settled small l = below_top N (suc (lc m)) g.now small (every_of _ _ g.now (λ e p. go e p.1 (dec_le e.vid (lc m))) i.bound)
      where
        go : (e : Access) → (lc m < e.vid → Marked m e.at e.vid) → Dec (e.vid ≤ lc m) → e.vid < suc (lc m)
        go e p (yes q) = omega arith
        go e p (no q) = absurd (omega (arith, l.settled e.at e.vid (p (omega arith))))

    agrees_reset : lc m < N → Resets M line lc view Marked m n → Agrees (record { last = 0; past = g.past ++ g.now ∷ []; now = [] }) n
    agrees_reset small l = record {
      sound = s;
      last = sym l.last;
      all_past = (agrees_serial g m i).all;
      returned_past = (agrees_serial g m i).returned;
      returned_now = rw below_nil (unfold Returned in tt);
      views = λ x a h.
          l.back x a ∙ i.views x (lc m) (omega arith)
          ∙ sym (rw (below_nil (suc a), in_order_new N g.past g.now, after_append mem (in_order N g.past) (below N g.now), below_settled small l) (unfold after in refl));
      bound = unfold Every in tt;
    }

    agrees_load : (a x w : ℕ) → Loads M line lc view Marked N m n a x w → Agrees (more g (record { vid = a; stores = false; at = x; word = w })) n
    agrees_load a x w l = record {
      sound = s;
      last = i.last ∙ sym l.last;
      all_past = i.all_past;
      returned_past = i.returned_past;
      returned_now =
          returned_new (base g) N g.now e l.small (λ _. l.seen ∙ i.views x a l.up) (every_any _ g.now (λ d j. load_leaves e d.at refl)) i.returned_now;
      views = λ y b h. l.same y b h ∙ i.views y b (omega (arith, l.last)) ∙ sym (after_new (base g) (suc b) g.now e y (load_leaves e y refl));
      bound = every_new (Bound n) g.now e (bound_kept (omega (arith, l.last)) l.keeps) (l.small, λ j. l.marks (omega (arith, l.last)));
    }
      where
        e : Access
        e = record { vid = a; stores = false; at = x; word = w }

    agrees_store : (a x w : ℕ) → Stores M line lc view Marked N m n a x w → Agrees (more g (record { vid = a; stores = true; at = x; word = w })) n
    agrees_store a x w l = record {
      sound = s;
      last = i.last ∙ sym l.last;
      all_past = i.all_past;
      returned_past = i.returned_past;
      returned_now =
          returned_new (base g) N g.now e l.small (λ q. absurd (true≢false q)) (every_of _ _ g.now (λ d p j. other_leaves e d.at (λ q. p j (sym q))) untouched)
          i.returned_now;
      views = λ y b h. seen y b (omega (arith, l.last)) (ℕ_discrete y x) (dec_lt a (suc b));
      bound = every_new (Bound n) g.now e (bound_kept (omega (arith, l.last)) l.keeps) (l.small, λ j. l.marks (omega (arith, l.last)));
    }
      where
        e : Access
        e = record { vid = a; stores = true; at = x; word = w }

        -- no number above a has used x: its mark would have refused the store
        untouched : Every (λ d. a < d.vid → d.at ≢ x) g.now
        untouched =
            every_of (Bound m) _ g.now
            (λ d p j q. let t : Marked m x d.vid = rw q at (p.1 (omega (arith, l.up))) in omega (arith, l.above d.vid (omega (arith, l.up)) t)) i.bound

        seen : (y b : ℕ) → lc m ≤ b → Dec (y ≡ x) → Dec (a < suc b) → view n y b ≡ after (base g) (below (suc b) (g.now ++ e ∷ [])) y
        seen y b h (yes q) (yes r) =
            rw q
            (l.set b (omega arith)
            ∙ sym (after_new_store (base g) (suc b) g.now e r refl (every_of _ _ g.now (λ d p j. other_leaves d x (p j)) untouched)))
        seen y b h (yes q) (no r) = rw q (l.before b h (omega arith) ∙ i.views x b h ∙ sym (rw (below_new_above (suc b) g.now e (omega arith))))
        seen y b h (no q) r = l.others y b q h ∙ i.views y b h ∙ sym (after_new (base g) (suc b) g.now e y (other_leaves e y (λ k. q (sym k))))

    agrees_value : (op : Op) (w : ℕ) → LawValue M line lc view Marked N m n op w → Agrees (loaded g op w) n
    agrees_value (Load c v x) w l = agrees_load (acts_with g.last v) x w (rw (← i.last) at l)
    agrees_value (Store c v x d) w l = absurd l
    agrees_value (Commit v) w l = absurd l
    agrees_value Abort w l = absurd l
    agrees_value Reset w l = absurd l
    agrees_value (Evict c t) w l = absurd l

    agrees_done : lc m < N → (op : Op) → LawDone M line lc view Marked N m n op → Agrees (finished g op) n
    agrees_done small (Load c v x) l = absurd l
    agrees_done small (Store c v x w) l = agrees_store (acts_with g.last v) x w (rw (← i.last) at l)
    agrees_done small (Commit v) l = agrees_commit v l
    agrees_done small Abort l = agrees_abort small l
    agrees_done small Reset l = agrees_reset small l
    agrees_done small (Evict c t) l = agrees_evict l

    pub agrees_step : lc m < N → (op : Op) (r : Answer) → Law M line lc view Marked N m n op r → Agrees (note g op r) n
    agrees_step small op (Value w) l = agrees_value op w l
    agrees_step small op Done l = agrees_done small op l
    agrees_step small op Misspec l = agrees_abort small l
    agrees_step small op Overflow l = agrees_abort small l
    agrees_step small op (Refused k) l = rw l i

  -- a machine that has committed nothing and in which every number sees mem
  pub agrees_start : (m : M) → Sound m → lc m ≡ 0 → ((x a : ℕ) → view m x a ≡ mem x) → Agrees none m
  agrees_start m s z h = record {
    sound = s;
    last = sym z;
    all_past = unfold Every in tt;
    returned_past = unfold in_order Returned in tt;
    returned_now = rw below_nil (unfold Returned in tt);
    views = λ x a j. h x a ∙ sym (rw below_nil (unfold in_order after in refl));
    bound = unfold Every in tt;
  }

  -- ---- any list of steps

  module _
      (answer : M → Op → Answer) (next : M → Op → M) (small : (m : M) → Sound m → lc m < N) (keeps : (m : M) → Sound m → (op : Op) → Sound (next m op))
      (law : (m : M) → Sound m → (op : Op) → Law M line lc view Marked N m (next m op) op (answer m op)) where
    pub agrees_run : (ops : List Op) (g : Standing) (m : M) → Agrees g m → Agrees (standing g (events answer next m ops)) (final next m ops)
    unfolding final events
    agrees_run [] g m i = i
    agrees_run (op ∷ ops) g m i =
        agrees_run ops (note g op (answer m op)) (next m op)
        (agrees_step g m (next m op) (keeps m i.sound op) i (small m i.sound) op (answer m op) (law m i.sound op))

    -- from a machine that has committed nothing and in which every number sees mem
    pub serializable : (m : M) → Sound m → lc m ≡ 0 → ((x a : ℕ) → view m x a ≡ mem x) → (ops : List Op) → Serial N mem (standing none (events answer next m ops))
    serializable m s z h ops = agrees_serial (standing none (events answer next m ops)) (final next m ops) (agrees_run ops none m (agrees_start m s z h))
