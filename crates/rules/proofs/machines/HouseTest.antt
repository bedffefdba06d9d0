-- The test of the house rules (specs/HouseTest.antt) decides that a machine is sound, as the proofs have it: each part of the test decides its rule, and
-- what each live line owes comes to what each address owes.
-- Assumes nothing.
use mathlib.Core.Path.{◌≡◌, refl, subst}
use mathlib.Core.Logic.{◌≢◌, ◌⊎◌, inl, inr}
use mathlib.Core.Bool.{Bool, true, false≢true}
use Prim.Native.Nat.{ℕ, ◌≤◌, ◌<◌}
use native.Mathlib.Omega.{arith}
use native.Mathlib.Decide.{dec_lt}
use Rattle.rules.specs.declared.State.{State}
use Rattle.rules.specs.declared.State.TheVariants.{I, M, O, E, S, SM, SO, SE, SS}
use Rattle.rules.specs.declared.Line.{Line}
use Rattle.rules.specs.declared.Machine.{Machine}
use Rattle.rules.specs.declared.Pos.{Pos}
use Rattle.rules.specs.States.{is_i}
use Rattle.rules.specs.Line.{empty}
use Rattle.rules.specs.Machine.{at, memory_at, vids}
use Rattle.rules.specs.House.{Sized, LineRules}
use Rattle.rules.specs.HouseTest.{line_fits, slot_fits, disjoint, pair_fits, some, owns_it, needs_met, pairs_fit, is_sound}
use Rattle.rules.proofs.base.Tests.{Decides, is_test, le_test, lt_test, eq_test, and_test, or_test, imp_test, not_test, as_test, pos_test, data_test}
use Rattle.rules.proofs.base.Lines.{Live, live_test, Here, not_here}
use Rattle.rules.proofs.address.Sound.{Disjoint, Stand, OwnedBy, There, IsO, Top, Low, From, Meets, SoundAt}
use Rattle.rules.proofs.machines.Places.{all_lines_lem, any_line_lem}
use Rattle.rules.proofs.machines.Sound.{SoundMachine}

-- ---- one line

is_i_i : (s : State) → is_i s ≡ true → s ≡ I
is_i_i I h = refl
is_i_i M h = absurd (false≢true h)
is_i_i O h = absurd (false≢true h)
is_i_i E h = absurd (false≢true h)
is_i_i S h = absurd (false≢true h)
is_i_i SM h = absurd (false≢true h)
is_i_i SO h = absurd (false≢true h)
is_i_i SE h = absurd (false≢true h)
is_i_i SS h = absurd (false≢true h)

pub line_test : (N : ℕ) (l : Line) → Decides (line_fits N l) (LineRules N l)
unfolding line_fits
line_test N l =
    as_test
    (and_test (imp_test (is_test _) (and_test (eq_test _ _) (and_test (eq_test _ _) (and_test (eq_test _ _) (data_test _ _)))))
    (and_test (imp_test (is_test _) (and_test (eq_test _ _) (eq_test _ _)))
    (and_test (imp_test (is_test _) (eq_test _ _))
    (and_test (imp_test (is_test _) (and_test (le_test _ _) (and_test (lt_test _ _) (le_test _ _))))
    (and_test (imp_test (is_test _) (and_test (lt_test _ _) (lt_test _ _)))
    (imp_test (is_test _) (and_test (lt_test _ _) (le_test _ _))))))))
    (λ h. record {
      blank = λ c. let (x, (m, (d, w))) = h.0 c in λ i. record { state = is_i_i l.state c i; address = x i; m = m i; h = d i; word = w i };
      flat = h.1.0;
      zero = h.1.1.0;
      newest = λ c. let (a, (b, d)) = h.1.1.1.0 c in (a, b, d);
      closed = h.1.1.1.1.0;
      shared = h.1.1.1.1.1;
    })
    (λ h. (
      λ c. let e = h.blank c in (λ i. (e i).address, (λ i. (e i).m, (λ i. (e i).h, λ i. (e i).word))),
      (h.flat, (h.zero, (λ c. let (a, b, d) = h.newest c in (a, (b, d)), (h.closed, h.shared)))),
    ))

-- "unused caches are empty", "addresses are below 64", and the rules of a line
abbrev SlotRules : Machine → Pos → Line → Type 0
SlotRules μ p l = (μ.count ≤ p.cache → l ≡ empty) × (l.address < 64) × LineRules (vids μ) l

slot_test : (μ : Machine) (p : Pos) (l : Line) → Decides (slot_fits μ p l) (SlotRules μ p l)
unfolding slot_fits
slot_test μ p l =
    as_test (and_test (or_test (lt_test _ _) (is_test _)) (and_test (lt_test _ _) (line_test _ _)))
    (λ h. (unused h.1.1 h.0, h.1.0, h.1.1)) (λ h. (used h.0 (dec_lt p.cache μ.count), (h.1, h.2)))
  where
    unused : LineRules (vids μ) l → (p.cache < μ.count) ⊎ (is_i l.state ≡ true) → μ.count ≤ p.cache → l ≡ empty
    unused r (inl a) b = absurd (omega arith)
    unused r (inr i) b = r.blank i

    used : (μ.count ≤ p.cache → l ≡ empty) → Dec (p.cache < μ.count) → (p.cache < μ.count) ⊎ (is_i l.state ≡ true)
    used f (yes a) = inl a
    used f (no a) = inr (rw (f (omega arith)))

slot_empty : (μ : Machine) (p : Pos) → SlotRules μ p empty
slot_empty μ p = (λ i. refl, omega arith, (line_test (vids μ) empty).says (unfold line_fits in rw ((data_test _ _).when refl)))

-- ---- two lines

disjoint_test : (k l : Line) → Decides (disjoint k l) (Disjoint k l)
unfolding disjoint
disjoint_test k l = or_test (and_test (is_test _) (le_test _ _)) (and_test (is_test _) (le_test _ _))

pub pair_test : (p q : Pos) (k l : Line) → Decides (pair_fits p q k l) (Stand p q k l)
unfolding pair_fits
pair_test p q k l =
    as_test
    (and_test (is_test _)
    (and_test (imp_test (is_test _) (and_test (not_test (eq_test _ _)) (data_test _ _)))
    (and_test (imp_test (and_test (is_test _) (is_test _)) (disjoint_test _ _))
    (imp_test (and_test (is_test _) (and_test (is_test _) (eq_test _ _))) (not_test (eq_test _ _))))))
    (λ h. record { table = h.0; plains = h.1.0; ranges = λ a b. h.1.1.0 (a, b); shares = λ a b c. h.1.1.1 (a, (b, c)) })
    (λ h. (h.table, (h.plains, (λ c. h.ranges c.0 c.1, λ c. h.shares c.0 c.1.0 c.1.1))))

-- ---- what a line needs

pub some_test : (μ : Machine) (x : ℕ) (t : Pos → Line → Bool) (P : Pos → Line → Type 0) → ((q : Pos) (l : Line) → Decides (t q l) (P q l))
    → Decides (some μ x t) (There (at μ) μ.lcvid x P)
unfolding some
some_test μ x t P d =
    as_test
    (any_line_lem _ (λ q l. Here μ.lcvid x l × P q l) μ
    (λ q l. as_test (and_test (live_test _ _) (and_test (eq_test _ _) (d q l))) (λ h. (record { alive = h.0; at = h.1.0 }, h.1.1)) (λ h. (h.0.alive, (h.0.at, h.1))))
    (λ q h. not_here μ.lcvid x h.0))
    (λ h. (h.0, h.1.0, h.1.1)) (λ h. (h.0, (h.1, h.2)))

pub owned_test : (lc : ℕ) (p : Pos) (k : Line) (q : Pos) (l : Line) → Decides (owns_it lc p k q l) (OwnedBy lc p k q l)
unfolding owns_it
owned_test lc p k q l =
    as_test
    (and_test (is_test _) (and_test (eq_test _ _) (and_test (not_test (eq_test _ _)) (and_test (data_test _ _)
    (and_test (le_test _ _) (imp_test (is_test _) (le_test _ _)))))))
    (λ h. record { owning = h.0; same_m = h.1.0; away = h.1.1.0; same_word = h.1.1.1.0; reach = h.1.1.1.1.0; within = h.1.1.1.1.1 })
    (λ h. (h.owning, (h.same_m, (h.away, (h.same_word, (h.reach, h.within))))))

-- line k at p has what it needs
abbrev Needs : Machine → Pos → Line → Type 0
Needs μ p k = Meets (at μ) μ.lcvid k.address (memory_at μ k.address) p k

pub needs_test : (μ : Machine) (p : Pos) (k : Line) → Decides (needs_met μ p k) (Needs μ p k)
unfolding needs_met
needs_test μ p k =
    as_test
    (and_test (imp_test (is_test _) (data_test _ _))
    (and_test (imp_test (is_test _) (or_test (data_test _ _) (some_test _ _ _ IsO (λ q l. is_test _))))
    (and_test (imp_test (is_test _) (some_test _ _ _ Top (λ q l. is_test _)))
    (and_test (imp_test (is_test _) (some_test _ _ _ (Low μ.lcvid) (λ q l. and_test (is_test _) (le_test _ _))))
    (and_test (imp_test (is_test _) (some_test _ _ _ (From k.h) (λ q l. and_test (is_test _) (eq_test _ _))))
    (imp_test (is_test _) (some_test _ _ _ (OwnedBy μ.lcvid p k) (owned_test μ.lcvid p k))))))))
    (λ h. record { clean = h.0; shared = h.1.0; newest = h.1.1.0; lowest = h.1.1.1.0; next = h.1.1.1.1.0; owner = h.1.1.1.1.1 })
    (λ h. (h.clean, (h.shared, (h.newest, (h.lowest, (h.next, h.owner))))))

-- ---- what a live line owes, and what each address owes

-- line k at p stands with every other live line of its address
abbrev StandsWith : Machine → Pos → Line → Type 0
StandsWith μ p k = (q : Pos) → p ≢ q → Here μ.lcvid k.address (at μ q) → Stand p q k (at μ q)

pairs_test : (μ : Machine) (p : Pos) (k : Line) → Decides (pairs_fit μ p k) (StandsWith μ p k)
unfolding pairs_fit
pairs_test μ p k =
    all_lines_lem _ (λ q l. p ≢ q → Here μ.lcvid k.address l → Stand p q k l) μ
    (λ q l. as_test (imp_test (and_test (live_test _ _) (and_test (eq_test _ _) (not_test (pos_test _ _)))) (pair_test _ _ _ _))
    (λ h n a. h (a.alive, (a.at, n))) (λ h a. h a.1.1 (record { alive = a.0; at = a.1.0 })))
    (λ q n a. not_here μ.lcvid k.address a)

-- if it lives, it does, and has what it needs
abbrev Owes : Machine → Pos → Line → Type 0
Owes μ p k = Live μ.lcvid k → StandsWith μ p k × Needs μ p k

-- where every line pays, every address is sound, and back
owes_each : (μ : Machine) → ((p : Pos) → Owes μ p (at μ p)) → (x : ℕ) → SoundAt (at μ) μ.lcvid x (memory_at μ x)
owes_each μ o x = record {
  stand = λ p q n hp hq. (o p hp.alive).0 q n (rw hp.at hq);
  meets = λ p hp. subst (λ (y : ℕ). Meets (at μ) μ.lcvid y (memory_at μ y) p (at μ p)) hp.at (o p hp.alive).1;
}

each_owes : (μ : Machine) → ((x : ℕ) → SoundAt (at μ) μ.lcvid x (memory_at μ x)) → (p : Pos) → Owes μ p (at μ p)
each_owes μ s p a =
    let h : Here μ.lcvid (at μ p).address (at μ p) = record { alive = a; at = refl } in
    (λ q n hq. (s (at μ p).address).stand p q n h hq, (s (at μ p).address).meets p h)

-- ---- the machine

pub house_test : (μ : Machine) → Sized μ → Decides (is_sound μ) (SoundMachine (vids μ) μ)
unfolding is_sound
house_test μ z =
    as_test
    (and_test (and_test (le_test _ _) (and_test (le_test _ _) (lt_test _ _)))
    (and_test (all_lines_lem _ (SlotRules μ) μ (slot_test μ) (slot_empty μ))
    (all_lines_lem _ (Owes μ) μ (λ p k. imp_test (live_test _ _) (and_test (pairs_test μ p k) (needs_test μ p k))) (λ p a. not_here μ.lcvid 0 (record { alive = a; at = refl })))))
    (λ h. record {
      lines = record { small = h.0.1.1; fits = λ p. (h.1.0 p).2; each = owes_each μ h.1.1 };
      frame = record { caches = z.caches; words = z.words; some = h.0.0; few = h.0.1.0; unused = λ p. (h.1.0 p).0; addresses = λ p. (h.1.0 p).1 };
    })
    (λ h. (
      (h.frame.some, (h.frame.few, h.lines.small)),
      (λ p. (h.frame.unused p, h.frame.addresses p, h.lines.fits p), each_owes μ h.lines.each),
    ))
