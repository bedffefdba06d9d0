-- The rules go by what a search finds; here they go by the line that was found, which is what a look tells.
-- Assumes nothing.
use mathlib.Core.Path.{◌≡◌, refl, sym, ap, ◌∙◌}
use mathlib.Core.Bool.{Bool, cond}
use Prim.Native.Nat.{ℕ}
use Rattle.std.specs.Prelude.{Option, Some, None}
use Rattle.rules.specs.declared.State.TheVariants.{E, S}
use Rattle.rules.specs.declared.Held.{Held}
use Rattle.rules.specs.declared.Machine.{Machine}
use Rattle.rules.specs.declared.Pos.{Pos}
use Rattle.rules.specs.declared.Answer.TheVariants.{Value}
use Rattle.rules.specs.declared.Answered.{Answered}
use Rattle.rules.specs.Data.{Data, read}
use Rattle.rules.specs.Line.{line}
use Rattle.rules.specs.Machine.{at, memory_at, change, find, gives, place}
use Rattle.rules.specs.Load.{share_line, without_stale, is_own_share, is_dirty, load_away, data_at, plain_data, demote_line, load_cached, load_plain, load_owned, load_new, load_by, load_of}
use Rattle.access.specs.declared.ask.Asked.{Asked}
use Rattle.access.specs.declared.look.Seen.{Seen}
use Rattle.access.specs.Look.{owning, own_plain, any_plain, held_at, seen_of}
use Rattle.access.specs.Plan.{Sees, Holds, held_word}

-- the line is the one that stands there
pub found_stands : (μ : Machine) (f : Option Pos) {h : Held} → held_at μ f ≡ Some h → h.line ≡ at μ h.place
found_stands μ (Some p) {h} e = let z : h ≡ record { place = p; line = at μ p } = cc in rw z
found_stands μ None e = absurd (cc)

pub data_held : (μ : Machine) (f : Option Pos) (d : Data) → data_at μ f d ≡ held_word (held_at μ f) d
data_held μ (Some p) d = refl
data_held μ None d = refl

-- the word of the address's plain lines, else memory's
pub plain_data_held : (μ : Machine) (x : ℕ) {h : Option Held} {d : Data} → Holds μ (any_plain x) h → d ≡ memory_at μ x → plain_data μ x ≡ held_word h d
unfolding plain_data
plain_data_held μ x e m = rw (e, m) (data_held μ (find (any_plain x) μ) (memory_at μ x))

-- ---- loads

-- plain, where no speculative line lives
module _ (μ : Machine) (c x : ℕ) where
  abbrev pub cached_by : Option Held → Answered
  cached_by (Some h) = place μ (Value h.line.word) c (line S x 0 0 h.line.word) (change (λ p l. demote_line x l) μ)
  cached_by None = place μ (Value (memory_at μ x)) c (line E x 0 0 (memory_at μ x)) μ

  abbrev pub plain_by : Option Held → Option Held → Answered
  plain_by (Some h) plain = gives (Value h.line.word) μ
  plain_by None plain = cached_by plain

  cached_held : (f : Option Pos) → load_cached μ c x 0 f ≡ cached_by (held_at μ f)
  unfolding read
  cached_held (Some q) = refl
  cached_held None = refl

  pub plain_held : (f : Option Pos) {own plain : Option Held} → own ≡ held_at μ f → Holds μ (any_plain x) plain → load_plain μ c x 0 f ≡ plain_by own plain
  unfolding read
  plain_held (Some q) e g = rw e
  plain_held None e g = rw (e, g) (cached_held (find (any_plain x) μ))

-- where one lives and another cache holds the owner, and any load
module _ (μ : Machine) (vid : Bool) (c a x : ℕ) where
  abbrev pub away_by : Pos → Option Held → Answered
  away_by o (Some h) = gives (Value h.line.word) μ
  away_by o None = place μ (Value (at μ o).word) c (share_line x a (at μ o)) (without_stale μ vid c a x o)

  pub away_held : (o : Pos) (f : Option Pos) {share : Option Held} → share ≡ held_at μ f → load_away μ vid c a x 0 o f ≡ away_by o share
  unfolding read
  away_held o (Some q) e = rw e
  away_held o None e = rw e

  abbrev pub owned_by : Option Held → Answered
  owned_by (Some h) = load_owned μ vid c a x 0 h.place
  owned_by None = cond vid (load_new μ c a x 0) (load_plain μ c x 0 (find (own_plain c x) μ))

  owned_held : (f : Option Pos) → load_by μ vid c a x 0 f ≡ owned_by (held_at μ f)
  owned_held (Some o) = refl
  owned_held None = refl

  pub load_held : {h : Option Held} → Holds μ (owning x a) h → load_of μ vid c a x 0 ≡ owned_by h
  unfolding load_of
  load_held e = rw e (owned_held (find (owning x a) μ))

-- ---- what a load sees, by its parts, and the load by that

module _ {k : Asked} {μ : Machine} (f : Sees k μ) where
  pub owner_seen : Holds μ (owning k.access.x k.access.a) k.seen.owner
  unfolding seen_of
  owner_seen = ap (λ (s : Seen). s.owner) f.seen

  pub share_seen : Holds μ (is_own_share k.access.cache k.access.x k.access.a) k.seen.share
  unfolding seen_of
  share_seen = ap (λ (s : Seen). s.share) f.seen

  pub own_seen : Holds μ (own_plain k.access.cache k.access.x) k.seen.own
  unfolding seen_of
  own_seen = ap (λ (s : Seen). s.own) f.seen

  pub plain_seen : Holds μ (any_plain k.access.x) k.seen.plain
  unfolding seen_of
  plain_seen = ap (λ (s : Seen). s.plain) f.seen

  pub dirty_seen : k.seen.dirty ≡ is_dirty μ k.access.x
  unfolding seen_of
  dirty_seen = ap (λ (s : Seen). s.dirty) f.seen

  pub owner_stands : {h : Held} → k.seen.owner ≡ Some h → h.line ≡ at μ h.place
  owner_stands e = found_stands μ (find (owning k.access.x k.access.a) μ) (sym owner_seen ∙ e)

  pub plain_word : held_word k.seen.plain k.memory ≡ plain_data μ k.access.x
  plain_word = sym (plain_data_held μ k.access.x plain_seen f.memory)

  pub load_seen : load_of μ k.access.vid k.access.cache k.access.a k.access.x 0 ≡ owned_by μ k.access.vid k.access.cache k.access.a k.access.x k.seen.owner
  load_seen = load_held μ k.access.vid k.access.cache k.access.a k.access.x owner_seen

-- all of these, for the plan of a load
pub ruleset sights = (load_seen, share_seen, own_seen, plain_seen, dirty_seen, owner_stands, plain_word)
