-- What stands at a reader's place in its text, by what the reader gives.
-- Assumes nothing.
use Rattle.std.proofs.Common.{◌≡◌, refl, List, ℕ, Option, Some, None, Result, Ok, Err, length}
use Rattle.rules.specs.declared.Op.{Op}
use Rattle.trace.specs.declared.Broken.{Broken}
use Rattle.trace.specs.declared.Step.{Step}
use Rattle.trace.specs.declared.reader.Reader.{Reader}
use Rattle.trace.specs.Trace.{read_at}
use Rattle.trace.specs.Reader.{given, place_after, Gives}
use Rattle.trace.proofs.lines.Decimal.{differ}

module _ {r u : Reader} {s : List ℕ} (same : r.text.now ≡ s) where
  -- a step, and the reader is then behind its line
  pub gave_step : {x : Result Op Broken} {op : Op} → Gives r (Some x) u → x ≡ Ok op → read_at s r.at ≡ Ok (Some (record { op = op; next = u.at }))
  gave_step {x} {op} g is = rw (← same) (go (read_at r.text.now r.at) g.gives g.place)
    where
      go : (t : Result (Option Step) Broken) → Some x ≡ given t → u.at ≡ place_after r.at (length r.text.now) t → t ≡ Ok (Some (record { op = op; next = u.at }))
      go (Ok None) e p = differ cc
      go (Ok (Some t)) e p = let o : op ≡ t.op = cc in rw (o, p)
      go (Err b) e p = differ cc

  -- a line that is unreadable
  pub gave_broken : {x : Result Op Broken} {b : Broken} → Gives r (Some x) u → x ≡ Err b → read_at s r.at ≡ Err b
  gave_broken {x} {b} g is = rw (← same) (go (read_at r.text.now r.at) g.gives)
    where
      go : (t : Result (Option Step) Broken) → Some x ≡ given t → t ≡ Err b
      go (Ok None) e = differ cc
      go (Ok (Some t)) e = differ cc
      go (Err c) e = cc

  -- nothing more
  pub gave_none : Gives r None u → read_at s r.at ≡ Ok None
  gave_none g = rw (← same) (go (read_at r.text.now r.at) g.gives)
    where
      go : (t : Result (Option Step) Broken) → None ≡ given t → t ≡ Ok None
      go (Ok None) e = refl
      go (Ok (Some t)) e = differ cc
      go (Err c) e = differ cc
