-- The line is made, and put into the part from the place on, where it fits there.
-- Assumes nothing.
use Rattle.std.proofs.lemmas.Result.{err_from_is_err_and}
use Rattle.report.proofs.Written.{refused, placed}
use Rattle.report.proofs.write_line.Goals as goal

pub returns-in_err-length : goal.returns-in_err-length
returns-in_err-length c =
    let p = err_from_is_err_and c.from_residual.result c.from_residual.ensures.1 in
    rw (p.1, p.2, ← c.make_line.ensures, ← c.as_str.ensures.value, ← c.as_bytes.ensures.value)
    (refused _ _ _ _ _ c.if-out-place.false c.in_err-length.ensures)

pub returns : goal.returns
returns c =
    rw (← c.make_line.ensures, ← c.as_str.ensures.value, ← c.as_bytes.ensures.value)
    (placed _ _ _ _ _ c.if-out-place.false c.in_ok-length.ensures)
