-- The pieces of the line, one behind the other.
-- Assumes nothing.
use Rattle.report.specs.Report.{line_text}
use Rattle.report.proofs.make_line.Goals as goal

pub returns : goal.returns
unfolding line_text
returns c = rw (
  c.push_str-5.ensures.bytes,
  c.push_end.ensures.text,
  c.push_number-3.ensures.text,
  c.push_str-4.ensures.bytes,
  c.push_number-2.ensures.text,
  c.push_str-3.ensures.bytes,
  c.push_answer.ensures.text,
  c.push_str-2.ensures.bytes,
  c.push_number.ensures.text,
  c.push_str.ensures.bytes,
  c.requires,
  c.data.ensures,
)
