use Rattle.std.proofs.Common.{◌+◌, arith}
use Rattle.py_syntax.specs.Spelling.{HEIGHT}
use Rattle.py_parse_pattern.specs.Rows.{SLACK}
use Rattle.py_parse_pattern.proofs.View.Turning.{joined_valid}
use Rattle.py_parse_pattern.proofs.reader.give.Goals as goal

pub next-requires-clause-at : goal.next-requires-clause-at
next-requires-clause-at c = joined_valid SLACK c.parted-rows.result.1 c.args.rows.row.alternatives c.args.measured c.in_ok-measured-in-As.measured (omega arith) c.parted-rows.ensures.alternatives c.requires.rows.row.alternatives c.requires.rows.row.low_alternatives c.requires.measured c.in_ok-measured-in-As.ensures

pub offer-requires : goal.offer-requires
offer-requires c = record {
  rows = c.parted-rows-in_default.ensures.rows;
  measured = joined_valid (HEIGHT + 2) c.parted-rows-in_default.result.1 c.args.rows.row.alternatives c.args.measured c.in-Ok.measured (omega arith) c.parted-rows-in_default.ensures.alternatives c.requires.rows.row.alternatives c.requires.rows.row.low_alternatives c.requires.measured c.in-Ok.ensures;
}

pub returns-in-Bar : goal.returns-in-Bar
returns-in-Bar c = rw c.in-Bar.is c.after_bar.ensures
