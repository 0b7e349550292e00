use Rattle.py_parse_pattern.proofs.View.Turning.{bar_rows}
use Rattle.py_parse_pattern.proofs.reader.after_bar.Goals as goal

pub next-requires-clause-rows : goal.next-requires-clause-rows
next-requires-clause-rows c = bar_rows c.args.rows c.push.new.self c.args.measured c.requires.rows c.requires.measured c.in_ok-push.ensures.patterns c.in_ok-push.ensures.height
