use Rattle.std.proofs.Common.{rules}
use Rattle.py_parse_pattern.proofs.View.Turning.{item_rows}
use Rattle.py_parse_pattern.proofs.reader.after_item.Goals as goal

pub next-requires-clause-rows : goal.next-requires-clause-rows
next-requires-clause-rows c = item_rows c.args.rows c.push.new.self c.new.result c.args.measured c.depth_after-depth.result c.requires.rows c.requires.measured c.in_ok-push.ensures.patterns c.in_ok-push.ensures.height c.new.ensures.none c.new.ensures.height (search rules)
