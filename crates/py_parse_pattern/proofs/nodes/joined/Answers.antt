use Rattle.std.proofs.Common.{rules}
use Rattle.py_parse_pattern.proofs.nodes.joined.Goals as goal
use Rattle.py_parse_pattern.proofs.View.Built.{makes_joined}

pub returns : goal.returns
returns c = makes_joined c.args.alternatives c.push.new.self c.args.last (search rules) c.requires.heights c.requires.height c.in_ok-push.ensures.patterns c.in_ok-push.ensures.height
