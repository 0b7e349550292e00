use Rattle.py_parse_pattern.proofs.nodes.sequence.Goals as goal
use Rattle.py_parse_pattern.proofs.View.Built.{makes_sequence}

pub returns : goal.returns
returns c = makes_sequence c.args.brackets c.args.items c.push.new.self c.args.last c.requires.heights c.requires.height c.in_ok-push.ensures.patterns c.in_ok-push.ensures.height
