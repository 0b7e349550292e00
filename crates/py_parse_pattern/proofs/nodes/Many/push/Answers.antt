use Rattle.py_parse_pattern.proofs.nodes.Many.push.Goals as goal
use Rattle.py_parse_pattern.proofs.View.Built.{plain_snoc}
use Rattle.py_syntax.specs.View.{plain_patterns}
use Rattle.std.proofs.Common.{ap, ◌∙◌}

pub returns-clause-patterns : goal.returns-clause-patterns
returns-clause-patterns c = ap plain_patterns c.in_ok-push.ensures.items ∙ plain_snoc c.args.self.now.patterns.items c.args.measured.pattern
