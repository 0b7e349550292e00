use Rattle.std.proofs.Common.{ap, ◌∙◌, not}
use Rattle.py_parse_pattern.proofs.View.Built.{plain_some}
use Rattle.py_parse_pattern.proofs.nodes.are_some.Goals as goal

pub returns : goal.returns
returns c = ap not c.is_empty.ensures ∙ plain_some c.args.patterns.now
