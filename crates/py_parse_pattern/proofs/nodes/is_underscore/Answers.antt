use Rattle.py_parse_pattern.proofs.nodes.is_underscore.Goals as goal
use Rattle.py_parse_pattern.proofs.View.Built.{same_underscore}
use Rattle.std.proofs.Common.{◌∙◌}

pub returns : goal.returns
returns c = c.eq.ensures ∙ same_underscore c.args.name.now c.as_str.result.now c.as_str.ensures.bytes c.as_str.ensures.characters
