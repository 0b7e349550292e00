use Rattle.std.proofs.Common.{◌∙◌}
use Rattle.py_statements.proofs.View.HeaderNames.{same_match}
use Rattle.py_statements.proofs.match_headers.is_match_name.Goals as goal

pub returns : goal.returns
returns c = c.eq.ensures ∙ same_match c.args.name.now c.as_str.result.now c.as_str.ensures.bytes c.as_str.ensures.characters
