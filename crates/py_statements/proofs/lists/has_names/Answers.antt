use Rattle.std.proofs.Common.{ap, ◌∙◌, not}
use Rattle.py_statements.proofs.View.StmtKinds.{any_names}
use Rattle.py_statements.proofs.lists.has_names.Goals as goal

pub returns : goal.returns
returns c = ap not c.is_empty.ensures ∙ any_names c.args.names.now
