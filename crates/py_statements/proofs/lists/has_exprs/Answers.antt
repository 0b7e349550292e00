use Rattle.std.proofs.Common.{ap, ◌∙◌, not}
use Rattle.py_statements.proofs.View.StmtKinds.{any_exprs}
use Rattle.py_statements.proofs.lists.has_exprs.Goals as goal

pub returns : goal.returns
returns c = ap not c.is_empty.ensures ∙ any_exprs c.args.exprs.now
