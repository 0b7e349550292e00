use Rattle.std.proofs.Common.{ap, ◌∙◌, not}
use Rattle.py_statements.proofs.View.StmtKinds.{any_arms}
use Rattle.py_statements.proofs.lists.has_arms.Goals as goal

pub returns : goal.returns
returns c = ap not c.is_empty.ensures ∙ any_arms c.args.arms.now
