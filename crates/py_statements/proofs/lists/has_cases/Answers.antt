use Rattle.std.proofs.Common.{ap, ◌∙◌, not}
use Rattle.py_statements.proofs.View.StmtKinds.{any_cases}
use Rattle.py_statements.proofs.lists.has_cases.Goals as goal

pub returns : goal.returns
returns c = ap not c.is_empty.ensures ∙ any_cases c.args.cases.now
