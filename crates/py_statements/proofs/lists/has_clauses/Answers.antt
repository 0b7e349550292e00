use Rattle.std.proofs.Common.{ap, ◌∙◌, not}
use Rattle.py_statements.proofs.View.StmtKinds.{any_clauses}
use Rattle.py_statements.proofs.lists.has_clauses.Goals as goal

pub returns : goal.returns
returns c = ap not c.is_empty.ensures ∙ any_clauses c.args.clauses.now
