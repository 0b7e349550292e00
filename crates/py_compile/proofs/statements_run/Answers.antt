use Rattle.py_compile.proofs.StatementLaw.{statements_run}
use Rattle.py_compile.proofs.statements_run.Goals as goal

pub returns : goal.returns
returns c = statements_run
