use Rattle.py_statements.proofs.View.StmtKinds.{plain-Try}
use Rattle.py_statements.proofs.View.Tails.{boxes}
use Rattle.py_statements.proofs.suite_of.PartialTry.tried.Goals as goal

pub returns : goal.returns
returns c = boxes c.boxed.result _ _ (plain-Try c.args.self.body c.args.self.clauses c.args.orelse c.args.finally) c.boxed.ensures
