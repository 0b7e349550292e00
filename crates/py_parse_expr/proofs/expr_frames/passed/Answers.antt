use Rattle.std.proofs.Common.{sym, ap}
use Rattle.py_syntax.specs.Tree.{Expr}
use Rattle.py_grammar.specs.Machine.{give}
use Rattle.py_parse_expr.proofs.expr_frames.passed.Goals as goal

pub returns-in-Ok : goal.returns-in-Ok
returns-in-Ok c = λ e k t h. let m = rw c.in-Ok.is at h in (ap (λ (x : Expr). give x k t) (sym m.is), m.valid)
