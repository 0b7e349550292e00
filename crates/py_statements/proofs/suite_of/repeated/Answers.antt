use Rattle.std.proofs.Common.{◌∙◌, ap, None}
use Rattle.py_syntax.specs.declared.expr.Expr.{Expr as Node}
use Rattle.py_syntax.specs.Tree.{while, no_suite}
use Rattle.py_syntax.specs.View.{plain_expr, plain_suite}
use Rattle.py_statements.proofs.View.StmtKinds.{plain-While}
use Rattle.py_statements.proofs.View.Tails.{boxes}
use Rattle.py_statements.proofs.suite_of.repeated.Goals as goal

pub returns : goal.returns
returns c =
    let s = plain_suite c.args.body in
    let is = plain-While c.into_inner.result c.args.body None ∙ ap (λ (e : Node). while (plain_expr e) s no_suite) c.into_inner.ensures in
    boxes c.boxed.result _ _ is c.boxed.ensures
