use Rattle.std.proofs.Common.{◌∙◌, ap, None}
use Rattle.py_syntax.specs.declared.expr.Expr.{Expr as Node}
use Rattle.py_syntax.specs.Tree.{Arms, if', no_suite}
use Rattle.py_syntax.specs.View.{plain_expr, plain_arms, plain_suite}
use Rattle.py_statements.specs.Open.{snoc_arm}
use Rattle.py_statements.proofs.View.StmtKinds.{plain-If}
use Rattle.py_statements.proofs.View.Tails.{boxes}
use Rattle.py_statements.proofs.suite_of.tested.Goals as goal

pub returns : goal.returns
returns c =
    let s = plain_suite c.args.body in
    let is = plain-If c.in_ok-arms.arms None
    ∙ ap (λ (as' : Arms). if' as' no_suite) c.in_ok-arms.ensures
    ∙ ap (λ (e : Node). if' (snoc_arm (plain_arms c.args.arms.items) (plain_expr e) s) no_suite) c.into_inner.ensures in
    boxes c.boxed.result _ _ is c.boxed.ensures
