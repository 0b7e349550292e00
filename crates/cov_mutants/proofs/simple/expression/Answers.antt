use Rattle.std.proofs.Common.{refl}
use Rattle.py_syntax.specs.Tree.{expr}
use Rattle.py_syntax.specs.View.{plain_expr, plain_kind}
use Rattle.py_changes.specs.Mutants.{at_mark, expr_mutants, kind_mutants}
use Rattle.cov_mutants.proofs.Made.{made-one}
use Rattle.cov_mutants.proofs.simple.expression.Goals as goal

pub returns : goal.returns
returns c =
    let l = c.args.line in
    made-one (kind_mutants l) (λ x. at_mark l (expr_mutants x)) (λ b. plain_kind b.value) (λ b. plain_expr b.value) expr _ _ _ c.expr.result c.expr_of.result refl c.expr.ensures c.expr_of.ensures
