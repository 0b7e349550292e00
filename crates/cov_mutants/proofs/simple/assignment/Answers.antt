use Rattle.std.proofs.Common.{refl}
use Rattle.py_syntax.specs.Tree.{assign}
use Rattle.py_syntax.specs.View.{plain_expr, plain_kind}
use Rattle.py_changes.specs.Mutants.{at_mark, expr_mutants, exprs_mutants, kind_mutants}
use Rattle.cov_mutants.proofs.Made.{made-two}
use Rattle.cov_mutants.proofs.simple.assignment.Goals as goal

pub returns : goal.returns
returns c =
    let l = c.args.line in
    made-two (kind_mutants l) (λ x. at_mark l (exprs_mutants x)) (λ x. at_mark l (expr_mutants x)) (λ b. plain_kind b.value) (λ b. plain_expr b.value) assign _ _ _ _ _ _ c.expr.result c.assign_of.result refl c.in_ok-targets.ensures c.expr.ensures c.assign_of.ensures
