use Rattle.std.proofs.Common.{refl}
use Rattle.py_syntax.specs.Tree.{aug_assign}
use Rattle.py_syntax.specs.View.{plain_expr, plain_kind}
use Rattle.py_changes.specs.Mutants.{at_mark, augmented_change, expr_mutants, kind_mutants}
use Rattle.cov_mutants.proofs.Made.{made-three}
use Rattle.cov_mutants.proofs.simple.augmented.Goals as goal

pub returns : goal.returns
returns c =
    let l = c.args.line in
    made-three (kind_mutants l) (λ x. at_mark l (expr_mutants x)) (λ o. at_mark l (augmented_change o)) (λ x. at_mark l (expr_mutants x)) (λ b. plain_kind b.value) (λ b. plain_expr b.value) aug_assign _ _ _ _ _ _ _ _ _ c.expr-2.result c.aug_assign_of.result refl c.in_ok-place.ensures c.augmented-op.ensures c.expr-2.ensures c.aug_assign_of.ensures
