use Rattle.std.proofs.Common.{refl}
use Rattle.std.specs.Option.{option_map}
use Rattle.py_syntax.specs.Tree.{assert}
use Rattle.py_syntax.specs.View.{plain_expr, plain_kind}
use Rattle.py_changes.specs.Mutants.{at_mark, expr_mutants, maybe_mutants, kind_mutants}
use Rattle.cov_mutants.proofs.Made.{made-two}
use Rattle.cov_mutants.proofs.simple.assertion.Goals as goal

pub returns : goal.returns
returns c =
    let l = c.args.line in
    made-two (kind_mutants l) (λ x. at_mark l (expr_mutants x)) (λ x. at_mark l (maybe_mutants x)) (λ b. plain_kind b.value) (option_map plain_expr) assert _ _ _ _ _ _ c.maybe.result c.assert_of.result refl c.in_ok-test.ensures c.maybe.ensures c.assert_of.ensures
