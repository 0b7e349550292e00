use Rattle.std.proofs.Common.{refl, ap, ◌∙◌, ◌+◌}
use Rattle.std.proofs.lemmas.Result.{IfOk-from_err}
use Rattle.py_syntax.specs.View.{plain_expr, plain_exprs}
use Rattle.py_compile_expr.specs.Targets.{target_size, targets_size}
use Rattle.py_compile_expr.proofs.Turns.{none_counted, counted_turn}
use Rattle.py_compile_expr.proofs.targets.+target_sizes.Goals as goal

pub targets_size-loop-e-preserved : goal.targets_size-loop-e-preserved
targets_size-loop-e-preserved t c =
    counted_turn (λ xs. targets_size (plain_exprs xs)) (λ x. target_size (plain_expr x)) (λ x xs. refl) c.args.items.now c.loop-e.e-index c.e-item.result c.loop-e.size c.in_ok-size.size _ c.loop-e-test.true c.e-item.is
    (c.in_ok-size.ensures ∙ ap (λ n. c.loop-e.size + n) c.in_ok-target_size.ensures) c.loop-e.invariant

pub targets_size-returns : goal.targets_size-returns
targets_size-returns t c = none_counted (λ xs. targets_size (plain_exprs xs)) refl _ _ _ _ c.loop-e-test.false c.loop-e.invariant

pub target_size-returns-in_err-expr_size-in-Index : goal.target_size-returns-in_err-expr_size-in-Index
target_size-returns-in_err-expr_size-in-Index t c = IfOk-from_err c.from_residual-in_err-expr_size-in-Index.result _ c.from_residual-in_err-expr_size-in-Index.ensures.0

pub target_size-returns-in_err-expr_size-in-Index-2 : goal.target_size-returns-in_err-expr_size-in-Index-2
target_size-returns-in_err-expr_size-in-Index-2 t c = IfOk-from_err c.from_residual-in_err-expr_size-in-Index-2.result _ c.from_residual-in_err-expr_size-in-Index-2.ensures.0

pub target_size-returns-in_err-targets_size-in-List : goal.target_size-returns-in_err-targets_size-in-List
target_size-returns-in_err-targets_size-in-List t c = IfOk-from_err c.from_residual-in_err-targets_size-in-List.result _ c.from_residual-in_err-targets_size-in-List.ensures.0

pub target_size-returns-in_err-targets_size-in-Tuple : goal.target_size-returns-in_err-targets_size-in-Tuple
target_size-returns-in_err-targets_size-in-Tuple t c = IfOk-from_err c.from_residual.result _ c.from_residual.ensures.0

pub targets_size-returns-in_err-size : goal.targets_size-returns-in_err-size
targets_size-returns-in_err-size t c = IfOk-from_err c.from_residual-in_err-size.result _ c.from_residual-in_err-size.ensures.0

pub targets_size-returns-in_err-target_size : goal.targets_size-returns-in_err-target_size
targets_size-returns-in_err-target_size t c = IfOk-from_err c.from_residual.result _ c.from_residual.ensures.0
