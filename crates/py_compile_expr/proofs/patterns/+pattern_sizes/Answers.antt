use Rattle.std.proofs.lemmas.Grind.{common_steps}
use Rattle.std.proofs.Common.{refl, sym, ap, ◌∙◌, ◌+◌, arith}
use Rattle.std.proofs.lemmas.Result.{IfOk-from_err}
use Rattle.py_syntax.specs.View.{plain_pattern, plain_patterns}
use Rattle.py_compile_expr.specs.Patterns.{pattern_size, items_size}
use Rattle.py_compile_expr.proofs.Alternatives.{left_size, one_size-left, left_turn}
use Rattle.py_compile_expr.proofs.Turns.{none_counted, counted_turn}
use Rattle.py_compile_expr.proofs.patterns.+pattern_sizes.Goals as goal

pub one_size-loop-i-preserved : goal.one_size-loop-i-preserved
one_size-loop-i-preserved t c =
    left_turn c.args.items.now c.loop-i.i c.index-items-i.result c.loop-i.size c.in_ok-own.own c.in_ok-alternative_size.field-0 c.in_ok-size.size _ c.loop-i-test.true c.index-items-i.is c.in_ok-own.ensures c.in_ok-alternative_size.ensures c.in_ok-size.ensures c.loop-i.invariant

pub one_size-returns : goal.one_size-returns
one_size-returns t c =
    none_counted (λ xs. left_size (plain_patterns xs)) refl _ _ _ _ c.loop-i-test.false c.loop-i.invariant
    ∙ sym (one_size-left c.args.items.now (sym c.is_empty.ensures ∙ c.if-is_empty.false))

pub items_size-loop-item-preserved : goal.items_size-loop-item-preserved
items_size-loop-item-preserved t c =
    counted_turn (λ xs. items_size (plain_patterns xs)) (λ x. pattern_size (plain_pattern x)) (λ x xs. refl) c.args.items.now c.loop-item.item-index c.item-item.result c.loop-item.size c.in_ok-size.size _ c.loop-item-test.true c.item-item.is
    (c.in_ok-size.ensures ∙ ap (λ n. c.loop-item.size + n) c.in_ok-pattern_size.ensures) c.loop-item.invariant

pub items_size-returns : goal.items_size-returns
items_size-returns t c = none_counted (λ xs. items_size (plain_patterns xs)) refl _ _ _ _ c.loop-item-test.false c.loop-item.invariant

pub items_size-returns-in_err-pattern_size : goal.items_size-returns-in_err-pattern_size
items_size-returns-in_err-pattern_size t c = IfOk-from_err c.from_residual.result _ c.from_residual.ensures.0

pub items_size-returns-in_err-size : goal.items_size-returns-in_err-size
items_size-returns-in_err-size t c = IfOk-from_err c.from_residual-in_err-size.result _ c.from_residual-in_err-size.ensures.0

pub one_size-returns-in_err-alternative_size : goal.one_size-returns-in_err-alternative_size
one_size-returns-in_err-alternative_size t c = IfOk-from_err c.from_residual-in_err-alternative_size.result _ c.from_residual-in_err-alternative_size.ensures.0

pub one_size-returns-in_err-own : goal.one_size-returns-in_err-own
one_size-returns-in_err-own t c = IfOk-from_err c.from_residual.result _ c.from_residual.ensures.0

pub one_size-returns-in_err-size : goal.one_size-returns-in_err-size
one_size-returns-in_err-size t c = IfOk-from_err c.from_residual-in_err-size.result _ c.from_residual-in_err-size.ensures.0

pub pattern_size-returns-in_err-items_size-in-Sequence : goal.pattern_size-returns-in_err-items_size-in-Sequence
pattern_size-returns-in_err-items_size-in-Sequence t c = IfOk-from_err c.from_residual.result _ c.from_residual.ensures.0

pub pattern_size-returns-in_err-pattern_size-in-As : goal.pattern_size-returns-in_err-pattern_size-in-As
pattern_size-returns-in_err-pattern_size-in-As t c = IfOk-from_err c.from_residual-in_err-pattern_size-in-As.result _ c.from_residual-in_err-pattern_size-in-As.ensures.0

pub one_size-returns-then-is_empty : goal.one_size-returns-then-is_empty
one_size-returns-then-is_empty t c = grind (arith, common_steps)
