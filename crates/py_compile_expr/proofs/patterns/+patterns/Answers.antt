use Rattle.std.proofs.lemmas.Grind.{common_steps}
use Rattle.std.proofs.Common.{refl, sym, ap, ◌∙◌, ◌+◌, ◌++◌, length, arith}
use Rattle.std.proofs.lemmas.Result.{IfOk-from_err}
use Rattle.py_syntax.specs.View.{plain_patterns}
use Rattle.py_compile_expr.specs.CellView.{plain_site}
use Rattle.py_compile_expr.specs.Patterns.{items_size, items_code}
use Rattle.py_compile_expr.proofs.Alternatives.{left_size, left_code, one_size-left, one_code-left, left_added, left_counted, items_added, items_counted}
use Rattle.py_compile_expr.proofs.Nodes.{as_node, sequence_node}
use Rattle.py_compile_expr.proofs.Turns.{none_counted, none_added, then, three}
use Rattle.py_compile_expr.proofs.patterns.+patterns.Goals as goal

pub put_items-loop-i-preserved : goal.put_items-loop-i-preserved
put_items-loop-i-preserved t c = record {
  cells = items_added (plain_site c.loop-i.here) (plain_site c.in_ok-inside.inside) (plain_site c.in_ok-next.next) c.loop-i.to c.in_ok-to.to c.in_ok-waiting.waiting c.in_ok-captures.field-0 c.args.items.now c.loop-i.i c.index-items-i.result _ _ _ c.loop-i-test.true c.index-items-i.is c.in_ok-waiting.ensures c.in_ok-inside.ensures c.in_ok-captures.ensures c.in_ok-next.ensures c.in_ok-to.ensures.cells c.in_ok-to.ensures.place c.loop-i.invariant.cells;
  place = items_counted c.args.items.now c.loop-i.i c.index-items-i.result c.loop-i.to c.in_ok-to.to _ c.loop-i-test.true c.index-items-i.is c.in_ok-to.ensures.place c.loop-i.invariant.place;
}

pub put_one-loop-i-preserved : goal.put_one-loop-i-preserved
put_one-loop-i-preserved t c = record {
  cells = left_added (plain_site c.args.site) c.loop-i.to c.in_ok-to.to c.args.end c.args.items.now c.loop-i.i c.index-items-i.result _ _ _ c.loop-i-test.true c.index-items-i.is c.in_ok-to.ensures.cells c.in_ok-to.ensures.place c.loop-i.invariant.cells;
  place = left_counted c.args.items.now c.loop-i.i c.index-items-i.result c.loop-i.to c.in_ok-to.to _ c.loop-i-test.true c.index-items-i.is c.in_ok-to.ensures.place c.loop-i.invariant.place;
}

pub put_one-returns-clause-cells : goal.put_one-returns-clause-cells
put_one-returns-clause-cells t c =
    none_added (λ xs. left_code (plain_site c.args.site) c.loop-i.to c.args.end (plain_patterns xs)) refl _ _ _ _ c.loop-i-test.false c.loop-i.invariant.cells
    ∙ ap (λ cs. c.args.out.now ++ cs) (sym (one_code-left (plain_site c.args.site) c.args.at c.args.end c.args.items.now (sym c.is_empty.ensures ∙ c.if-is_empty.false)))

pub put_one-returns-clause-place : goal.put_one-returns-clause-place
put_one-returns-clause-place t c =
    none_counted (λ xs. left_size (plain_patterns xs)) refl _ _ _ _ c.loop-i-test.false c.loop-i.invariant.place
    ∙ ap (λ n. c.args.at + n) (sym (one_size-left c.args.items.now (sym c.is_empty.ensures ∙ c.if-is_empty.false)))

pub put_pattern-returns-in_ok-at-in-Sequence-clause-cells : goal.put_pattern-returns-in_ok-at-in-Sequence-clause-cells
put_pattern-returns-in_ok-at-in-Sequence-clause-cells t c =
    then c.put_items.result _ _ _ _ _ _ c.put_items.ensures.cells c.in_ok-at-in-Sequence.ensures.cells
    (sequence_node (plain_site c.args.site) c.args.at c.in_ok-at-in-Sequence.at c.in_ok-size-in-Sequence.size c.args.pattern.now c.in-Sequence.brackets c.in-Sequence.items c.in-Sequence.comma c.deref.result.now c.in-Sequence.is c.deref.ensures.value (c.in_ok-size-in-Sequence.ensures ∙ c.len.ensures ∙ sym c.deref.ensures.len ∙ ap length c.deref.ensures.value) c.in_ok-at-in-Sequence.ensures.place)

pub put_pattern-returns-in_ok-at-in-As-2-clause-cells : goal.put_pattern-returns-in_ok-at-in-As-2-clause-cells
put_pattern-returns-in_ok-at-in-As-2-clause-cells t c =
    three c.put-in-As-2.result _ _ _ _ _ _ _ _ c.in_ok-at-in-As.ensures.cells c.in_ok-at-in-As-2.ensures.cells c.put-in-As-2.ensures.cells
    (as_node (plain_site c.args.site) (plain_site c.in_ok-inside-in-As.inside) c.args.at c.in_ok-at-in-As.at c.args.pattern.now c.in-As.inner c.in-As.field-1 c.deref-in-As.result.now c.in-As.is c.deref-in-As.ensures c.in_ok-inside-in-As.ensures c.in_ok-at-in-As.ensures.place)

pub put_items-returns-clause-cells : goal.put_items-returns-clause-cells
put_items-returns-clause-cells t c =
    none_added (λ xs. items_code (plain_site c.loop-i.here) c.loop-i.to (plain_patterns xs)) refl _ _ _ _ c.loop-i-test.false c.loop-i.invariant.cells

pub put_items-returns-clause-place : goal.put_items-returns-clause-place
put_items-returns-clause-place t c =
    none_counted (λ xs. items_size (plain_patterns xs)) refl _ _ _ _ c.loop-i-test.false c.loop-i.invariant.place

-- ---- what fails is passed on

pub put_alternative-returns-in_err-at : goal.put_alternative-returns-in_err-at
put_alternative-returns-in_err-at t c = record { cells = IfOk-from_err c.from_residual-in_err-at.result _ c.from_residual-in_err-at.ensures.0; place = IfOk-from_err c.from_residual-in_err-at.result _ c.from_residual-in_err-at.ensures.0 }

pub put_alternative-returns-in_err-at-2 : goal.put_alternative-returns-in_err-at-2
put_alternative-returns-in_err-at-2 t c = record { cells = IfOk-from_err c.from_residual-in_err-at-2.result _ c.from_residual-in_err-at-2.ensures.0; place = IfOk-from_err c.from_residual-in_err-at-2.result _ c.from_residual-in_err-at-2.ensures.0 }

pub put_alternative-returns-in_err-at-3 : goal.put_alternative-returns-in_err-at-3
put_alternative-returns-in_err-at-3 t c = record { cells = IfOk-from_err c.from_residual-in_err-at-3.result _ c.from_residual-in_err-at-3.ensures.0; place = IfOk-from_err c.from_residual-in_err-at-3.result _ c.from_residual-in_err-at-3.ensures.0 }

pub put_alternative-returns-in_err-fail : goal.put_alternative-returns-in_err-fail
put_alternative-returns-in_err-fail t c = record { cells = IfOk-from_err c.from_residual-in_err-fail.result _ c.from_residual-in_err-fail.ensures.0; place = IfOk-from_err c.from_residual-in_err-fail.result _ c.from_residual-in_err-fail.ensures.0 }

pub put_alternative-returns-in_err-pattern_size : goal.put_alternative-returns-in_err-pattern_size
put_alternative-returns-in_err-pattern_size t c = record { cells = IfOk-from_err c.from_residual-in_err-pattern_size.result _ c.from_residual-in_err-pattern_size.ensures.0; place = IfOk-from_err c.from_residual-in_err-pattern_size.result _ c.from_residual-in_err-pattern_size.ensures.0 }

pub put_alternative-returns-in_err-sum : goal.put_alternative-returns-in_err-sum
put_alternative-returns-in_err-sum t c = record { cells = IfOk-from_err c.from_residual-in_err-sum.result _ c.from_residual-in_err-sum.ensures.0; place = IfOk-from_err c.from_residual-in_err-sum.result _ c.from_residual-in_err-sum.ensures.0 }

pub put_alternative-returns-in_err-waiting : goal.put_alternative-returns-in_err-waiting
put_alternative-returns-in_err-waiting t c = record { cells = IfOk-from_err c.from_residual.result _ c.from_residual.ensures.0; place = IfOk-from_err c.from_residual.result _ c.from_residual.ensures.0 }

pub put_items-returns-in_err-captures : goal.put_items-returns-in_err-captures
put_items-returns-in_err-captures t c = record { cells = IfOk-from_err c.from_residual-in_err-captures.result _ c.from_residual-in_err-captures.ensures.0; place = IfOk-from_err c.from_residual-in_err-captures.result _ c.from_residual-in_err-captures.ensures.0 }

pub put_items-returns-in_err-inside : goal.put_items-returns-in_err-inside
put_items-returns-in_err-inside t c = record { cells = IfOk-from_err c.from_residual-in_err-inside.result _ c.from_residual-in_err-inside.ensures.0; place = IfOk-from_err c.from_residual-in_err-inside.result _ c.from_residual-in_err-inside.ensures.0 }

pub put_items-returns-in_err-next : goal.put_items-returns-in_err-next
put_items-returns-in_err-next t c = record { cells = IfOk-from_err c.from_residual-in_err-next.result _ c.from_residual-in_err-next.ensures.0; place = IfOk-from_err c.from_residual-in_err-next.result _ c.from_residual-in_err-next.ensures.0 }

pub put_items-returns-in_err-to : goal.put_items-returns-in_err-to
put_items-returns-in_err-to t c = record { cells = IfOk-from_err c.from_residual-in_err-to.result _ c.from_residual-in_err-to.ensures.0; place = IfOk-from_err c.from_residual-in_err-to.result _ c.from_residual-in_err-to.ensures.0 }

pub put_items-returns-in_err-waiting : goal.put_items-returns-in_err-waiting
put_items-returns-in_err-waiting t c = record { cells = IfOk-from_err c.from_residual.result _ c.from_residual.ensures.0; place = IfOk-from_err c.from_residual.result _ c.from_residual.ensures.0 }

pub put_one-returns-in_err-to : goal.put_one-returns-in_err-to
put_one-returns-in_err-to t c = record { cells = IfOk-from_err c.from_residual.result _ c.from_residual.ensures.0; place = IfOk-from_err c.from_residual.result _ c.from_residual.ensures.0 }

pub put_pattern-returns-in_err-at-in-As : goal.put_pattern-returns-in_err-at-in-As
put_pattern-returns-in_err-at-in-As t c = record { cells = IfOk-from_err c.from_residual-in_err-at-in-As.result _ c.from_residual-in_err-at-in-As.ensures.0; place = IfOk-from_err c.from_residual-in_err-at-in-As.result _ c.from_residual-in_err-at-in-As.ensures.0 }

pub put_pattern-returns-in_err-at-in-As-2 : goal.put_pattern-returns-in_err-at-in-As-2
put_pattern-returns-in_err-at-in-As-2 t c = record { cells = IfOk-from_err c.from_residual-in_err-at-in-As-2.result _ c.from_residual-in_err-at-in-As-2.ensures.0; place = IfOk-from_err c.from_residual-in_err-at-in-As-2.result _ c.from_residual-in_err-at-in-As-2.ensures.0 }

pub put_pattern-returns-in_err-at-in-Sequence : goal.put_pattern-returns-in_err-at-in-Sequence
put_pattern-returns-in_err-at-in-Sequence t c = record { cells = IfOk-from_err c.from_residual-in_err-at-in-Sequence.result _ c.from_residual-in_err-at-in-Sequence.ensures.0; place = IfOk-from_err c.from_residual-in_err-at-in-Sequence.result _ c.from_residual-in_err-at-in-Sequence.ensures.0 }

pub put_pattern-returns-in_err-end-in-Or : goal.put_pattern-returns-in_err-end-in-Or
put_pattern-returns-in_err-end-in-Or t c = record { cells = IfOk-from_err c.from_residual-in_err-end-in-Or.result _ c.from_residual-in_err-end-in-Or.ensures.0; place = IfOk-from_err c.from_residual-in_err-end-in-Or.result _ c.from_residual-in_err-end-in-Or.ensures.0 }

pub put_pattern-returns-in_err-inside-in-As : goal.put_pattern-returns-in_err-inside-in-As
put_pattern-returns-in_err-inside-in-As t c = record { cells = IfOk-from_err c.from_residual-in_err-inside-in-As.result _ c.from_residual-in_err-inside-in-As.ensures.0; place = IfOk-from_err c.from_residual-in_err-inside-in-As.result _ c.from_residual-in_err-inside-in-As.ensures.0 }

pub put_pattern-returns-in_err-one_size-in-Or : goal.put_pattern-returns-in_err-one_size-in-Or
put_pattern-returns-in_err-one_size-in-Or t c = record { cells = IfOk-from_err c.from_residual-in_err-one_size-in-Or.result _ c.from_residual-in_err-one_size-in-Or.ensures.0; place = IfOk-from_err c.from_residual-in_err-one_size-in-Or.result _ c.from_residual-in_err-one_size-in-Or.ensures.0 }

pub put_pattern-returns-in_err-size-in-Sequence : goal.put_pattern-returns-in_err-size-in-Sequence
put_pattern-returns-in_err-size-in-Sequence t c = record { cells = IfOk-from_err c.from_residual.result _ c.from_residual.ensures.0; place = IfOk-from_err c.from_residual.result _ c.from_residual.ensures.0 }

pub put_alternative-returns-clause-cells : goal.put_alternative-returns-clause-cells
put_alternative-returns-clause-cells t c = grind (arith, common_steps)
