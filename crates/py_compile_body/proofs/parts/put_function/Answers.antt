use Rattle.std.proofs.Common.{◌+◌, sym, ap, ◌∙◌, arith}
use Rattle.py_compile_expr.proofs.Turns.{kept, three, the_number}
use Rattle.py_compile_expr.specs.CellView.{plain_guard}
use Rattle.py_compile_body.proofs.SimpleSizes.{function_size-is, function_size-none, function_code-none, function_node}
use Rattle.py_compile_body.proofs.parts.put_function.Goals as goal

pub returns-then-is_empty-clause-cells : goal.returns-then-is_empty-clause-cells
returns-then-is_empty-clause-cells c =
    kept c.put.result _ _ _ _ (function_code-none (plain_guard c.args.guard) c.args.at c.args.unit c.args.defaults.now (sym c.is_empty.ensures ∙ c.if-is_empty.true)) c.put.ensures.cells

pub returns-then-is_empty-clause-place : goal.returns-then-is_empty-clause-place
returns-then-is_empty-clause-place c =
    the_number c.put.result _ _ c.put.ensures.place (ap (λ n. c.args.at + n) (sym (function_size-none c.args.defaults.now (sym c.is_empty.ensures ∙ c.if-is_empty.true))))

pub returns-clause-cells : goal.returns-clause-cells
returns-clause-cells c =
    three c.put-3.result _ _ _ _ _ _ _ _ c.in_ok-at.ensures.cells c.in_ok-at-2.ensures.cells c.put-3.ensures.cells
    (function_node (plain_guard c.args.guard) c.args.at c.args.unit c.in_ok-size.size c.args.defaults.now (sym c.is_empty.ensures ∙ c.if-is_empty.false) c.in_ok-size.ensures)

pub returns-clause-place : goal.returns-clause-place
returns-clause-place c =
    let one = c.in_ok-at.ensures.place in
    let two = c.in_ok-at-2.ensures.place in
    let k = function_size-is c.args.defaults.now (sym c.is_empty.ensures ∙ c.if-is_empty.false) in
    the_number c.put-3.result _ _ c.put-3.ensures.place (omega (arith, one, two, k))
