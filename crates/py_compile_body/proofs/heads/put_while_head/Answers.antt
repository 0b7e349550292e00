use Rattle.std.proofs.Common.{ap, ◌∙◌, ◌+◌}
use Rattle.py_syntax.specs.View.{plain_expr}
use Rattle.py_compile_expr.proofs.Turns.{the_number}
use Rattle.py_compile_expr.specs.CellView.{plain_guard}
use Rattle.py_compile_expr.specs.Expressions.{expr_size}
use Rattle.py_compile_body.proofs.Rows.{five, three_more}
use Rattle.py_compile_body.proofs.HeadForms.{while_head_node}
use Rattle.py_compile_body.proofs.heads.put_while_head.Goals as goal

pub returns-clause-cells : goal.returns-clause-cells
returns-clause-cells c =
    let begin = c.in_ok-at-3.ensures.place ∙ three_more _ _ _ c.in_ok-at.ensures.place c.in_ok-at-2.ensures.place in
    five c.put-4.result _ _ _ _ _ _ _ _ _ _ _ _ c.in_ok-at.ensures.cells c.in_ok-at-2.ensures.cells c.in_ok-at-3.ensures.cells c.in_ok-at-4.ensures.cells c.put-4.ensures.cells
    (while_head_node (plain_guard c.args.guard) c.args.at c.args.line c.args.rest c.in_ok-first.first c.in_ok-at-3.at (plain_expr c.args.test.now) c.in_ok-first.ensures begin)

pub returns-clause-place : goal.returns-clause-place
returns-clause-place c =
    let begin = c.in_ok-at-3.ensures.place ∙ three_more _ _ _ c.in_ok-at.ensures.place c.in_ok-at-2.ensures.place in
    the_number c.put-4.result _ _ c.put-4.ensures.place
    (ap (λ n. n + 1) (c.in_ok-at-4.ensures.place ∙ ap (λ n. n + expr_size (plain_expr c.args.test.now)) begin))
