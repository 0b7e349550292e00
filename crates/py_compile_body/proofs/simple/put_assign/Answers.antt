use Rattle.std.proofs.Common.{ap, sym, ◌+◌, ◌++◌}
use Rattle.py_syntax.specs.View.{plain_expr, plain_exprs}
use Rattle.py_compile_expr.proofs.Turns.{then, the_number}
use Rattle.py_compile_expr.specs.Cells.{marks, put}
use Rattle.py_compile_expr.specs.CellView.{plain_guard}
use Rattle.py_compile_expr.specs.Expressions.{expr_code}
use Rattle.py_compile_expr.specs.Targets.{all_code}
use Rattle.py_compile_body.proofs.Rows.{marked_more}
use Rattle.py_compile_body.proofs.simple.put_assign.Goals as goal

pub returns-clause-cells : goal.returns-clause-cells
returns-clause-cells c =
    let g = plain_guard c.args.ways.guard in
    then c.put_all.result _ _ _ _ _ _ c.put_all.ensures.cells c.in_ok-at.ensures.cells
    (ap (λ n. put g (marks c.args.line) (expr_code g (c.args.at + 1) (plain_expr c.args.value.now) ++ all_code g n (plain_exprs c.args.targets.now))) (sym c.in_ok-at.ensures.place))

pub returns-clause-place : goal.returns-clause-place
returns-clause-place c = the_number c.put_all.result _ _ c.put_all.ensures.place (marked_more _ _ _ _ c.in_ok-at.ensures.place)
