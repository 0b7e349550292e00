use Rattle.std.proofs.Common.{◌+◌, sym, ap}
use Rattle.py_syntax.specs.View.{plain_expr}
use Rattle.py_compile_expr.proofs.Turns.{then, the_number}
use Rattle.py_compile_expr.specs.Cells.{marks, put}
use Rattle.py_compile_expr.specs.CellView.{plain_guard}
use Rattle.py_compile_expr.specs.Expressions.{expr_size, expr_code}
use Rattle.py_compile_body.proofs.parts.put_marked_expr.Goals as goal

pub returns-clause-cells : goal.returns-clause-cells
returns-clause-cells c =
    let g = plain_guard c.args.guard in
    then c.put_expr.result _ _ _ _ _ _ c.put_expr.ensures.cells c.in_ok-at.ensures.cells
    (ap (λ p. put g (marks c.args.line) (expr_code g p (plain_expr c.args.e.now))) (sym c.in_ok-at.ensures.place))

pub returns-clause-place : goal.returns-clause-place
returns-clause-place c =
    the_number c.put_expr.result _ _ c.put_expr.ensures.place (ap (λ p. p + expr_size (plain_expr c.args.e.now)) c.in_ok-at.ensures.place)
