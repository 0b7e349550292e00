use Rattle.std.proofs.Common.{sym, ap, ◌++◌, []}
use Rattle.py_syntax.specs.View.{plain_expr}
use Rattle.py_compile_expr.proofs.Turns.{the_number}
use Rattle.py_compile_expr.specs.Cells.{plain, put}
use Rattle.py_compile_expr.specs.CellView.{plain_guard}
use Rattle.py_compile_expr.specs.Expressions.{expr_code}
use Rattle.py_code.specs.declared.instr.Instr.TheVariants.{Copy, Index}
use Rattle.py_compile_body.proofs.Rows.{five, after_two}
use Rattle.py_compile_body.proofs.parts.put_read_item.Goals as goal

pub returns-clause-cells : goal.returns-clause-cells
returns-clause-cells c =
    let g = plain_guard c.args.guard in
    five c.put-3.result _ _ _ _ _ _ _ _ _ _ _ _ c.in_ok-at.ensures.cells c.in_ok-at-2.ensures.cells c.in_ok-at-3.ensures.cells c.in_ok-at-4.ensures.cells c.put-3.ensures.cells
    (ap (λ p. expr_code g c.args.at (plain_expr c.args.of.now) ++ (expr_code g p (plain_expr c.args.key.now) ++ put g (plain (Copy 1)) (put g (plain (Copy 1)) (put g (plain Index) [])))) (sym c.in_ok-at.ensures.place))

pub returns-clause-place : goal.returns-clause-place
returns-clause-place c =
    the_number c.put-3.result _ _ c.put-3.ensures.place (after_two _ _ _ _ _ _ _ c.in_ok-at.ensures.place c.in_ok-at-2.ensures.place c.in_ok-at-3.ensures.place c.in_ok-at-4.ensures.place)
