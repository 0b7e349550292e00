use Rattle.std.proofs.Common.{ap, sym}
use Rattle.py_syntax.specs.View.{plain_expr}
use Rattle.py_compile_expr.proofs.Turns.{then, the_number}
use Rattle.py_compile_expr.specs.Cells.{marks, put}
use Rattle.py_compile_expr.specs.CellView.{plain_guard}
use Rattle.py_compile.specs.Statements.{augment_code}
use Rattle.py_compile_body.proofs.Rows.{after_mark}
use Rattle.py_compile_body.proofs.simple.put_aug_assign.Goals as goal

pub returns-clause-cells : goal.returns-clause-cells
returns-clause-cells c =
    let g = plain_guard c.args.ways.guard in
    then c.put_augment.result _ _ _ _ _ _ c.put_augment.ensures.cells c.in_ok-at.ensures.cells
    (ap (λ n. put g (marks c.args.line) (augment_code g n (plain_expr c.args.place.now) c.args.op (plain_expr c.args.value.now))) (sym c.in_ok-at.ensures.place))

pub returns-clause-place : goal.returns-clause-place
returns-clause-place c = the_number c.put_augment.result _ _ c.put_augment.ensures.place (after_mark _ _ _ c.in_ok-at.ensures.place)
