use Rattle.std.proofs.Common.{ap, sym}
use Rattle.std.specs.Option.{option_map}
use Rattle.py_syntax.specs.View.{plain_expr}
use Rattle.py_compile_expr.proofs.Turns.{then, the_number}
use Rattle.py_compile_expr.specs.Cells.{marks, put}
use Rattle.py_compile.specs.Statements.{raise_code}
use Rattle.py_compile_body.specs.WaysView.{plain_ways}
use Rattle.py_compile_body.proofs.Rows.{after_mark}
use Rattle.py_compile_body.proofs.simple.put_raise.Goals as goal

pub returns-clause-cells : goal.returns-clause-cells
returns-clause-cells c =
    let w = plain_ways c.args.ways in
    then c.put_raised.result _ _ _ _ _ _ c.put_raised.ensures.cells c.in_ok-at.ensures.cells
    (ap (λ n. put w.guard (marks c.args.line) (raise_code w.handled w n (option_map plain_expr c.args.e.now))) (sym c.in_ok-at.ensures.place))

pub returns-clause-place : goal.returns-clause-place
returns-clause-place c = the_number c.put_raised.result _ _ c.put_raised.ensures.place (after_mark _ _ _ c.in_ok-at.ensures.place)
