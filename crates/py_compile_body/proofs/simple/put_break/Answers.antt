use Rattle.std.proofs.Common.{ap, sym, ◌∙◌, []}
use Rattle.py_compile_expr.proofs.Turns.{kept}
use Rattle.py_compile_expr.specs.Cells.{marks, plain, put}
use Rattle.py_compile.specs.Ways.{break_exit}
use Rattle.py_compile_body.specs.WaysView.{plain_ways}
use Rattle.py_compile_body.proofs.simple.put_break.Goals as goal

pub returns-clause-cells : goal.returns-clause-cells
returns-clause-cells c =
    let w = plain_ways c.args.ways in
    kept c.put_marked.result _ _ _ _
    (ap (λ i. put w.guard (marks c.args.line) (put w.guard (plain i) [])) (ap (break_exit w.on_break) (sym c.in_ok-sum.ensures) ∙ sym c.break_exit-instr.ensures)) c.put_marked.ensures.cells

pub returns-clause-place : goal.returns-clause-place
returns-clause-place c = c.put_marked.ensures.place
