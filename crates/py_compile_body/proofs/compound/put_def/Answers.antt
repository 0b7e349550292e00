use Rattle.std.proofs.Common.{ap, sym, ◌∙◌, [], ◌++◌}
use Rattle.py_syntax.specs.View.{plain_exprs}
use Rattle.py_compile_expr.proofs.Turns.{three, the_number}
use Rattle.py_compile_expr.specs.Cells.{store, marks, put}
use Rattle.py_compile_expr.specs.CellView.{plain_guard}
use Rattle.py_meaning.specs.Modules.{unit_at}
use Rattle.py_compile.specs.Statements.{function_code}
use Rattle.py_compile_body.specs.Parts.{at_lines}
use Rattle.py_compile_body.proofs.Rows.{marked_between}
use Rattle.py_compile_body.proofs.compound.put_def.Goals as goal

pub returns-clause-cells : goal.returns-clause-cells
returns-clause-cells c =
    let g = plain_guard c.args.guard in
    let es = plain_exprs c.args.defaults.now in
    let rest = put g (store c.args.name.now) [] in
    three c.put_store.result _ _ _ _ _ _ _ _ c.in_ok-at.ensures.cells c.in_ok-at-2.ensures.cells c.put_store.ensures.cells
    (ap (λ n. put g (marks c.args.line) (function_code g n (unit_at c.args.line (at_lines c.args.defs.now)) es ++ rest)) (sym c.in_ok-at.ensures.place)
    ∙ ap (λ u. put g (marks c.args.line) (function_code g c.in_ok-at.at u es ++ rest)) (sym c.in_ok-unit.ensures))

pub returns-clause-place : goal.returns-clause-place
returns-clause-place c = the_number c.put_store.result _ _ c.put_store.ensures.place (marked_between _ _ _ _ c.in_ok-at.ensures.place c.in_ok-at-2.ensures.place)
