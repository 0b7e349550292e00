use Rattle.std.proofs.Common.{◌∙◌, sym, ap, []}
use Rattle.py_compile_expr.proofs.Turns.{three, the_number}
use Rattle.py_compile_expr.specs.Cells.{imports, module_named, plain, put}
use Rattle.py_compile_expr.specs.CellView.{plain_guard}
use Rattle.py_code.specs.declared.instr.Instr.TheVariants.{Pop}
use Rattle.py_compile_body.proofs.Rows.{three_more}
use Rattle.py_compile_body.proofs.parts.put_module.Goals as goal

pub returns-clause-cells : goal.returns-clause-cells
returns-clause-cells c =
    let g = plain_guard c.args.guard in
    three c.put-3.result _ _ _ _ _ _ _ _ c.in_ok-at.ensures.cells c.in_ok-at-2.ensures.cells c.put-3.ensures.cells
    (ap (λ x. put g (imports x) (put g (plain Pop) (put g (module_named c.args.«module».now) []))) (sym c.in_ok-first.ensures)
    ∙ ap (λ x. put g (imports c.in_ok-first.first) (put g (plain Pop) (put g (module_named x) []))) (sym c.in_ok-second.ensures))

pub returns-clause-place : goal.returns-clause-place
returns-clause-place c = the_number c.put-3.result _ _ c.put-3.ensures.place (three_more _ _ _ c.in_ok-at.ensures.place c.in_ok-at-2.ensures.place)
