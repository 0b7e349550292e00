use Rattle.std.proofs.Common.{◌∙◌, sym, ap, ◌++◌, ◌+◌, []}
use Rattle.py_syntax.specs.View.{plain_expr}
use Rattle.py_compile_expr.proofs.Turns.{four, the_number}
use Rattle.py_compile_expr.specs.Cells.{load, store, plain, put}
use Rattle.py_compile_expr.specs.CellView.{plain_guard}
use Rattle.py_compile_expr.specs.Expressions.{expr_code}
use Rattle.py_code.specs.declared.instr.Instr.TheVariants.{InPlace}
use Rattle.py_compile_body.proofs.Rows.{one_part_two}
use Rattle.py_compile_body.proofs.parts.put_augment_name.Goals as goal

pub returns-clause-cells : goal.returns-clause-cells
returns-clause-cells c =
    let g = plain_guard c.args.guard in
    let e = plain_expr c.args.e.now in
    let rest = put g (plain (InPlace c.args.op)) (put g (store c.args.variable.now) []) in
    four c.put_store.result _ _ _ _ _ _ _ _ _ _ c.in_ok-at.ensures.cells c.in_ok-at-2.ensures.cells c.in_ok-at-3.ensures.cells c.put_store.ensures.cells
    (ap (λ x. put g (load x) (expr_code g (c.args.at + 1) e ++ rest)) (sym c.in_ok-first.ensures) ∙ ap (λ p. put g (load c.in_ok-first.first) (expr_code g p e ++ rest)) (sym c.in_ok-at.ensures.place))

pub returns-clause-place : goal.returns-clause-place
returns-clause-place c =
    the_number c.put_store.result _ _ c.put_store.ensures.place (one_part_two _ _ _ _ _ c.in_ok-at.ensures.place c.in_ok-at-2.ensures.place c.in_ok-at-3.ensures.place)
