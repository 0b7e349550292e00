use Rattle.std.proofs.Common.{ap, sym, ◌∙◌, ◌+◌}
use Rattle.std.specs.Option.{option_map}
use Rattle.py_syntax.specs.View.{plain_expr}
use Rattle.py_compile_expr.proofs.Turns.{kept, then, the_number}
use Rattle.py_compile_expr.specs.CellView.{plain_guard}
use Rattle.py_compile.specs.Statements.{assert_size, assert_code}
use Rattle.py_compile_body.proofs.Rows.{part_more}
use Rattle.py_compile_body.proofs.parts.put_failure.Goals as goal

pub returns-in-None-clause-cells : goal.returns-in-None-clause-cells
returns-in-None-clause-cells c = kept c.put.result _ _ _ _ (ap (λ o. assert_code (plain_guard c.args.guard) c.args.at (option_map plain_expr o)) c.in-None.is) c.put.ensures.cells

pub returns-in-None-clause-place : goal.returns-in-None-clause-place
returns-in-None-clause-place c = the_number c.put.result _ _ c.put.ensures.place (ap (λ o. c.args.at + assert_size (option_map plain_expr o)) (sym c.in-None.is))

pub returns-in_ok-at-in-Some-clause-cells : goal.returns-in_ok-at-in-Some-clause-cells
returns-in_ok-at-in-Some-clause-cells c =
    then c.put-in-Some.result _ _ _ _ _ _ c.put-in-Some.ensures.cells c.in_ok-at-in-Some.ensures.cells (ap (λ o. assert_code (plain_guard c.args.guard) c.args.at (option_map plain_expr o)) c.in-Some.is)

pub returns-in_ok-at-in-Some-clause-place : goal.returns-in_ok-at-in-Some-clause-place
returns-in_ok-at-in-Some-clause-place c =
    the_number c.put-in-Some.result _ _ c.put-in-Some.ensures.place (part_more _ _ _ 1 c.in_ok-at-in-Some.ensures.place ∙ ap (λ o. c.args.at + assert_size (option_map plain_expr o)) (sym c.in-Some.is))
