use Rattle.std.proofs.Common.{ap, sym, ◌∙◌, ◌+◌}
use Rattle.std.specs.Option.{option_map}
use Rattle.py_syntax.specs.View.{plain_expr}
use Rattle.py_compile_expr.proofs.Turns.{kept, then, the_number}
use Rattle.py_compile.specs.Statements.{raise_size, raise_code}
use Rattle.py_compile.specs.Ways.{in_hand}
use Rattle.py_compile_body.specs.WaysView.{plain_ways}
use Rattle.py_compile_body.proofs.Rows.{part_more}
use Rattle.py_compile_body.proofs.parts.put_raised.Goals as goal

pub returns-in_ok-at-in-Some-clause-cells : goal.returns-in_ok-at-in-Some-clause-cells
returns-in_ok-at-in-Some-clause-cells c =
    let w = plain_ways c.args.ways in
    then c.put.result _ _ _ _ _ _ c.put.ensures.cells c.in_ok-at-in-Some.ensures.cells (ap (λ o. raise_code w.handled w c.args.at (option_map plain_expr o)) c.in-Some.is)

pub returns-in_ok-at-in-Some-clause-place : goal.returns-in_ok-at-in-Some-clause-place
returns-in_ok-at-in-Some-clause-place c =
    the_number c.put.result _ _ c.put.ensures.place
    (part_more _ _ _ 1 c.in_ok-at-in-Some.ensures.place ∙ ap (λ o. c.args.at + raise_size (in_hand (plain_ways c.args.ways)) (option_map plain_expr o)) (sym c.in-Some.is))

pub returns-in-None-clause-cells : goal.returns-in-None-clause-cells
returns-in-None-clause-cells c =
    let w = plain_ways c.args.ways in
    kept c.put_raise_again.result _ _ _ _ (ap (λ o. raise_code w.handled w c.args.at (option_map plain_expr o)) c.in-None.is) c.put_raise_again.ensures.cells

pub returns-in-None-clause-place : goal.returns-in-None-clause-place
returns-in-None-clause-place c =
    the_number c.put_raise_again.result _ _ c.put_raise_again.ensures.place (ap (λ o. c.args.at + raise_size (in_hand (plain_ways c.args.ways)) (option_map plain_expr o)) (sym c.in-None.is))
