use Rattle.std.proofs.Common.{ap, sym, ◌∙◌, ◌+◌}
use Rattle.py_compile_expr.proofs.Turns.{kept, then, the_number}
use Rattle.py_compile_body.specs.Parts.{clause_end, clause_end_size}
use Rattle.py_compile_body.specs.WaysView.{plain_ways}
use Rattle.py_compile_body.proofs.Rows.{six_and_two}
use Rattle.py_compile_body.proofs.heads.put_clause_end.Goals as goal

pub returns-in-None-clause-cells : goal.returns-in-None-clause-cells
returns-in-None-clause-cells c = kept c.put_over.result _ _ _ _ (ap (clause_end (plain_ways c.args.ways) c.args.at c.args.end) c.in-None.is) c.put_over.ensures.cells

pub returns-in-None-clause-place : goal.returns-in-None-clause-place
returns-in-None-clause-place c = the_number c.put_over.result _ _ c.put_over.ensures.place (ap (λ x. c.args.at + clause_end_size x) (sym c.in-None.is))

pub returns-in_ok-at-in-Some-clause-cells : goal.returns-in_ok-at-in-Some-clause-cells
returns-in_ok-at-in-Some-clause-cells c =
    then c.put_over-in-Some.result _ _ _ _ _ _ c.put_over-in-Some.ensures.cells c.in_ok-at-in-Some.ensures.cells
    (ap (clause_end (plain_ways c.args.ways) c.args.at c.args.end) c.in-Some.is)

pub returns-in_ok-at-in-Some-clause-place : goal.returns-in_ok-at-in-Some-clause-place
returns-in_ok-at-in-Some-clause-place c =
    the_number c.put_over-in-Some.result _ _ c.put_over-in-Some.ensures.place (six_and_two _ _ c.in_ok-at-in-Some.ensures.place ∙ ap (λ x. c.args.at + clause_end_size x) (sym c.in-Some.is))
