use Rattle.std.proofs.Common.{ap, ◌∙◌, ◌+◌}
use Rattle.py_compile_expr.proofs.Turns.{four, the_number}
use Rattle.py_compile_body.specs.WaysView.{plain_ways}
use Rattle.py_compile_body.proofs.Rows.{two_more, six_more}
use Rattle.py_compile_body.proofs.HeadForms.{release_node}
use Rattle.py_compile_body.proofs.heads.put_release.Goals as goal

pub returns-clause-cells : goal.returns-clause-cells
returns-clause-cells c =
    let last = c.in_ok-at-3.ensures.place ∙ two_more _ _ c.in_ok-at-2.ensures.place ∙ ap (λ n. n + 2) c.in_ok-at.ensures.place in
    four c.put_exits.result _ _ _ _ _ _ _ _ _ _ c.in_ok-at.ensures.cells c.in_ok-at-2.ensures.cells c.in_ok-at-3.ensures.cells c.put_exits.ensures.cells
    (release_node (plain_ways c.args.ways) (plain_ways c.in_ok-lower.lower) c.args.at c.in_ok-at-3.at c.args.name.now c.in_ok-unset.unset c.in_ok-unset.ensures c.in_ok-lower.ensures last)

pub returns-clause-place : goal.returns-clause-place
returns-clause-place c =
    the_number c.put_exits.result _ _ c.put_exits.ensures.place (six_more _ _ _ _ c.in_ok-at.ensures.place c.in_ok-at-2.ensures.place c.in_ok-at-3.ensures.place)
