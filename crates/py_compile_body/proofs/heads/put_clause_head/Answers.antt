use Rattle.std.proofs.Common.{ap, sym, ◌∙◌, ◌+◌}
use Rattle.std.specs.Option.{option_map}
use Rattle.py_syntax.specs.View.{plain_expr}
use Rattle.py_compile_expr.proofs.Turns.{and_then, four, the_number}
use Rattle.py_compile_expr.specs.CellView.{plain_guard}
use Rattle.py_compile.specs.Statements.{caught_size}
use Rattle.py_compile_body.specs.Parts.{clause_begin, clause_head}
use Rattle.py_compile_body.proofs.Rows.{two_more}
use Rattle.py_compile_body.proofs.HeadForms.{clause_head_unnamed, clause_head_named}
use Rattle.py_compile_body.proofs.heads.put_clause_head.Goals as goal

pub returns-in-None-clause-cells : goal.returns-in-None-clause-cells
returns-in-None-clause-cells c =
    let g = plain_guard c.args.guard in
    let k = option_map plain_expr c.args.kind.now in
    and_then _ _ _ _ _ _ c.in_ok-at-2.ensures.cells c.in_ok-at.ensures.cells
    (ap (clause_head g c.args.at c.args.line c.args.next k) c.in-None.is ∙ clause_head_unnamed g c.args.at c.args.line c.args.next c.in_ok-at.at k c.in_ok-at.ensures.place)

pub returns-in-None-clause-place : goal.returns-in-None-clause-place
returns-in-None-clause-place c =
    let k = option_map plain_expr c.args.kind.now in
    c.in_ok-at-2.ensures.place ∙ ap (λ n. n + caught_size k) c.in_ok-at.ensures.place ∙ ap (clause_begin c.args.at k) (sym c.in-None.is)

pub returns-in_ok-at-in-Some-clause-cells : goal.returns-in_ok-at-in-Some-clause-cells
returns-in_ok-at-in-Some-clause-cells c =
    let g = plain_guard c.args.guard in
    let k = option_map plain_expr c.args.kind.now in
    four c.put_store.result _ _ _ _ _ _ _ _ _ _ c.in_ok-at.ensures.cells c.in_ok-at-2.ensures.cells c.in_ok-at-in-Some.ensures.cells c.put_store.ensures.cells
    (ap (clause_head g c.args.at c.args.line c.args.next k) c.in-Some.is ∙ clause_head_named g c.args.at c.args.line c.args.next c.in_ok-at.at k c.in-Some.name c.in_ok-at.ensures.place)

pub returns-in_ok-at-in-Some-clause-place : goal.returns-in_ok-at-in-Some-clause-place
returns-in_ok-at-in-Some-clause-place c =
    let k = option_map plain_expr c.args.kind.now in
    the_number c.put_store.result _ _ c.put_store.ensures.place
    (two_more _ _ c.in_ok-at-in-Some.ensures.place ∙ ap (λ n. n + 2) (c.in_ok-at-2.ensures.place ∙ ap (λ n. n + caught_size k) c.in_ok-at.ensures.place) ∙ ap (clause_begin c.args.at k) (sym c.in-Some.is))
