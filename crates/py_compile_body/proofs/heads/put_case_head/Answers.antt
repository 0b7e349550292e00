use Rattle.std.proofs.Common.{ap, ◌∙◌, ◌+◌}
use Rattle.std.specs.Option.{option_map}
use Rattle.py_syntax.specs.View.{plain_expr, plain_pattern}
use Rattle.py_compile_expr.proofs.Turns.{the_number}
use Rattle.py_compile_expr.specs.CellView.{plain_guard}
use Rattle.py_compile_expr.specs.Patterns.{captured, pattern_size, names_size}
use Rattle.py_compile.specs.Statements.{guard_size}
use Rattle.py_compile_body.proofs.Rows.{six, two_more}
use Rattle.py_compile_body.proofs.HeadForms.{case_head_node}
use Rattle.py_compile_body.proofs.heads.put_case_head.Goals as goal

pub returns-clause-cells : goal.returns-clause-cells
returns-clause-cells c =
    let q = plain_pattern c.args.pattern.now in
    let first = c.in_ok-at-2.ensures.place ∙ two_more _ _ c.in_ok-at.ensures.place in
    let bound = c.in_ok-at-4.ensures.place ∙ ap (λ n. n + names_size (captured q)) (c.in_ok-at-3.ensures.place ∙ ap (λ n. n + pattern_size q) first) in
    six c.put-3.result _ _ _ _ _ _ _ _ _ _ _ _ _ _ c.in_ok-at.ensures.cells c.in_ok-at-2.ensures.cells c.in_ok-at-3.ensures.cells c.in_ok-at-4.ensures.cells c.in_ok-at-5.ensures.cells c.put-3.ensures.cells
    (case_head_node (plain_guard c.args.handler) c.args.at c.args.line c.args.next c.in_ok-at-2.at c.in_ok-at-4.at q (option_map plain_expr c.args.guard.now) first bound)

pub returns-clause-place : goal.returns-clause-place
returns-clause-place c =
    let q = plain_pattern c.args.pattern.now in
    let first = c.in_ok-at-2.ensures.place ∙ two_more _ _ c.in_ok-at.ensures.place in
    let bound = c.in_ok-at-4.ensures.place ∙ ap (λ n. n + names_size (captured q)) (c.in_ok-at-3.ensures.place ∙ ap (λ n. n + pattern_size q) first) in
    the_number c.put-3.result _ _ c.put-3.ensures.place
    (ap (λ n. n + 1) (c.in_ok-at-5.ensures.place ∙ ap (λ n. n + guard_size (option_map plain_expr c.args.guard.now)) bound))
