use Rattle.std.proofs.Common.{ap, sym, ◌∙◌, ◌+◌, ◌++◌}
use Rattle.std.specs.Option.{option_map}
use Rattle.py_syntax.specs.View.{plain_expr}
use Rattle.py_compile_expr.proofs.Turns.{three, the_number}
use Rattle.py_compile_expr.specs.Cells.{marks, plain, put}
use Rattle.py_compile_expr.specs.CellView.{plain_guard}
use Rattle.py_compile_expr.specs.Expressions.{expr_size, expr_code}
use Rattle.py_code.specs.declared.instr.Instr.TheVariants.{IfTrue}
use Rattle.py_compile.specs.Statements.{assert_size, assert_code}
use Rattle.py_compile_body.proofs.Rows.{asserted}
use Rattle.py_compile_body.proofs.simple.put_assert.Goals as goal

pub returns-clause-cells : goal.returns-clause-cells
returns-clause-cells c =
    let g = plain_guard c.args.ways.guard in
    let e = plain_expr c.args.test.now in
    let why = option_map plain_expr c.args.why.now in
    let fails = c.in_ok-at-2.ensures.place ∙ ap (λ n. n + 1) c.in_ok-at.ensures.place in
    let end = c.in_ok-end.ensures ∙ ap (λ n. c.in_ok-at.at + 1 + n) c.in_ok-size.ensures ∙ ap (λ n. n + 1 + assert_size why) c.in_ok-at.ensures.place in
    three c.put_failure.result _ _ _ _ _ _ _ _ c.in_ok-at.ensures.cells c.in_ok-at-2.ensures.cells c.put_failure.ensures.cells
    (ap (λ n. put g (marks c.args.line) (expr_code g (c.args.at + 1) e ++ put g (plain (IfTrue n)) (assert_code g (c.args.at + 1 + expr_size e + 1) why))) (sym end)
    ∙ ap (λ n. put g (marks c.args.line) (expr_code g (c.args.at + 1) e ++ put g (plain (IfTrue c.in_ok-end.end)) (assert_code g n why))) (sym fails))

pub returns-clause-place : goal.returns-clause-place
returns-clause-place c = the_number c.put_failure.result _ _ c.put_failure.ensures.place (asserted _ _ _ _ _ c.in_ok-at.ensures.place c.in_ok-at-2.ensures.place)
