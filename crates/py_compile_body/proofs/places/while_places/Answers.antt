use Rattle.std.proofs.Common.{ap, arith}
use Rattle.py_syntax.specs.View.{plain_suite, plain_opt_suite}
use Rattle.py_compile.specs.Statements.{opt_size}
use Rattle.py_compile_body.specs.Parts.{suite_size}
use Rattle.py_compile_body.specs.WaysView.{plain_ways}
use Rattle.py_compile_body.proofs.Compounds.{looped}
use Rattle.py_compile_body.proofs.places.while_places.Goals as goal

pub returns-clause-rest : goal.returns-clause-rest
returns-clause-rest c =
    let one = c.in_ok-again.ensures in
    let two = c.in_ok-begin.ensures _ c.expr_size.ensures in
    let three = c.in_ok-back.ensures _ c.suite_size.ensures in
    let hand = ap (λ h. suite_size h (plain_suite c.args.body.now)) c.in_hand-handled.ensures in
    let last = c.in_ok-rest.ensures in
    omega (arith, one, two, three, hand, last)

pub returns-clause-inside : goal.returns-clause-inside
returns-clause-inside c =
    let one = c.in_ok-again.ensures in
    let two = c.in_ok-begin.ensures _ c.expr_size.ensures in
    let three = c.in_ok-back.ensures _ c.suite_size.ensures in
    let hand = ap (λ h. suite_size h (plain_suite c.args.body.now)) c.in_hand-handled.ensures in
    let last = c.in_ok-end.ensures _ c.opt_size.ensures in
    let other = ap (λ h. opt_size h (plain_opt_suite c.args.orelse.now)) c.in_hand-handled.ensures in
    looped _ (plain_ways c.args.ways) 0 c.in_ok-end.end c.in_ok-back.back _ _ c.in_loop.ensures (omega (arith, last, other)) (omega (arith, one, two, three, hand))
