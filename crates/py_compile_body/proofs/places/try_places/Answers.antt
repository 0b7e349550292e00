use Rattle.std.proofs.Common.{◌≡◌, ◌+◌, sym, ap, ◌∙◌, arith}
use Rattle.py_syntax.specs.View.{plain_suite, plain_opt_suite, plain_clauses}
use Rattle.py_compile.specs.Statements.{opt_size}
use Rattle.py_compile.specs.Ways.{in_hand}
use Rattle.py_compile_body.specs.Parts.{suite_size, handlers_size, finally_ways, tried_ways}
use Rattle.py_compile_body.specs.WaysView.{plain_ways}
use Rattle.py_compile_body.proofs.Forms.{try_end-size}
use Rattle.py_compile_body.proofs.places.try_places.Goals as goal

pub returns-clause-normal : goal.returns-clause-normal
returns-clause-normal c =
    let one = c.in_ok-normal.ensures _ c.suite_size.ensures in
    let hand = ap (λ h. suite_size h (plain_suite c.args.body.now)) c.in_hand-handled.ensures in
    omega (arith, one, hand)

pub returns-clause-end : goal.returns-clause-end
returns-clause-end c =
    let s = plain_suite c.args.body.now in
    let o = plain_opt_suite c.args.orelse.now in
    let cs = plain_clauses c.args.clauses.now in
    let one = c.in_ok-normal.ensures _ c.suite_size.ensures in
    let two = c.in_ok-jump.ensures _ c.opt_size.ensures in
    let three = c.in_ok-end.ensures _ c.handlers_size.ensures in
    let h = in_hand (plain_ways c.args.ways) in
    let hand = ap (λ b. suite_size b s + opt_size b o + handlers_size b cs) c.in_hand-handled.ensures in
    let e : c.in_ok-end.end ≡ c.args.at + 1 + suite_size h s + opt_size h o + handlers_size h cs = omega (arith, one, two, three, hand) in
    e ∙ sym (try_end-size h c.args.at s cs o)

pub returns-clause-inside : goal.returns-clause-inside
returns-clause-inside c =
    c.finally_ways-inside.ensures ∙ ap (finally_ways (plain_opt_suite c.args.finally.now) (plain_ways c.args.ways)) c.in_ok-suite.ensures

pub returns-clause-tried : goal.returns-clause-tried
returns-clause-tried c =
    let one = c.in_ok-normal.ensures _ c.suite_size.ensures in
    let two = c.in_ok-jump.ensures _ c.opt_size.ensures in
    let three = c.in_ok-begin.ensures in
    let hand = ap (λ b. suite_size b (plain_suite c.args.body.now) + opt_size b (plain_opt_suite c.args.orelse.now)) c.in_hand-handled.ensures in
    c.tried_ways-tried.ensures ∙ ap (tried_ways (plain_clauses c.args.clauses.now) (plain_ways c.finally_ways-inside.result)) (omega (arith, one, two, three, hand))
