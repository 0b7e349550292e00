use Rattle.std.proofs.Common.{◌≡◌, ◌+◌, true, sym, ap, ◌∙◌, arith}
use Rattle.std.specs.Option.{option_map}
use Rattle.py_syntax.specs.View.{plain_expr, plain_suite}
use Rattle.py_compile.specs.Statements.{caught_size}
use Rattle.py_compile.specs.Ways.{in_finally}
use Rattle.py_compile_body.specs.Parts.{suite_size, clause_begin, clause_next, clause_ways}
use Rattle.py_compile_body.specs.WaysView.{plain_ways}
use Rattle.py_compile_body.proofs.places.clause_places.Goals as goal

pub returns-in_ok-next-in-None-clause-next : goal.returns-in_ok-next-in-None-clause-next
returns-in_ok-next-in-None-clause-next c =
    let k = option_map plain_expr c.args.kind.now in
    let s = plain_suite c.args.body.now in
    let one = c.in_ok-first.ensures _ c.caught_size.ensures in
    let two = c.in_ok-next-in-None.ensures _ c.suite_size.ensures in
    let e : c.in_ok-next-in-None.next ≡ c.args.at + 1 + caught_size k + suite_size true s + 2 = omega (arith, one, two) in
    e ∙ sym (ap (λ x. clause_next c.args.at k x s) c.in-None.is)

pub returns-in_ok-next-in-None-clause-inside : goal.returns-in_ok-next-in-None-clause-inside
returns-in_ok-next-in-None-clause-inside c =
    let k = option_map plain_expr c.args.kind.now in
    sym (ap (λ x. clause_ways x (plain_ways c.args.inside) (clause_begin c.args.at k x + suite_size true (plain_suite c.args.body.now) + 1)) c.in-None.is)

pub returns-in_ok-next-in-Some-clause-next : goal.returns-in_ok-next-in-Some-clause-next
returns-in_ok-next-in-Some-clause-next c =
    let k = option_map plain_expr c.args.kind.now in
    let s = plain_suite c.args.body.now in
    let one = c.in_ok-first.ensures _ c.caught_size.ensures in
    let two = c.in_ok-release-in-Some.ensures _ c.suite_size-in-Some.ensures in
    let last = c.in_ok-next-in-Some.ensures in
    let e : c.in_ok-next-in-Some.next ≡ c.args.at + 1 + caught_size k + 2 + suite_size true s + 1 + 7 = omega (arith, one, two, last) in
    e ∙ sym (ap (λ x. clause_next c.args.at k x s) c.in-Some.is)

pub returns-in_ok-next-in-Some-clause-inside : goal.returns-in_ok-next-in-Some-clause-inside
returns-in_ok-next-in-Some-clause-inside c =
    let k = option_map plain_expr c.args.kind.now in
    let s = plain_suite c.args.body.now in
    let one = c.in_ok-first.ensures _ c.caught_size.ensures in
    let two = c.in_ok-release-in-Some.ensures _ c.suite_size-in-Some.ensures in
    let e : c.in_ok-release-in-Some.release ≡ c.args.at + 1 + caught_size k + 2 + suite_size true s + 1 = omega (arith, one, two) in
    c.in_finally.ensures ∙ ap (in_finally (plain_ways c.args.inside)) e
    ∙ sym (ap (λ x. clause_ways x (plain_ways c.args.inside) (clause_begin c.args.at k x + suite_size true s + 1)) c.in-Some.is)
