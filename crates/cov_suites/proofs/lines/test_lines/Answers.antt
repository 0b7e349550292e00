use Rattle.std.proofs.Common.{◌≡◌, ◌∙◌, add-one, get_or, rules, string_bytes}
use Rattle.cov_suites.proofs.Writing.{tests-step, tests-end}
use Rattle.cov_suites.proofs.lines.test_lines.Goals as goal

pub loop-test-preserved : goal.loop-test-preserved
loop-test-preserved c =
    let item : c.test-item.result ≡ get_or c.args.tests.now c.loop-test.test-index c.test-item.result = search (rules, c.test-item.is) in
    rw (add-one c.loop-test.test-index)
    (tests-step c.args.tests.now c.loop-test.test-index c.test-item.result _ _ _ c.loop-test-test.true item (c.as_str.ensures.value ∙ c.in_ok-line.ensures) c.in_ok-push_str.ensures.bytes c.loop-test.invariant)

pub returns : goal.returns
returns c = tests-end c.args.tests.now c.loop-test.test-index (string_bytes c.loop-test.text) c.loop-test-test.false c.loop-test.invariant
