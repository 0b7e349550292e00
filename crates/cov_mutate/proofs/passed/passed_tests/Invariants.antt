use Rattle.std.proofs.Common.{◌≡◌, ◌++◌, drop, map}
use Rattle.cov_mutate.specs.Code.{passed_names}
use Rattle.cov_suite.specs.Views.{test_view}
use Rattle.cov_mutate.proofs.passed.passed_tests.Given as goal

abbrev pub invariant-loop-test : goal.invariant-loop-test
invariant-loop-test l = l.names.items ++ passed_names (map test_view (drop l.test-index l.tests)) ≡ passed_names (map test_view l.tests)
