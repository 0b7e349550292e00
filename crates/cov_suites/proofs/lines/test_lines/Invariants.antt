use Rattle.std.proofs.Common.{◌≡◌, ◌++◌, drop, string_bytes}
use Rattle.std.specs.List.{flat_map}
use Rattle.cov_step.specs.Testing.{test_line}
use Rattle.cov_suites.specs.Views.{results_view}
use Rattle.cov_suites.proofs.lines.test_lines.Given as goal

abbrev pub invariant-loop-test : goal.invariant-loop-test
invariant-loop-test l = string_bytes l.text ++ flat_map test_line (results_view (drop l.test-index l.tests)) ≡ flat_map test_line (results_view l.tests)
