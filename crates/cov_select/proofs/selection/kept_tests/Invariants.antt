use Rattle.std.proofs.Common.{◌≡◌, ◌&&◌, ℕ, List, not, drop}
use Rattle.cov_select.specs.Selected.{has_line, has_name, is_selected}
use Rattle.cov_select.proofs.selection.kept_tests.Given as goal

abbrev pub invariant-loop-test : goal.invariant-loop-test
invariant-loop-test l = (name : List ℕ) → (not (has_name l.kept name) && is_selected (drop l.test-index l.tests) (has_line l.lines) name) ≡ is_selected l.tests (has_line l.lines) name
