use Rattle.std.proofs.Common.{◌≡◌, ◌++◌, drop}
use Rattle.py_syntax.specs.View.{plain_exprs}
use Rattle.py_scope.specs.Occurrences.{in_targets}
use Rattle.py_scope.proofs.occurrences.+target.Given as goal

abbrev pub invariant-targets-loop-e : goal.invariant-targets-loop-e
invariant-targets-loop-e l = l.out.items ++ in_targets (plain_exprs (drop l.e-index l.items)) ≡ l.initial.out.items ++ in_targets (plain_exprs l.items)
