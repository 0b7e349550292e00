use Rattle.std.proofs.Common.{◌≡◌, ◌++◌, drop}
use Rattle.py_syntax.specs.View.{plain_patterns}
use Rattle.py_scope.specs.Occurrences.{in_patterns}
use Rattle.py_scope.proofs.occurrences.+pattern.Given as goal

abbrev pub invariant-patterns-loop-p : goal.invariant-patterns-loop-p
invariant-patterns-loop-p l = l.out.items ++ in_patterns (plain_patterns (drop l.p-index l.items)) ≡ l.initial.out.items ++ in_patterns (plain_patterns l.items)
