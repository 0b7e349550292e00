use Rattle.std.proofs.Common.{◌≡◌, ◌++◌, drop}
use Rattle.py_syntax.specs.View.{plain_patterns}
use Rattle.py_syntax.specs.Names.{patterns_names}
use Rattle.py_scope.proofs.patterns.+names.Given as goal

abbrev pub invariant-push_all_names-loop-pattern : goal.invariant-push_all_names-loop-pattern
invariant-push_all_names-loop-pattern l = l.names.items ++ patterns_names (plain_patterns (drop l.pattern-index l.patterns)) ≡ l.initial.names.items ++ patterns_names (plain_patterns l.patterns)
