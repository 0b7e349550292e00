use Rattle.std.proofs.Common.{◌≡◌, ◌++◌, drop}
use Rattle.py_syntax.specs.View.{plain_aliases}
use Rattle.py_scope.specs.Occurrences.{in_aliases}
use Rattle.py_scope.proofs.occurrences.aliases.Given as goal

abbrev pub invariant-loop-alias : goal.invariant-loop-alias
invariant-loop-alias l = l.out.items ++ in_aliases (plain_aliases (drop l.alias-index l.names)) ≡ l.initial.out.items ++ in_aliases (plain_aliases l.names)
