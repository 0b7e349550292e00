use Rattle.std.proofs.Common.{◌≡◌, drop}
use Rattle.py_scope.specs.Patterns.{repeats_in, has_repeats}
use Rattle.py_scope.proofs.lists.has_repeats.Given as goal

abbrev pub invariant-loop-name : goal.invariant-loop-name
invariant-loop-name l = repeats_in l.before (drop l.name-index l.names) ≡ has_repeats l.names
