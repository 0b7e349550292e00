use Rattle.std.proofs.Common.{◌≡◌, drop}
use Rattle.py_scope.specs.Seen.{after}
use Rattle.py_scope.proofs.body.Body.take_all.Given as goal

abbrev pub invariant-loop-occurrence : goal.invariant-loop-occurrence
invariant-loop-occurrence l = after l.self (drop l.occurrence-index l.occurrences) ≡ after l.initial.self l.occurrences
