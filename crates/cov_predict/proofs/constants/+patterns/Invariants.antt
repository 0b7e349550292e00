use Rattle.std.proofs.Common.{◌≡◌, drop}
use Rattle.py_syntax.specs.Patterns.{has_irrefutable}
use Rattle.py_syntax.specs.View.{plain_patterns}
use Rattle.cov_predict.proofs.constants.+patterns.Given as goal

abbrev pub invariant-has_irrefutable-loop-pattern : goal.invariant-has_irrefutable-loop-pattern
invariant-has_irrefutable-loop-pattern l = has_irrefutable (plain_patterns (drop l.pattern-index l.items)) ≡ has_irrefutable (plain_patterns l.items)
