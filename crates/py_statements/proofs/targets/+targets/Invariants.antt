use Rattle.std.proofs.Common.{◌≡◌, drop}
use Rattle.py_syntax.specs.Normal.{are_targets}
use Rattle.py_syntax.specs.View.{plain_exprs}
use Rattle.py_statements.proofs.targets.+targets.Given as goal

abbrev pub invariant-are_targets-loop-item : goal.invariant-are_targets-loop-item
invariant-are_targets-loop-item l = are_targets (plain_exprs (drop l.item-index l.items)) ≡ are_targets (plain_exprs l.items)
