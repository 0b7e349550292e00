use Rattle.std.proofs.Common.{◌≡◌, ◌++◌, length, map}
use Rattle.py_value.specs.View.{plains}
use Rattle.py_code.specs.Configurations.{of_value}
use Rattle.py_instructions.specs.View.{plain_operands}
use Rattle.py_instructions.proofs.operands.Stack+Operand.spread.Given as goal

abbrev pub invariant-loop-value : goal.invariant-loop-value
invariant-loop-value l = map of_value (plains l.rest.items) ++ plain_operands l.self ≡ map of_value (plains l.fn.values.items) ++ plain_operands l.fn.self

abbrev pub decreases-loop-value : goal.decreases-loop-value
decreases-loop-value l = length l.rest.items
