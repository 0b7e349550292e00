use Rattle.std.proofs.Common.{◌≡◌, ◌++◌, ◌≤◌, length, map, drop}
use Rattle.py_value.specs.View.{plains}
use Rattle.py_code.specs.Configurations.{of_value}
use Rattle.py_instructions.specs.View.{plain_operands}
use Rattle.py_instructions.proofs.operands.Stack+Operand.spread_copies.Given as goal

abbrev pub invariant-loop-rest : goal.invariant-loop-rest
invariant-loop-rest l = record {
  inside : l.rest ≤ length l.values;
  spread : plain_operands l.self ≡ map of_value (plains (drop l.rest l.values)) ++ plain_operands l.fn.self;
}

abbrev pub decreases-loop-rest : goal.decreases-loop-rest
decreases-loop-rest l = l.rest
