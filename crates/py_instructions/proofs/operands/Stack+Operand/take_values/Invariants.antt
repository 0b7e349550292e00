use Rattle.std.proofs.Common.{◌≡◌, ◌-◌, ◌≤◌, length, map, take, drop}
use Rattle.py_value.specs.View.{plains}
use Rattle.py_code.specs.Operands.{value_in}
use Rattle.py_instructions.specs.View.{plain_operands}
use Rattle.py_instructions.proofs.operands.Stack+Operand.take_values.Given as goal

abbrev pub invariant-loop-self : goal.invariant-loop-self
invariant-loop-self l = record {
  count : length l.values.items ≤ l.n;
  rest : l.self ≡ drop (length l.values.items) l.fn.self;
  front : plains l.values.items ≡ map value_in (take (length l.values.items) (plain_operands l.fn.self));
}

abbrev pub decreases-loop-self : goal.decreases-loop-self
decreases-loop-self l = l.n - length l.values.items
