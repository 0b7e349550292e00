use Rattle.py_instructions.specs.Operands.{plain_operand}
use Rattle.py_instructions.proofs.Taken.{taken}
use Rattle.py_instructions.proofs.operands.Stack+Operand.take_operand.Goals as goal

pub returns : goal.returns
returns c = taken plain_operand c.args.self.now c.remove.new.self c.args.below c.remove.result c.remove.ensures
