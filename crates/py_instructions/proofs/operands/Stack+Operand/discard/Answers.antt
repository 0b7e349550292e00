use Rattle.py_instructions.specs.Operands.{plain_operand}
use Rattle.py_instructions.proofs.Taken.{discarded}
use Rattle.py_instructions.proofs.operands.Stack+Operand.discard.Goals as goal

pub returns-then-n-count : goal.returns-then-n-count
returns-then-n-count c = discarded plain_operand c.args.self.now c.keep.new.self c.args.n c.len-count.result c.len-count.ensures c.if-n-count.true c.keep.ensures
