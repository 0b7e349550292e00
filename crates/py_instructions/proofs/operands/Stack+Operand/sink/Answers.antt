use Rattle.std.proofs.lemmas.Grind.{common_steps}
use Rattle.std.proofs.Common.{arith}
use Rattle.py_instructions.specs.Operands.{plain_operand}
use Rattle.py_instructions.proofs.Taken.{inserted}
use Rattle.py_instructions.proofs.operands.Stack+Operand.sink.Goals as goal

pub returns-in_ok-insert : goal.returns-in_ok-insert
returns-in_ok-insert c = inserted plain_operand c.args.self.now c.insert.new.self c.args.n c.args.x (omega (arith, c.len.ensures, c.if-n-len.true)) c.in_ok-insert.ensures.ok

pub returns-else-n-len : goal.returns-else-n-len
returns-else-n-len c = grind (arith, common_steps)
