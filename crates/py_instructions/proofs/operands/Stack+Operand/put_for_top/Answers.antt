use Rattle.py_instructions.proofs.AtOnce.{put_over}
use Rattle.py_instructions.proofs.operands.Stack+Operand.put_for_top.Goals as goal

pub returns : goal.returns
returns c = λ x rest e. put_over c.args.self.now c.replace_top.new.self c.args.value x rest e c.replace_top.ensures
