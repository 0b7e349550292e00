use Rattle.py_instructions.proofs.AtOnce.{put_under}
use Rattle.py_instructions.proofs.operands.Stack+Operand.put_for_two.Goals as goal

pub returns : goal.returns
returns c = λ y x rest e. put_under c.args.self.now c.replace_two.new.self c.args.value y x rest e c.replace_two.ensures
