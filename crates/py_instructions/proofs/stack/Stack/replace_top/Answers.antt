use Rattle.std.proofs.Common.{◌-◌, ◌∙◌, arith}
use Rattle.py_instructions.proofs.Replaced.{replaced_last}
use Rattle.py_instructions.proofs.stack.Stack.replace_top.Goals as goal

pub returns-then-count-ge1 : goal.returns-then-count-ge1
returns-then-count-ge1 g c = λ y rest e. replaced_last c.self.inside.items.items c.args.x y rest (c.len-count.result - 1) (c.self.view_is ∙ e) (omega (arith, c.len-count.ensures))
