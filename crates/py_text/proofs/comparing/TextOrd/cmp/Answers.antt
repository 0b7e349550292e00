use Rattle.std.proofs.Common.{◌∙◌}
use Rattle.py_text.proofs.TextKeys.{order_of_lists}
use Rattle.py_text.proofs.comparing.TextOrd.cmp.Goals as goal

pub returns : goal.returns
returns c = c.order.ensures ∙ order_of_lists c.args.self.now c.args.other.now
