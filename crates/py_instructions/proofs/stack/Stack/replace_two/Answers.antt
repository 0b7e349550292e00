use Rattle.std.proofs.Common.{◌-◌, ap, ◌∙◌, arith}
use Rattle.std.specs.Prelude.{reverse}
use Rattle.py_instructions.proofs.Replaced.{replaced}
use Rattle.py_instructions.proofs.stack.Stack.replace_two.Goals as goal

pub returns-then-count-ge2 : goal.returns-then-count-ge2
returns-then-count-ge2 g c = λ z y rest e.
    ap reverse c.truncate.ensures.items
    ∙ replaced c.self.inside.items.items c.args.x z y rest (c.len-count.result - 1) (c.len-count.result - 2) (c.self.view_is ∙ e) (omega (arith, c.len-count.ensures)) (omega (arith, c.len-count.ensures))
