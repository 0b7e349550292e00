use Rattle.std.proofs.Common.{ap, ◌∙◌}
use Rattle.std.specs.Prelude.{reverse}
use Rattle.py_instructions.proofs.Reversed.{kept}
use Rattle.py_instructions.proofs.stack.Stack.keep.Goals as goal

pub returns : goal.returns
returns g c = rw (← c.self.view_is) (ap reverse c.truncate.ensures.items ∙ kept c.args.n c.self.inside.items.items)
