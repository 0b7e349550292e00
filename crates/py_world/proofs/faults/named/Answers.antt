use Rattle.std.proofs.Common.{ap, ◌∙◌}
use Rattle.py_builtins.specs.Faults.{fault}
use Rattle.py_world.proofs.faults.named.Goals as goal

pub returns : goal.returns
returns c = c.in_ok-fault.ensures ∙ ap (fault c.args.kind) c.in_ok-text.ensures
