use Rattle.std.proofs.Common.{ap, ◌∙◌}
use Rattle.py_value.specs.declared.exception.ExcKind.TheVariants.{UnboundLocalError}
use Rattle.py_builtins.specs.Faults.{fault}
use Rattle.py_world.proofs.Spelled.{framed_unset}
use Rattle.py_world.proofs.faults.local_unset.Goals as goal

pub returns : goal.returns
returns c = c.in_ok-named.ensures ∙ ap (fault UnboundLocalError) (framed_unset c.args.name.now)
