use Rattle.std.proofs.Common.{ap, ◌∙◌}
use Rattle.py_value.specs.declared.exception.ExcKind.TheVariants.{ModuleNotFoundError}
use Rattle.py_builtins.specs.Faults.{fault}
use Rattle.py_world.proofs.Spelled.{framed_module}
use Rattle.py_world.proofs.faults.no_module.Goals as goal

pub returns : goal.returns
returns c = c.in_ok-named.ensures ∙ ap (fault ModuleNotFoundError) (framed_module c.args.name.now)
