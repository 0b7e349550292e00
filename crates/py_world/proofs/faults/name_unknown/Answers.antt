use Rattle.std.proofs.Common.{ap, ◌∙◌}
use Rattle.py_value.specs.declared.exception.ExcKind.TheVariants.{NameError}
use Rattle.py_builtins.specs.Faults.{fault}
use Rattle.py_world.proofs.Spelled.{framed_unknown}
use Rattle.py_world.proofs.faults.name_unknown.Goals as goal

pub returns : goal.returns
returns c = c.in_ok-named.ensures ∙ ap (fault NameError) (framed_unknown c.args.name.now)
