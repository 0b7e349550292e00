use Rattle.std.proofs.Common.{ap, ◌∙◌}
use Rattle.py_value.specs.declared.exception.ExcKind.TheVariants.{AttributeError}
use Rattle.py_builtins.specs.Faults.{fault}
use Rattle.py_world.proofs.Spelled.{framed_attribute}
use Rattle.py_world.proofs.faults.no_attribute.Goals as goal

pub returns : goal.returns
returns c = c.in_ok-named.ensures ∙ ap (fault AttributeError) (framed_attribute c.args.name.now)
