use Rattle.std.proofs.Common.{ap, ◌∙◌}
use Rattle.py_value.specs.declared.exception.ExcKind.TheVariants.{ImportError}
use Rattle.py_builtins.specs.Faults.{fault}
use Rattle.py_world.proofs.Spelled.{import_text}
use Rattle.py_world.proofs.faults.no_import.Goals as goal

pub returns : goal.returns
returns c =
    c.in_ok-fault.ensures ∙ ap (fault ImportError) (import_text c.args.name.now c.args.«module».now c.in_ok-text.text c.append.new.self c.push_str.new.self c.in_ok-text.ensures c.in_ok-append.ensures.ok c.in_ok-push_str.ensures.ok)
