use Rattle.std.proofs.Common.{Err, refl, ap, ◌∙◌}
use Rattle.py_value.specs.declared.exception.ExcKind.TheVariants.{AttributeError}
use Rattle.py_value.specs.Plain.{PlainRaised, str_value}
use Rattle.py_builtins.specs.Arguments.{Answer}
use Rattle.py_builtins.proofs.Attributes.{attribute-made}
use Rattle.py_builtins.proofs.methods.lack.Goals as goal

pub returns : goal.returns
returns c =
    λ h answer e. ap (λ (x : PlainRaised). let r : Answer = Err x in r)
    (ap (λ a. let r : PlainRaised = record { kind = AttributeError; arg = a } in r) c.in_ok-arg.ensures
    ∙ attribute-made c.args.which (str_value c.in_ok-text.text) c.in_ok-text.text c.absent_text.result.now refl c.in_ok-text.ensures c.absent_text.ensures)
    ∙ e
