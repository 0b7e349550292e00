use Rattle.std.proofs.Common.{refl, ap, ◌∙◌}
use Rattle.py_value.specs.Plain.{PlainRaised, str_value}
use Rattle.py_value.proofs.CauseLaws.{raised-made}
use Rattle.py_value.proofs.value.Raised.of.Goals as goal

pub returns-in_ok-arg-in_default : goal.returns-in_ok-arg-in_default
returns-in_ok-arg-in_default c =
    ap (λ a. let r : PlainRaised = record { kind = c.kind-kind.result; arg = a } in r) c.in_ok-arg-in_default.ensures
    ∙ raised-made c.args.cause c.kind-kind.result (str_value c.in_ok-text-in_default.text) c.in_ok-text-in_default.text c.text.result.now
    c.in_default.not-TooManyItems c.kind-kind.ensures refl c.in_ok-text-in_default.ensures c.text.ensures
