use Rattle.std.proofs.Common.{sym, ap, ◌∙◌}
use Rattle.std.specs.Prelude.{slice_get}
use Rattle.py_value.specs.View.{plain}
use Rattle.py_instructions.proofs.AtOnce.{global_pushed}
use Rattle.py_instructions.proofs.frame.State.global_at_once.Goals as goal

pub returns-in-Some-small : goal.returns-in-Some-small
returns-in-Some-small c =
    global_pushed c.args.unit.now c.args.self.now c.push_at_once.new.self c.args.store.now c.push_at_once.result c.args.n c.in-Some.name.now (plain c.in-Some-global_at.value.now) (plain c.in-Some-small.copy) (ap (λ xs. slice_get xs c.args.n) (sym c.deref.ensures.value) ∙ c.in-Some.ensures) c.in-Some-global_at.ensures c.in-Some-small.ensures c.push_at_once.ensures
