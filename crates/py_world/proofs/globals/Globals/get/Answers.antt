use Rattle.std.proofs.Common.{◌≡◌, None, Some, ap, sym, ◌∙◌, subst, map}
use Rattle.std.specs.Prelude.{MatchOption, slice_get, Option}
use Rattle.py_value.specs.Plain.{PlainValue}
use Rattle.py_value.specs.View.{plain}
use Rattle.py_world.specs.Numbered.{HasNoNumber, global_names, plain_global, value_in}
use Rattle.py_world.proofs.SetAt.{value_nowhere, value_numbered}
use Rattle.py_world.proofs.globals.Globals.get.Goals as goal

pub returns-in-None : goal.returns-in-None
returns-in-None c =
    let g = c.args.self.now in
    value_nowhere g.items.items g.order.items g.own_names g.listed c.args.name.now (subst (λ gs. HasNoNumber c.args.name.now (global_names gs)) c.deref.ensures.value c.in-None.ensures)

pub returns-in-Some : goal.returns-in-Some
returns-in-Some c =
    let g = c.args.self.now in
    let n = c.in-Some.number in
    let at = subst (λ gs. slice_get (global_names gs) n ≡ Some c.args.name.now) c.deref.ensures.value c.in-Some.ensures in
    subst (λ (o : Option PlainValue). MatchOption c.value_at.result (o ≡ None) (λ v. o ≡ Some (plain v.now)))
    (ap (λ gs. value_in (slice_get (map plain_global gs) n)) c.deref-in-Some.ensures.value ∙ sym (value_numbered g.items.items g.order.items g.own_names g.listed n c.args.name.now at))
    c.value_at.ensures
