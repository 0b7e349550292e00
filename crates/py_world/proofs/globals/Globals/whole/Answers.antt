use Rattle.std.proofs.Common.{◌≡◌, Some, map, sym, ap, ◌∙◌, subst}
use Rattle.std.specs.Prelude.{slice_get}
use Rattle.py_value.specs.View.{plain}
use Rattle.py_world.specs.Numbered.{value_in, plain_global, global_names}
use Rattle.py_world.proofs.SetAt.{value_numbered}
use Rattle.py_world.proofs.Lookups.{whole_if}
use Rattle.py_world.proofs.globals.Globals.whole.Goals as goal

pub returns-in-Some : goal.returns-in-Some
returns-in-Some c =
    let g = c.args.self.now in
    let n = c.args.number in
    let at = subst (λ gs. slice_get (global_names gs) n ≡ Some c.args.name.now) c.deref.ensures.value (c.is_at.ensures c.if-not-is_at.false) in
    whole_if c.whole_number.result (plain c.in-Some.value.now)
    (value_numbered g.items.items g.order.items g.own_names g.listed n c.args.name.now at ∙ ap (λ gs. value_in (slice_get (map plain_global gs) n)) (sym c.deref-2.ensures.value) ∙ c.in-Some.ensures)
    c.whole_number.ensures
