use Rattle.std.proofs.Common.{◌≡◌, Some, length, refl, sym, ap, ◌∙◌, subst, arith}
use Rattle.std.specs.Prelude.{slice_get}
use Rattle.std.proofs.lemmas.Option.{slice_get_read, same_Some}
use Rattle.py_value.specs.View.{plain}
use Rattle.py_builtins.specs.World.{World, with_name}
use Rattle.py_world.specs.Numbered.{global_names}
use Rattle.py_world.specs.Stores.{world_of}
use Rattle.py_world.proofs.OfModules.{changed_here}
use Rattle.py_world.proofs.store.Store.set_known.Goals as goal

pub returns : goal.returns
returns c =
    let gs = c.args.self.now.globals.items in
    let m = c.args.code.module in
    let same : c.index.result.now ≡ c.index_mut.result.now = same_Some c.index.result.now c.index_mut.result.now (sym (slice_get_read gs (length gs) m c.index.result.now refl (omega arith) c.index.ensures) ∙ slice_get_read gs (length gs) m c.index_mut.result.now refl (omega arith) c.index_mut.ensures.value) in
    ap (λ gs. let w : World = record (world_of c.args.self.now) { globals = gs } in w)
    (changed_here c.args.code.module c.args.self.now.globals.items c.index_mut.result.now c.set_again.new.self (with_name c.args.name.now (plain c.args.value)) (omega arith) c.index_mut.ensures.value
    (c.set_again.ensures c.args.name.now (subst (λ g. slice_get (global_names g.items.items) c.in-Some.number ≡ Some c.args.name.now) same (c.is_known.ensures c.if-not-is_known.false).0)))
