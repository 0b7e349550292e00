use Rattle.std.proofs.Common.{map, refl}
use Rattle.py_world.specs.Globals.{names_of}
use Rattle.py_world.proofs.Copied.{made_more, made_all}
use Rattle.py_world.proofs.store.copy_globals.Goals as goal

pub loop-names-preserved : goal.loop-names-preserved
loop-names-preserved c =
    made_more names_of names_of (map names_of) (λ y ys. refl) c.args.globals.now c.loop-names.names-index c.names-item.result c.loop-names.copies.items c.push.new.self.items c.in_ok-copy.field-0 _ c.loop-names-test.true c.names-item.is c.in_ok-push.ensures.items c.in_ok-copy.ensures c.loop-names.invariant

pub returns : goal.returns
returns c = made_all names_of names_of (map names_of) refl c.args.globals.now c.loop-names.names-index c.loop-names.copies.items _ c.loop-names-test.false c.loop-names.invariant
