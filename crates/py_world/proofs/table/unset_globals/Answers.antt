use Rattle.std.proofs.Common.{map, None, ap, refl}
use Rattle.py_world.specs.Numbered.{plain_global, without_value}
use Rattle.py_world.proofs.Copied.{made_more, made_all}
use Rattle.py_world.proofs.table.unset_globals.Goals as goal

pub loop-name-preserved : goal.loop-name-preserved
loop-name-preserved c =
    made_more plain_global without_value (map without_value) (λ y ys. refl) c.args.names.now c.loop-name.name-index c.name-item.result c.loop-name.globals.items c.push.new.self.items (record { name = c.in_ok-name.name; value = None }) _ c.loop-name-test.true c.name-item.is c.in_ok-push.ensures.items (ap without_value c.in_ok-name.ensures) c.loop-name.invariant

pub returns : goal.returns
returns c = made_all plain_global without_value (map without_value) refl c.args.names.now c.loop-name.name-index c.loop-name.globals.items _ c.loop-name-test.false c.loop-name.invariant
