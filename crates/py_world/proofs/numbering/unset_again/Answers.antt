use Rattle.std.proofs.Common.{map, None, ap, refl}
use Rattle.py_world.specs.Numbered.{Named, plain_global, unset}
use Rattle.py_world.proofs.Copied.{made_more, made_all}
use Rattle.py_world.proofs.numbering.unset_again.Goals as goal

pub loop-global-preserved : goal.loop-global-preserved
loop-global-preserved c =
    made_more plain_global (λ g. unset (plain_global g)) (λ gs. map unset (map plain_global gs)) (λ y ys. refl) c.args.globals.now c.loop-global.global-index c.global-item.result c.loop-global.items.items c.push.new.self.items (record { name = c.in_ok-name.name; value = None }) _ c.loop-global-test.true c.global-item.is c.in_ok-push.ensures.items
    (ap (λ n. let p : Named = (n, None) in p) c.in_ok-name.ensures) c.loop-global.invariant

pub returns : goal.returns
returns c = made_all plain_global (λ g. unset (plain_global g)) (λ gs. map unset (map plain_global gs)) refl c.args.globals.now c.loop-global.global-index c.loop-global.items.items _ c.loop-global-test.false c.loop-global.invariant
