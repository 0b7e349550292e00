use Rattle.std.proofs.Common.{map, ap, refl, ◌∙◌}
use Rattle.py_world.specs.Numbered.{Named, plain_global}
use Rattle.py_world.specs.Values.{plain_option}
use Rattle.py_world.proofs.Copied.{made_more, made_all}
use Rattle.py_world.proofs.numbering.copied.Goals as goal

pub loop-global-preserved : goal.loop-global-preserved
loop-global-preserved c =
    made_more plain_global plain_global (map plain_global) (λ y ys. refl) c.args.globals.now c.loop-global.global-index c.global-item.result c.loop-global.items.items c.push.new.self.items (record { name = c.in_ok-name.name; value = c.in_ok-value.value }) _ c.loop-global-test.true c.global-item.is c.in_ok-push.ensures.items
    (ap (λ n. let p : Named = (n, plain_option c.in_ok-value.value) in p) c.in_ok-name.ensures ∙ ap (λ v. let p : Named = (c.global-item.result.name, v) in p) c.in_ok-value.ensures) c.loop-global.invariant

pub returns : goal.returns
returns c = made_all plain_global plain_global (map plain_global) refl c.args.globals.now c.loop-global.global-index c.loop-global.items.items _ c.loop-global-test.false c.loop-global.invariant
