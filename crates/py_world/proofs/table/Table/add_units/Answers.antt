use Rattle.std.proofs.Common.{length, map, ap, refl, ◌∙◌}
use Rattle.py_world.specs.Links.{numbers_count, names_count}
use Rattle.py_world.proofs.Copied.{made_more, made_all}
use Rattle.py_world.proofs.table.Table.add_units.Goals as goal

pub loop-unit-preserved : goal.loop-unit-preserved
loop-unit-preserved c =
    made_more numbers_count names_count (map names_count) (λ y ys. refl) c.args.units.now c.loop-unit.unit-index c.unit-item.result c.loop-unit.links.items c.push.new.self.items c.in_ok-add_names.field-0 _ c.loop-unit-test.true c.unit-item.is c.in_ok-push.ensures.items (c.in_ok-add_names.ensures ∙ ap length c.deref.ensures.value) c.loop-unit.invariant

pub returns : goal.returns
returns c = made_all numbers_count names_count (map names_count) refl c.args.units.now c.loop-unit.unit-index c.loop-unit.links.items _ c.loop-unit-test.false c.loop-unit.invariant
