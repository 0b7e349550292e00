use Rattle.std.proofs.Common.{refl, []}
use Rattle.py_value.specs.View.{plain, plains}
use Rattle.py_value.proofs.Lists.{at_end, at_step}
use Rattle.py_value.proofs.value.copy_all.Goals as goal

pub returns : goal.returns
returns c = at_end plains refl (plains c.loop-value.copies.items) [] c.args.values.now c.loop-value.value-index c.loop-value-test.false c.loop-value.invariant

pub loop-value-preserved : goal.loop-value-preserved
loop-value-preserved c =
    at_step plain c.loop-value.copies.items c.push.new.self.items c.in_ok-copy.copy c.args.values.now c.value-item.result c.loop-value.value-index (plains c.args.values.now) c.in_ok-push.ensures.items
    c.in_ok-copy.ensures c.loop-value-test.true c.value-item.is c.loop-value.invariant
