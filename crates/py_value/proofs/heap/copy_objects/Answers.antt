use Rattle.std.proofs.Common.{refl, []}
use Rattle.py_value.specs.Objects.{plain_object, plain_objects}
use Rattle.py_value.proofs.Lists.{at_end, at_step}
use Rattle.py_value.proofs.heap.copy_objects.Goals as goal

pub returns : goal.returns
returns c = at_end plain_objects refl (plain_objects c.loop-object.copies.items) [] c.args.objects.now c.loop-object.object-index c.loop-object-test.false c.loop-object.invariant

pub loop-object-preserved : goal.loop-object-preserved
loop-object-preserved c =
    at_step plain_object c.loop-object.copies.items c.push.new.self.items _ c.args.objects.now c.object-item.result c.loop-object.object-index (plain_objects c.args.objects.now) c.in_ok-push.ensures.items
    c.in_ok-copy.ensures c.loop-object-test.true c.object-item.is c.loop-object.invariant
