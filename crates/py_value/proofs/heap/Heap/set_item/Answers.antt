use Rattle.std.proofs.lemmas.Grind.{common_steps}
use Rattle.std.proofs.Common.{◌<◌, length, arith}
use Rattle.std.specs.List.{slice_set}
use Rattle.py_value.specs.View.{plain}
use Rattle.py_value.specs.Heaps.{with_items}
use Rattle.py_value.proofs.Changes.{changed}
use Rattle.py_value.proofs.heap.Heap.set_item.Goals as goal

pub returns-then-list-len : goal.returns-then-list-len
returns-then-list-len c =
    let inside : c.args.list.place < length c.args.self.now.objects.items = omega arith in
    changed (with_items (λ vs. slice_set vs c.args.at (plain c.args.value))) c.args.self.now.objects.items c.args.list.place c.index_mut.result.now c.set_item.new.self inside c.index_mut.ensures.value c.set_item.ensures

pub returns-else-list-len : goal.returns-else-list-len
returns-else-list-len c = grind (arith, common_steps)
