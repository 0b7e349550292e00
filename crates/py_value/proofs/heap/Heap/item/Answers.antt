use Rattle.std.proofs.lemmas.Grind.{common_steps}
use Rattle.std.proofs.Common.{sym, ◌∙◌, arith}
use Rattle.py_value.specs.HeapView.{plain_heap}
use Rattle.py_value.specs.Heaps.{object_at}
use Rattle.py_value.proofs.DistinctKeys.{item-of_dict}
use Rattle.py_value.proofs.heap.Heap.item.Goals as goal

pub returns-else-is_list : goal.returns-else-is_list
returns-else-is_list c =
    item-of_dict (object_at (plain_heap c.args.self.now) c.args.of.place) c.pairs.result.now c.args.at c.index-pairs-at.result (sym c.is_list.ensures ∙ c.if-is_list.false) c.pairs.ensures c.requires

pub bounds-items-at : goal.bounds-items-at
bounds-items-at c = grind (arith, common_steps)

pub offset_bounds-pairs-at : goal.offset_bounds-pairs-at
offset_bounds-pairs-at c = grind (arith, common_steps)

pub offset_bounds-items-at : goal.offset_bounds-items-at
offset_bounds-items-at c = grind (arith, common_steps)

pub bounds-pairs-at : goal.bounds-pairs-at
bounds-pairs-at c = grind (arith, common_steps)
