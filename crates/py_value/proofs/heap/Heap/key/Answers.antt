use Rattle.std.proofs.lemmas.Grind.{common_steps}
use Rattle.std.proofs.Common.{ap, sym, ◌∙◌, Some, arith}
use Rattle.py_value.specs.HeapView.{plain_heap}
use Rattle.py_value.specs.Heaps.{dict_pairs}
use Rattle.py_value.proofs.DistinctKeys.{key-of_dict}
use Rattle.py_value.proofs.heap.Heap.key.Goals as goal

pub returns : goal.returns
returns c =
    key-of_dict (dict_pairs (plain_heap c.args.self.now) c.args.of.place) c.pairs.result.now c.args.at c.index-pairs-at.result c.pairs.ensures c.requires ∙ ap Some (sym c.in_ok-key.ensures)

pub offset_bounds-pairs-at : goal.offset_bounds-pairs-at
offset_bounds-pairs-at c = grind (arith, common_steps)

pub bounds-pairs-at : goal.bounds-pairs-at
bounds-pairs-at c = grind (arith, common_steps)
