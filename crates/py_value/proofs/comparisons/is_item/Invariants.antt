use Rattle.std.proofs.Common.{◌≡◌, drop}
use Rattle.py_value.specs.View.{plain, plains}
use Rattle.py_value.specs.HeapView.{plain_heap}
use Rattle.py_value.specs.Comparison.{equal_within, is_item, most_levels}
use Rattle.py_value.proofs.comparisons.is_item.Given as goal

abbrev pub invariant-loop-item : goal.invariant-loop-item
invariant-loop-item l =
    is_item (equal_within most_levels (plain_heap l.heap)) (plain l.value) (plains (drop l.item-index l.items)) ≡ is_item (equal_within most_levels (plain_heap l.heap)) (plain l.value) (plains l.items)
