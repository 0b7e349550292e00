use Rattle.std.proofs.Common.{◌≡◌, ◌≤◌, ◌+◌, ◌*◌, drop, map}
use Rattle.py_value.specs.View.{plains}
use Rattle.py_value.specs.HeapView.{plain_heap}
use Rattle.py_value.specs.Pairs.{plain_pair}
use Rattle.py_value.specs.Heaps.{dict_pairs}
use Rattle.py_value.specs.Comparison.{equal_within, are_equal_items, are_equal_pairs}
use Rattle.py_value.proofs.equality.+equal.Given as goal

abbrev pub decreases-equal : goal.decreases-equal
decreases-equal l = 4 * l.levels

abbrev pub decreases-equal_inside : goal.decreases-equal_inside
decreases-equal_inside l = 4 * l.levels + 3

abbrev pub decreases-equal_dicts : goal.decreases-equal_dicts
decreases-equal_dicts l = 4 * l.levels + 2

abbrev pub decreases-equal_pairs : goal.decreases-equal_pairs
decreases-equal_pairs l = 4 * l.levels + 1

abbrev pub decreases-equal_items : goal.decreases-equal_items
decreases-equal_items l = 4 * l.levels + 1

abbrev pub decreases-equal_arguments : goal.decreases-equal_arguments
decreases-equal_arguments l = 4 * l.levels + 1

abbrev pub invariant-equal_items-loop-i : goal.invariant-equal_items-loop-i
invariant-equal_items-loop-i l = record {
  answer : are_equal_items (equal_within l.levels (plain_heap l.heap)) (plains (drop l.i l.left)) (plains (drop l.i l.right))
      ≡ are_equal_items (equal_within l.levels (plain_heap l.heap)) (plains l.left) (plains l.right);
  counted : l.remaining ≤ l.fn.remaining;
}

abbrev pub invariant-equal_pairs-loop-i : goal.invariant-equal_pairs-loop-i
invariant-equal_pairs-loop-i l = record {
  answer : are_equal_pairs (equal_within l.levels (plain_heap l.heap)) (map plain_pair (drop l.i l.left)) (dict_pairs (plain_heap l.heap) l.right.place)
      ≡ are_equal_pairs (equal_within l.levels (plain_heap l.heap)) (map plain_pair l.left) (dict_pairs (plain_heap l.heap) l.right.place);
  counted : l.remaining ≤ l.fn.remaining;
}
