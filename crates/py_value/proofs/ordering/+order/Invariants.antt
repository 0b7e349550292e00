use Rattle.std.proofs.Common.{◌≡◌, ◌≤◌, ◌+◌, ◌*◌, drop}
use Rattle.py_value.specs.View.{plains}
use Rattle.py_value.specs.HeapView.{plain_heap}
use Rattle.py_value.specs.Comparison.{equal_within, order_within, order_of_items}
use Rattle.py_value.proofs.ordering.+order.Given as goal

abbrev pub decreases-order : goal.decreases-order
decreases-order l = 3 * l.levels

abbrev pub decreases-order_inside : goal.decreases-order_inside
decreases-order_inside l = 3 * l.levels + 2

abbrev pub decreases-order_items : goal.decreases-order_items
decreases-order_items l = 3 * l.levels + 1

abbrev pub invariant-order_items-loop-i : goal.invariant-order_items-loop-i
invariant-order_items-loop-i l = record {
  answer : order_of_items (equal_within l.levels (plain_heap l.heap)) (order_within l.levels (plain_heap l.heap)) (plains (drop l.i l.left)) (plains (drop l.i l.right))
      ≡ order_of_items (equal_within l.levels (plain_heap l.heap)) (order_within l.levels (plain_heap l.heap)) (plains l.left) (plains l.right);
  counted : l.remaining ≤ l.fn.remaining;
}
