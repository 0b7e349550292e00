use Rattle.std.proofs.Common.{◌≡◌, ◌+◌, ◌*◌}
use Rattle.py_value.specs.Heaps.{dict_pairs}
use Rattle.py_value.specs.HeapView.{plain_heap}
use Rattle.py_value.specs.View.{plains}
use Rattle.py_builtins.specs.Displays.{separated, pair_display}
use Rattle.py_builtins.specs.Texts.{display_within}
use Rattle.py_builtins.specs.Writing.{whole, ◌▸◌}
use Rattle.py_builtins.proofs.Pieces.{remaining}
use Rattle.py_builtins.proofs.+display.Given as goal

abbrev pub decreases-displays::display : goal.decreases-displays::display
decreases-displays::display l = 8 * l.levels

abbrev pub decreases-displays::display_argument : goal.decreases-displays::display_argument
decreases-displays::display_argument l = 8 * l.levels + 5

abbrev pub decreases-displays::display_between : goal.decreases-displays::display_between
decreases-displays::display_between l = 8 * l.levels + 5

abbrev pub decreases-displays::display_exception : goal.decreases-displays::display_exception
decreases-displays::display_exception l = 8 * l.levels + 6

abbrev pub decreases-displays::display_inside : goal.decreases-displays::display_inside
decreases-displays::display_inside l = 8 * l.levels + 7

abbrev pub decreases-displays::display_items : goal.decreases-displays::display_items
decreases-displays::display_items l = 8 * l.levels + 4

abbrev pub decreases-displays::display_list : goal.decreases-displays::display_list
decreases-displays::display_list l = 8 * l.levels + 6

abbrev pub decreases-displays::display_tuple : goal.decreases-displays::display_tuple
decreases-displays::display_tuple l = 8 * l.levels + 6

abbrev pub decreases-pairs::display_dict : goal.decreases-pairs::display_dict
decreases-pairs::display_dict l = 8 * l.levels + 6

abbrev pub decreases-pairs::display_pair : goal.decreases-pairs::display_pair
decreases-pairs::display_pair l = 8 * l.levels + 4

abbrev pub decreases-pairs::display_pairs : goal.decreases-pairs::display_pairs
decreases-pairs::display_pairs l = 8 * l.levels + 5

abbrev pub invariant-displays::display_items-loop-i : goal.invariant-displays::display_items-loop-i
invariant-displays::display_items-loop-i l = record {
  inside : l.inside.items ≡ l.initial.inside.items;
  written :
      whole l.out.text ▸ remaining l.i (display_within l.levels (plain_heap l.heap) l.initial.inside.items) (plains l.items)
      ≡ whole l.initial.out.text ▸ separated (display_within l.levels (plain_heap l.heap) l.initial.inside.items) (plains l.items);
}

abbrev pub invariant-pairs::display_pairs-loop-i : goal.invariant-pairs::display_pairs-loop-i
invariant-pairs::display_pairs-loop-i l = record {
  inside : l.inside.items ≡ l.initial.inside.items;
  written :
      whole l.out.text ▸ remaining l.i (pair_display (display_within l.levels (plain_heap l.heap) l.initial.inside.items)) (dict_pairs (plain_heap l.heap) l.dict.place)
      ≡ whole l.initial.out.text ▸ separated (pair_display (display_within l.levels (plain_heap l.heap) l.initial.inside.items)) (dict_pairs (plain_heap l.heap) l.dict.place);
}
