use Rattle.std.proofs.Common.{◌≡◌, ◌≤◌, max, min, drop}
use Rattle.py_value.specs.Shared.{plains}
use Rattle.py_value.specs.Plain.{packed, most_nested, nesting_of_items}
use Rattle.py_value.proofs.shared.depth_of.Given as goal

abbrev pub invariant-loop-item : goal.invariant-loop-item
invariant-loop-item l = (min most_nested (max l.depth (nesting_of_items (packed (plains (drop l.item-index l.items))))) ≡ min most_nested (nesting_of_items (packed (plains l.items)))) × (l.depth ≤ most_nested)
