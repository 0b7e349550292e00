use Rattle.std.proofs.Common.{◌≡◌, ◌≤◌, ◌+◌, nat_le, map, drop}
use Rattle.py_value.specs.View.{plains}
use Rattle.py_value.specs.Sequences.{most_items}
use Rattle.py_builtins.specs.Methods.{each_length, characters_in}
use Rattle.py_builtins.proofs.text_methods.fit_after.Given as goal

abbrev pub invariant-loop-item : goal.invariant-loop-item
invariant-loop-item l =
    (nat_le (l.total + each_length l.between (map characters_in (plains (drop l.item-index l.items)))) most_items ≡ nat_le (l.start + each_length l.between (map characters_in (plains l.items))) most_items) × (l.total ≤ most_items)
