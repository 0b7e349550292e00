use Rattle.std.proofs.Common.{◌≡◌, ◌++◌, map, drop}
use Rattle.py_value.specs.View.{plains}
use Rattle.py_builtins.specs.Methods.{each_after, characters_in}
use Rattle.py_builtins.proofs.text_methods.with_rest.Given as goal

abbrev pub invariant-loop-item : goal.invariant-loop-item
invariant-loop-item l = l.text ++ each_after l.between (map characters_in (plains (drop l.item-index l.items))) ≡ l.fn.first ++ each_after l.between (map characters_in (plains l.items))
