use Rattle.std.proofs.Common.{◌≡◌, drop}
use Rattle.py_value.specs.View.{plains}
use Rattle.py_builtins.specs.Methods.{are_texts}
use Rattle.py_builtins.proofs.text_methods.are_texts.Given as goal

abbrev pub invariant-loop-item : goal.invariant-loop-item
invariant-loop-item l = are_texts (plains (drop l.item-index l.items)) ≡ are_texts (plains l.items)
