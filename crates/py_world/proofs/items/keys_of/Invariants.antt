use Rattle.std.proofs.Common.{◌≡◌, ◌++◌, drop}
use Rattle.py_value.specs.View.{plains}
use Rattle.py_value.specs.HeapView.{plain_heap}
use Rattle.py_value.specs.Heaps.{dict_keys}
use Rattle.py_world.proofs.items.keys_of.Given as goal

abbrev pub invariant-loop-at : goal.invariant-loop-at
invariant-loop-at l = plains l.keys.items ++ drop l.at (dict_keys (plain_heap l.heap) l.dict.place) ≡ dict_keys (plain_heap l.heap) l.dict.place
