use Rattle.std.proofs.Common.{◌≡◌, drop}
use Rattle.py_value.specs.View.{plains}
use Rattle.py_value.specs.Plain.{packed}
use Rattle.py_value.specs.Hashes.{hash_of_items}
use Rattle.py_value.proofs.hash.hash_of_items.Given as goal

abbrev pub invariant-loop-item : goal.invariant-loop-item
invariant-loop-item l = hash_of_items l.hash (packed (plains (drop l.item-index l.items))) ≡ hash_of_items 1 (packed (plains l.items))
