use Rattle.std.proofs.Common.{◌≡◌, ◌+◌, ◌*◌, drop}
use Rattle.py_value.specs.Plain.{packed}
use Rattle.py_value.specs.View.{plain, plains}
use Rattle.py_value.specs.Shared.{size_of_value, size_of_values}
use Rattle.py_value.specs.Keys.{are_same_keys}
use Rattle.py_value.proofs.key.+is_same_key.Given as goal

abbrev pub decreases-is_same_key : goal.decreases-is_same_key
decreases-is_same_key l = 2 * size_of_value (plain l.left.now) + 1

abbrev pub decreases-are_same_keys : goal.decreases-are_same_keys
decreases-are_same_keys l = 2 * size_of_values (packed (plains l.left.now))

abbrev pub invariant-are_same_keys-loop-i : goal.invariant-are_same_keys-loop-i
invariant-are_same_keys-loop-i l =
    are_same_keys (packed (plains (drop l.i l.left))) (packed (plains (drop l.i l.right))) ≡ are_same_keys (packed (plains l.left)) (packed (plains l.right))
