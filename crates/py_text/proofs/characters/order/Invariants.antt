use Rattle.std.proofs.Common.{◌≡◌, length}
use Rattle.std.specs.Str.{chars, IsUtf8}
use Rattle.std.specs.Str.Iter.{chars_rest}
use Rattle.py_text.specs.Comparison.{order_of_texts}
use Rattle.py_text.proofs.characters.order.Given as goal

abbrev pub invariant-loop-theirs : goal.invariant-loop-theirs
invariant-loop-theirs l =
    (order_of_texts (chars (chars_rest l.ours)) (chars (chars_rest l.theirs)) ≡ order_of_texts (chars l.left) (chars l.right))
    × IsUtf8 (chars_rest l.ours) × IsUtf8 (chars_rest l.theirs)

abbrev pub decreases-loop-theirs : goal.decreases-loop-theirs
decreases-loop-theirs l = length (chars_rest l.ours)
