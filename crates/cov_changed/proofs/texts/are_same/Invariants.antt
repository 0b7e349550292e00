use Rattle.std.proofs.Common.{◌≡◌, ◌&&◌, drop, length}
use Rattle.py_changes.specs.Same.{same_texts}
use Rattle.cov_changed.proofs.texts.are_same.Given as goal

abbrev pub invariant-loop-i : goal.invariant-loop-i
invariant-loop-i l = (length l.xs ≡ length l.ys) × ((l.all && same_texts (drop l.i l.xs) (drop l.i l.ys)) ≡ same_texts l.xs l.ys)
