use Rattle.std.proofs.Common.{◌≡◌, ◌&&◌, drop, length}
use Rattle.py_syntax.specs.View.{plain_stmts}
use Rattle.py_changes.specs.Changed.{same_silent}
use Rattle.cov_changed.proofs.silence.are_silent.Given as goal

abbrev pub invariant-loop-i : goal.invariant-loop-i
invariant-loop-i l = (length l.a ≡ length l.b) × ((l.all && same_silent (plain_stmts (drop l.i l.a)) (plain_stmts (drop l.i l.b))) ≡ same_silent (plain_stmts l.a) (plain_stmts l.b))
