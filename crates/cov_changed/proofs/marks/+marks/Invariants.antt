use Rattle.std.proofs.Common.{◌≡◌, drop}
use Rattle.py_syntax.specs.Marks.{stmts_marks}
use Rattle.py_syntax.specs.View.{plain_stmts}
use Rattle.cov_changed.proofs.SilenceLaws.{some}
use Rattle.cov_changed.proofs.marks.+marks.Given as goal

abbrev pub invariant-have_marks-loop-s : goal.invariant-have_marks-loop-s
invariant-have_marks-loop-s l = some (stmts_marks (plain_stmts (drop l.s-index l.items))) ≡ some (stmts_marks (plain_stmts l.items))
