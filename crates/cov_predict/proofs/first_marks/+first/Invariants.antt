use Rattle.std.proofs.Common.{drop}
use Rattle.py_syntax.specs.View.{plain_stmts}
use Rattle.cov_predict.proofs.First.{SameFirst}
use Rattle.cov_predict.proofs.first_marks.+first.Given as goal

abbrev pub invariant-first_of-loop-s : goal.invariant-first_of-loop-s
invariant-first_of-loop-s l = SameFirst (plain_stmts (drop l.s-index l.items)) (plain_stmts l.items)
