use Rattle.std.proofs.Common.{◌≡◌, ◌++◌, drop}
use Rattle.py_meaning.specs.Literals.{run_together}
use Rattle.py_compile_expr.proofs.texts.run_together.Given as goal

abbrev pub invariant-loop-piece : goal.invariant-loop-piece
invariant-loop-piece l = l.all ++ run_together (drop l.piece-index l.pieces) ≡ run_together l.pieces
