use Rattle.std.proofs.Common.{drop}
use Rattle.py_syntax.specs.View.{plain_stmts}
use Rattle.cov_pieces.specs.Pieces.{words, heads}
use Rattle.cov_pieces.specs.Views.{Completes}
use Rattle.cov_pieces.proofs.heads.heads.Given as goal

abbrev pub invariant-loop-s : goal.invariant-loop-s
invariant-loop-s l = Completes l.initial.out l.out (words (heads (plain_stmts (drop l.s-index l.items)))) (words (heads (plain_stmts l.items)))
