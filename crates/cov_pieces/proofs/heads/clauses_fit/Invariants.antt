use Rattle.std.proofs.Common.{drop}
use Rattle.py_syntax.specs.View.{plain_clauses}
use Rattle.cov_pieces.specs.Pieces.{words, clauses_fit}
use Rattle.cov_pieces.specs.Views.{Completes}
use Rattle.cov_pieces.proofs.heads.clauses_fit.Given as goal

abbrev pub invariant-loop-clause : goal.invariant-loop-clause
invariant-loop-clause l = Completes l.initial.out l.out (words (clauses_fit (plain_clauses (drop l.clause-index l.items)))) (words (clauses_fit (plain_clauses l.items)))
