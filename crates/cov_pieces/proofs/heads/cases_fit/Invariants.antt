use Rattle.std.proofs.Common.{drop}
use Rattle.py_syntax.specs.View.{plain_cases}
use Rattle.cov_pieces.specs.Pieces.{words, cases_fit}
use Rattle.cov_pieces.specs.Views.{Completes}
use Rattle.cov_pieces.proofs.heads.cases_fit.Given as goal

abbrev pub invariant-loop-case : goal.invariant-loop-case
invariant-loop-case l = Completes l.initial.out l.out (words (cases_fit (plain_cases (drop l.case-index l.items)))) (words (cases_fit (plain_cases l.items)))
