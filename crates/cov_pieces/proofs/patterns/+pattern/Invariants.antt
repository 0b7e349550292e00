use Rattle.std.proofs.Common.{drop}
use Rattle.py_syntax.specs.View.{plain_patterns}
use Rattle.cov_pieces.specs.Pieces.{words}
use Rattle.cov_pieces.specs.Views.{Completes}
use Rattle.cov_pieces.specs.Words.{patterns_words}
use Rattle.cov_pieces.proofs.patterns.+pattern.Given as goal

abbrev pub invariant-patterns-loop-p : goal.invariant-patterns-loop-p
invariant-patterns-loop-p l = Completes l.initial.out l.out (words (patterns_words (plain_patterns (drop l.p-index l.items)))) (words (patterns_words (plain_patterns l.items)))
