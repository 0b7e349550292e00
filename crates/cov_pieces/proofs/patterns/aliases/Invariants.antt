use Rattle.std.proofs.Common.{drop}
use Rattle.py_syntax.specs.View.{plain_aliases}
use Rattle.cov_pieces.specs.Pieces.{words}
use Rattle.cov_pieces.specs.Views.{Completes}
use Rattle.cov_pieces.specs.Words.{list_words, alias_words}
use Rattle.cov_pieces.proofs.patterns.aliases.Given as goal

abbrev pub invariant-loop-alias : goal.invariant-loop-alias
invariant-loop-alias l = Completes l.initial.out l.out (words (list_words alias_words (plain_aliases (drop l.alias-index l.names)))) (words (list_words alias_words (plain_aliases l.names)))
