use Rattle.std.proofs.Common.{drop}
use Rattle.cov_pieces.specs.Pieces.{words}
use Rattle.cov_pieces.specs.Views.{Completes}
use Rattle.cov_pieces.specs.Words.{texts_words}
use Rattle.cov_pieces.proofs.expressions.texts.Given as goal

abbrev pub invariant-loop-x : goal.invariant-loop-x
invariant-loop-x l = Completes l.initial.out l.out (words (texts_words (drop l.x-index l.items))) (words (texts_words l.items))
