use Rattle.std.proofs.Common.{drop}
use Rattle.py_syntax.specs.View.{plain_arms}
use Rattle.cov_pieces.specs.Pieces.{words, arms_fit}
use Rattle.cov_pieces.specs.Views.{Completes}
use Rattle.cov_pieces.proofs.heads.arms_fit.Given as goal

abbrev pub invariant-loop-arm : goal.invariant-loop-arm
invariant-loop-arm l = Completes l.initial.out l.out (words (arms_fit (plain_arms (drop l.arm-index l.items)))) (words (arms_fit (plain_arms l.items)))
