use Rattle.std.proofs.Common.{drop}
use Rattle.cov_pieces.specs.Pieces.{declaring}
use Rattle.cov_pieces.specs.Views.{Completes}
use Rattle.cov_pieces.proofs.heads.declarations.Given as goal

abbrev pub invariant-loop-x : goal.invariant-loop-x
invariant-loop-x l = Completes l.initial.out l.out (declaring (drop l.x-index l.names)) (declaring l.names)
