use Rattle.std.proofs.Common.{drop, arith}
use Rattle.cov_pieces.specs.Views.{plain_piece, pieces_of}
use Rattle.cov_changed.proofs.Loops.{turn-bound, compares}
use Rattle.cov_changed.proofs.comparing.compare.Goals as goal

pub loop-piece-preserved : goal.loop-piece-preserved
loop-piece-preserved c = (
  turn-bound c.loop-piece.depth (plain_piece c.piece-item.result) (pieces_of (drop c.loop-piece.at c.args.after.now)) c.loop-piece.piece-index _ c.loop-piece.invariant.0 c.in_ok-left.ensures.1,
  c.in_ok-left.ensures.2,
  compares c.args.before.now c.args.after.now c.loop-piece.piece-index c.piece-item.result (omega arith) c.piece-item.is c.loop-piece.found c.step.new.found c.loop-piece.depth c.loop-piece.at c.in_ok-left.left _ c.in_ok-left.ensures c.loop-piece.invariant.2,
)
