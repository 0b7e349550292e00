use Rattle.std.proofs.Common.{drop, arith}
use Rattle.cov_pieces.specs.Views.{plain_piece, pieces_of}
use Rattle.cov_changed.proofs.Loops.{depth-next, skips_on}
use Rattle.cov_changed.proofs.comparing.skip.Goals as goal

pub loop-i-preserved : goal.loop-i-preserved
loop-i-preserved c = (
  depth-next c.loop-i.depth (plain_piece c.index-after-i.result) c.loop-i.i _ c.loop-i.invariant.0 c.depth_after-depth.ensures,
  skips_on c.args.after.now c.loop-i.i c.index-after-i.result (omega arith) c.index-after-i.is c.args.lines.now.items c.loop-i.lines.items _ c.loop-i.depth _ (pieces_of (drop c.args.at c.args.after.now)) (omega arith) c.depth_after-depth.ensures c.in_ok-add_mark.ensures c.loop-i.invariant.1,
)
