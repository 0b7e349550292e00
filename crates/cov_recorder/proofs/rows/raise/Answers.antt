use Rattle.std.proofs.Common.{◌<◌, ◌≤◌, length, arith}
use Rattle.cov_recorder.proofs.Counting.{raised-is, raised-outside}
use Rattle.cov_recorder.proofs.rows.raise.Goals as goal

pub returns-then-place-len : goal.returns-then-place-len
returns-then-place-len c =
    let within : c.args.place < length c.args.counts.now.items = omega (arith, c.if-place-len.true, c.len.ensures) in
    raised-is c.args.counts.now.items c.args.place within c.index.result.now c.saturating_add.result c.index.ensures c.saturating_add.ensures

pub returns-else-place-len : goal.returns-else-place-len
returns-else-place-len c =
    let outside : length c.args.counts.now.items ≤ c.args.place = omega (arith, c.if-place-len.false, c.len.ensures) in
    raised-outside c.args.counts.now.items c.args.place outside
