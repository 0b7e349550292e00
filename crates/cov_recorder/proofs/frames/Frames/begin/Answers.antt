use Rattle.std.proofs.Common.{◌≡◌, ◌-◌, ◌<◌, length, ap, ◌∙◌, arith}
use Rattle.cov_recorder.specs.Frames.{kept_at_line}
use Rattle.cov_recorder.proofs.Places.{put-innermost}
use Rattle.cov_recorder.proofs.frames.Frames.begin.Goals as goal

pub returns-then-count-gt0 : goal.returns-then-count-gt0
returns-then-count-gt0 c =
    let some : 0 < length c.self.inside.items.items = omega (arith, c.if-count-gt0.true, c.len-count.ensures) in
    let last : c.len-count.result - 1 ≡ length c.self.inside.items.items - 1 = omega (arith, c.len-count.ensures) in
    put-innermost c.self.inside.items.items (c.len-count.result - 1) some last c.index_mut.result.now c.index_mut.ensures.value c.args.line
    ∙ ap (λ frames. kept_at_line frames c.args.line) c.self.view_is
