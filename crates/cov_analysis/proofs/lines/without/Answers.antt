use Rattle.std.proofs.Common.{ap, ◌∙◌}
use Rattle.std.specs.Prelude.{not}
use Rattle.std.proofs.lemmas.List.{take_all}
use Rattle.cov_analysis.specs.Lines.{is_among, without}
use Rattle.cov_analysis.proofs.Keeping.{kept_more}
use Rattle.cov_analysis.proofs.lines.without.Goals as goal

pub loop-line-preserved : goal.loop-line-preserved
loop-line-preserved c =
    kept_more (λ line. not (is_among c.args.others.now line)) c.args.lines.now c.loop-line.line-index 0 c.loop-line.kept.items _ _ c.loop-line-test.true (ap not c.is_among.ensures) c.loop-line.invariant c.in_ok-push_if.ensures

pub returns : goal.returns
returns c = c.loop-line.invariant ∙ ap (λ lines. without lines c.args.others.now) (take_all c.loop-line.line-index c.args.lines.now c.loop-line-test.false)
