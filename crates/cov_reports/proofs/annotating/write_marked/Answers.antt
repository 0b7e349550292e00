use Rattle.std.proofs.Common.{◌∙◌}
use Rattle.cov_reports.proofs.Judging.{written-so}
use Rattle.cov_reports.proofs.annotating.write_marked.Goals as goal

pub returns : goal.returns
returns g c = written-so g.O.Sink (c.as_bytes.ensures.value ∙ c.in-Ok.ensures) c.done-answered.ensures c.write_last.ensures
