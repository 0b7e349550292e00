use Rattle.std.proofs.Common.{◌∙◌, ap, refl, List, map}
use Rattle.cov_programs.proofs.Composing.{followed-so}
use Rattle.cov_analysis.specs.Analyses.{analysis_view}
use Rattle.cov_text.specs.Report.{text_bytes}
use Rattle.cov_analysis.specs.declared.analysis.Analysis.{Analysis}
use Rattle.cov_step.specs.Objects.{on_sink}
use Rattle.cov_reports.specs.Reports.{write_text}
use Rattle.cov_reports.specs.Views.{findings_view}
use Rattle.cov_reports.proofs.commands.write_report.Goals as goal

pub returns : goal.returns
returns g c =
    let r = findings_view c.args.findings.now in
    followed-so (on_sink g.O.Sink)
    (ap (λ text. write_text text c.args.fail_under r)
    (c.as_str.ensures.value ∙ c.in-Ok.ensures
    ∙ ap (λ (files : List Analysis). text_bytes (map analysis_view files) c.args.findings.now.arcs c.shows_missing-missing.result) c.deref.ensures.value
    ∙ ap (text_bytes r.files r.arcs) c.shows_missing-missing.ensures))
    refl c.write_text.ensures
