use Rattle.std.proofs.Common.{◌∙◌, ap, refl, string_bytes}
use Rattle.cov_programs.proofs.Composing.{followed-so}
use Rattle.cov_analysis.specs.Analyses.{analysis_view}
use Rattle.cov_lcov.specs.Annotated.{annotated_bytes}
use Rattle.cov_step.specs.Objects.{on_sink}
use Rattle.cov_step.specs.Phases.{done, write_last}
use Rattle.cov_reports.proofs.annotating.write_source.Goals as goal

pub returns : goal.returns
returns g c =
    followed-so (on_sink g.O.Sink)
    (ap (λ text. write_last (annotated_bytes (analysis_view c.in-Ok.file) text) done) c.as_str.ensures.value
    ∙ ap (λ a. write_last (annotated_bytes a (string_bytes c.args.source.now.text)) done) c.in-Ok.ensures.analysis)
    refl c.write_marked.ensures
