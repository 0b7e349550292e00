use Rattle.std.proofs.Common.{◌∙◌, ap₂, string_bytes}
use Rattle.std.specs.List.{flat_map, zip}
use Rattle.cov_analysis.specs.Analyses.{analysis_view}
use Rattle.cov_lcov.specs.Lcov.{statement_row}
use Rattle.cov_lcov.proofs.Pieces.{record_with, said}
use Rattle.cov_lcov.proofs.reporting.record.Goals as goal

pub returns : goal.returns
returns c =
    said string_bytes c.format.result _ _ c.format.ensures.ok
    (ap₂ (record_with (analysis_view c.args.file.now))
    (c.in_ok-statements.ensures ∙ ap₂ (λ lines hits. flat_map statement_row (zip lines hits)) c.deref.ensures.value c.deref-2.ensures.value) c.in_ok-branches.ensures)
