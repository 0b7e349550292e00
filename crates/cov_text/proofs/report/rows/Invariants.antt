use Rattle.std.proofs.Common.{◌≡◌, ◌++◌, map, drop, string_bytes}
use Rattle.cov_analysis.specs.Analyses.{analysis_view}
use Rattle.cov_text.specs.Report.{rows}
use Rattle.cov_text.proofs.report.rows.Given as goal

abbrev pub invariant-loop-file : goal.invariant-loop-file
invariant-loop-file l =
    string_bytes l.text ++ rows l.columns.width l.columns.arcs l.missing (map analysis_view (drop l.file-index l.files))
    ≡ rows l.columns.width l.columns.arcs l.missing (map analysis_view l.files)
