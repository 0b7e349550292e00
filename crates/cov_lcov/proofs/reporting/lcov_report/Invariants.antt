use Rattle.std.proofs.Common.{◌≡◌, take, map, string_bytes}
use Rattle.cov_analysis.specs.Analyses.{analysis_view}
use Rattle.cov_lcov.specs.Lcov.{lcov_bytes}
use Rattle.cov_lcov.proofs.reporting.lcov_report.Given as goal

abbrev pub invariant-loop-file : goal.invariant-loop-file
invariant-loop-file l = string_bytes l.text ≡ lcov_bytes (take l.file-index (map analysis_view l.files)) l.arcs
