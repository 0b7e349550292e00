use Rattle.std.proofs.Common.{◌≡◌, ◌<◌, ◌^◌, map, max, drop, fold}
use Rattle.cov_analysis.specs.Analyses.{analysis_view}
use Rattle.cov_text.specs.Report.{name_length}
use Rattle.cov_text.proofs.report.name_width.Given as goal

abbrev pub invariant-loop-file : goal.invariant-loop-file
invariant-loop-file l = (l.longest < 2 ^ 63) × (fold max l.longest (map name_length (map analysis_view (drop l.file-index l.files))) ≡ fold max 5 (map name_length (map analysis_view l.files)))
