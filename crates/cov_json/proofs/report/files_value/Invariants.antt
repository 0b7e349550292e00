use Rattle.std.proofs.Common.{◌≡◌, map, take}
use Rattle.std.specs.List.{fold}
use Rattle.serde_json.specs.Data.{no_members}
use Rattle.serde_json.specs.View.{members_view}
use Rattle.cov_analysis.specs.Analyses.{analysis_view}
use Rattle.cov_json.specs.Json.{with_file}
use Rattle.cov_json.proofs.report.files_value.Given as goal

abbrev pub invariant-loop-file : goal.invariant-loop-file
invariant-loop-file l = members_view l.members.entries ≡ fold (with_file l.arcs) no_members (map analysis_view (take l.file-index l.files))
