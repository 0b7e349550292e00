use Rattle.std.proofs.Common.{map, ap, ◌∙◌}
use Rattle.std.specs.List.{fold}
use Rattle.std.proofs.lemmas.List.{take_all}
use Rattle.serde_json.specs.Data.{object, no_members}
use Rattle.serde_json.proofs.Views.{view-Object}
use Rattle.cov_analysis.specs.Analyses.{analysis_view}
use Rattle.cov_json.specs.Json.{with_file}
use Rattle.cov_json.proofs.Objects.{files_more}
use Rattle.cov_json.proofs.report.files_value.Goals as goal

pub loop-file-preserved : goal.loop-file-preserved
loop-file-preserved c = files_more c.args.arcs c.args.files.now c.loop-file.file-index c.file-item.result _ _ c.loop-file-test.true c.file-item.is c.in_ok-put_file.ensures c.loop-file.invariant

pub returns : goal.returns
returns c =
    view-Object c.loop-file.members
    ∙ ap object (c.loop-file.invariant ∙ ap (λ files. fold (with_file c.args.arcs) no_members (map analysis_view files)) (take_all c.loop-file.file-index c.args.files.now c.loop-file-test.false))
