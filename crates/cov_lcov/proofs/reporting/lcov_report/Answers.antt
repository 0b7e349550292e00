use Rattle.std.proofs.Common.{◌<◌, ◌∙◌, ap, map, length, arith, sym, subst}
use Rattle.std.proofs.lemmas.List.{length-map}
use Rattle.cov_analysis.specs.Analyses.{IsReportable, analysis_view}
use Rattle.cov_lcov.specs.Lcov.{file_bytes}
use Rattle.cov_lcov.proofs.Pieces.{item_of, pieces_more}
use Rattle.cov_lcov.proofs.reporting.lcov_report.Goals as goal

pub record-requires : goal.record-requires
record-requires c =
    let long : c.loop-file.file-index < length (map analysis_view c.args.files.now) = omega (arith, length-map c.args.files.now analysis_view) in
    subst IsReportable (sym (item_of analysis_view c.args.files.now c.loop-file.file-index c.file-item.result c.loop-file-test.true c.file-item.is)) (c.requires c.loop-file.file-index (analysis_view c.file-item.result) long)

pub loop-file-preserved : goal.loop-file-preserved
loop-file-preserved c =
    let long : c.loop-file.file-index < length (map analysis_view c.args.files.now) = omega (arith, length-map c.args.files.now analysis_view) in
    pieces_more (file_bytes c.args.arcs) (map analysis_view c.args.files.now) c.loop-file.file-index (analysis_view c.file-item.result) _ _ _ long
    (c.as_str.ensures.value ∙ c.in_ok-record.ensures
    ∙ ap (file_bytes c.args.arcs) (item_of analysis_view c.args.files.now c.loop-file.file-index c.file-item.result c.loop-file-test.true c.file-item.is))
    c.in_ok-push_str.ensures.bytes c.loop-file.invariant
