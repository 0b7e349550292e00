use Rattle.std.proofs.Common.{◌∙◌, ap, arith}
use Rattle.std.specs.List.{flat_map, zip}
use Rattle.std.proofs.lemmas.List.{take_all}
use Rattle.std.proofs.lemmas.Slice.Zip.{length-zip}
use Rattle.cov_lcov.specs.Lcov.{statement_row}
use Rattle.cov_lcov.proofs.Pieces.{statements_more}
use Rattle.cov_lcov.proofs.reporting.statement_rows.Goals as goal

pub loop-at-preserved : goal.loop-at-preserved
loop-at-preserved c =
    statements_more c.args.lines.now c.args.hits.now c.loop-at.at _ _ _ c.requires c.loop-at-test.true (c.as_str.ensures.value ∙ c.in_ok-row.ensures) c.in_ok-push_str.ensures.bytes c.loop-at.invariant

pub returns : goal.returns
returns c =
    let long = length-zip c.args.lines.now c.args.hits.now in
    c.loop-at.invariant ∙ ap (flat_map statement_row) (take_all c.loop-at.at (zip c.args.lines.now c.args.hits.now) (omega (arith, long)))
