use Rattle.std.proofs.Common.{◌∙◌, ap, false, pos}
use Rattle.std.specs.BTreeSet.{contains}
use Rattle.std.specs.List.{flat_map}
use Rattle.std.specs.Ordering.{nat_cmp}
use Rattle.std.proofs.lemmas.List.{take_all}
use Rattle.cov_analysis.specs.Branches.{branch_cmp}
use Rattle.cov_lcov.specs.Lcov.{branch_row}
use Rattle.cov_lcov.proofs.Pieces.{pieces_more}
use Rattle.cov_lcov.proofs.branches.rows.Goals as goal

pub loop-entry-preserved : goal.loop-entry-preserved
loop-entry-preserved c =
    pieces_more (branch_row (contains branch_cmp c.args.missing.now) (contains nat_cmp c.args.covered.now)) c.args.entries.now c.loop-entry.entry-index (0, false, pos 0, 0) _ _ _ c.loop-entry-test.true
    (c.as_str.ensures.value ∙ c.in_ok-row.ensures) c.in_ok-push_str.ensures.bytes c.loop-entry.invariant

pub returns : goal.returns
returns c =
    c.loop-entry.invariant
    ∙ ap (flat_map (branch_row (contains branch_cmp c.args.missing.now) (contains nat_cmp c.args.covered.now))) (take_all c.loop-entry.entry-index c.args.entries.now c.loop-entry-test.false)
