use Rattle.std.proofs.Common.{◌∙◌, ap, arith}
use Rattle.std.specs.List.{zip}
use Rattle.std.proofs.lemmas.List.{take_all}
use Rattle.std.proofs.lemmas.Slice.Zip.{length-zip}
use Rattle.cov_lcov.proofs.Pieces.{entries_more, entries_so_far, said}
use Rattle.cov_lcov.proofs.branches.entries.Goals as goal

pub loop-at-preserved : goal.loop-at-preserved
loop-at-preserved c = entries_more c.args.branches.now c.args.hits.now c.loop-at.at _ _ c.requires c.loop-at-test.true c.in_ok-add_entry.ensures c.loop-at.invariant

pub returns : goal.returns
returns c =
    let long = length-zip c.args.branches.now c.args.hits.now in
    said (λ entries. entries.items) c.listed.result _ _ c.listed.ensures (c.loop-at.invariant ∙ ap entries_so_far (take_all c.loop-at.at (zip c.args.branches.now c.args.hits.now) (omega (arith, long))))
