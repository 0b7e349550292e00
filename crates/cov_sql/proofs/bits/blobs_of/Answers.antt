use Rattle.std.proofs.Common.{subst}
use Rattle.cov_sql.specs.Groups.{IsBlobOf}
use Rattle.cov_sql.proofs.CellLemmas.{zip-next, zip-whole}
use Rattle.cov_sql.proofs.bits.blobs_of.Goals as goal

pub loop-group-preserved : goal.loop-group-preserved
loop-group-preserved c =
    rw c.in_ok-push.ensures.items
    (zip-next IsBlobOf c.args.groups.now c.loop-group.group-index c.loop-group.blobs.items c.group-item.result c.in_ok-blob_of.field-0 c.loop-group-test.true c.loop-group.invariant
    (subst (λ g. IsBlobOf g c.in_ok-blob_of.field-0) c.group-item.is c.in_ok-blob_of.ensures))

pub returns : goal.returns
returns c = zip-whole IsBlobOf c.args.groups.now c.loop-group.group-index c.loop-group.blobs.items c.loop-group-test.false c.loop-group.invariant
