use Rattle.std.proofs.Common.{IfOk, subst}
use Rattle.std.specs.List.{AllZip}
use Rattle.cov_sql.specs.Groups.{IsBlobOf}
use Rattle.cov_sql.proofs.Grouping.{blobs_then}
use Rattle.cov_sql.proofs.bits.bits_of.Goals as goal

pub returns : goal.returns
returns c lines =
    blobs_then c.args.rows.now c.in_ok-groups.groups.items c.blobs_of.result c.in_ok-groups.ensures
    (subst (λ gs. IfOk c.blobs_of.result (λ blobs. AllZip IsBlobOf gs blobs.items)) c.deref.ensures.value c.blobs_of.ensures) lines
