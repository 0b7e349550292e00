use Rattle.std.proofs.Common.{drop}
use Rattle.cov_sql.proofs.Contexts.{drop_past}
use Rattle.cov_sql.proofs.Grouping.{groups_ended}
use Rattle.cov_sql.proofs.bits.groups_of.Goals as goal

pub returns : goal.returns
returns c =
    let others = c.in-Some.others.now in
    let at = c.loop-row.row-index in
    groups_ended c.loop-row.done.items c.push.new.self.items c.loop-row.group (drop at others) c.args.rows.now (drop_past others at c.loop-row-test.false) c.in_ok-push.ensures.items c.loop-row.invariant
