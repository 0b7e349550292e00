use Rattle.std.proofs.Common.{ap}
use Rattle.serde_json.specs.View.{members_view}
use Rattle.cov_json.proofs.Objects.{put_is, report_is}
use Rattle.cov_json.proofs.report.report.Goals as goal

pub returns : goal.returns
returns c =
    report_is c.put-3.new.map c.args.files.now c.args.arcs c.total.result c.total.ensures.sums
    (put_is _ _ _ _ _ _ c.in_ok-put-3.ensures.ok c.in_ok-all.ensures
    (put_is _ _ _ _ _ _ c.in_ok-put-2.ensures.ok c.in_ok-totals.ensures
    (put_is _ _ _ _ _ _ c.in_ok-put.ensures.ok c.in_ok-meta.ensures (ap members_view c.new-members.ensures.empty))))
