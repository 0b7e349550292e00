use Rattle.std.proofs.Common.{◌∙◌, ap, sym, not}
use Rattle.std.specs.BTreeSet.{contains}
use Rattle.std.specs.Ordering.{nat_cmp}
use Rattle.cov_json.proofs.Searching.{kept_more, left_more}
use Rattle.cov_json.proofs.lists.lines_outside.Goals as goal
use Rattle.cov_json.proofs.lists.lines_outside.Goals.{then-not-contains+in_ok-push, else-not-contains}

pub loop-line-preserved : goal.loop-line-preserved
loop-line-preserved c =
    elim c.if-not-contains.branch [
      | then-not-contains+in_ok-push w ↦
          kept_more (λ line. not (contains nat_cmp c.args.set.now line)) c.args.all.now c.loop-line.line-index 0 c.loop-line.kept.items c.if-not-contains.kept.items c.loop-line-test.true
          (ap not (sym c.contains.ensures ∙ w.if-not-contains.true)) c.loop-line.invariant (ap (λ v. v.items) w.kept-is ∙ w.in_ok-push.ensures.items)
      | else-not-contains w ↦
          left_more (λ line. not (contains nat_cmp c.args.set.now line)) c.args.all.now c.loop-line.line-index 0 c.loop-line.kept.items c.if-not-contains.kept.items c.loop-line-test.true
          (ap not (sym c.contains.ensures ∙ w.if-not-contains.false)) c.loop-line.invariant (ap (λ v. v.items) w.kept-is)
    ]
