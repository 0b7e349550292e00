use Rattle.std.proofs.Common.{◌∙◌, ap, sym, not, pos}
use Rattle.std.specs.BTreeSet.{contains}
use Rattle.cov_analysis.specs.Branches.{branch_cmp}
use Rattle.cov_json.proofs.Searching.{kept_more, left_more}
use Rattle.cov_json.proofs.lists.branches_outside.Goals as goal
use Rattle.cov_json.proofs.lists.branches_outside.Goals.{then-not-contains+in_ok-push, else-not-contains}

pub loop-one-preserved : goal.loop-one-preserved
loop-one-preserved c =
    elim c.if-not-contains.branch [
      | then-not-contains+in_ok-push w ↦
          kept_more (λ one. not (contains branch_cmp c.args.set.now one)) c.args.all.now c.loop-one.one-index (0, pos 0) c.loop-one.kept.items c.if-not-contains.kept.items c.loop-one-test.true
          (ap not (sym c.contains.ensures ∙ w.if-not-contains.true)) c.loop-one.invariant (ap (λ v. v.items) w.kept-is ∙ w.in_ok-push.ensures.items)
      | else-not-contains w ↦
          left_more (λ one. not (contains branch_cmp c.args.set.now one)) c.args.all.now c.loop-one.one-index (0, pos 0) c.loop-one.kept.items c.if-not-contains.kept.items c.loop-one-test.true
          (ap not (sym c.contains.ensures ∙ w.if-not-contains.false)) c.loop-one.invariant (ap (λ v. v.items) w.kept-is)
    ]
