use Rattle.std.proofs.Common.{ap, ◌∙◌}
use Rattle.py_syntax.specs.Tree.{plain}
use Rattle.cov_places.specs.ItemRows.{put_fragment}
use Rattle.cov_mutants_expr.proofs.RowLaws.{one_more}
use Rattle.cov_places.proofs.Items.{plain-put}
use Rattle.cov_mutants_expr.proofs.nodes.add_plain.Goals as goal

pub returns : goal.returns
returns c = one_more put_fragment c.args.out.now.items c.push.new.self.items _ (plain c.args.x.now) c.in_ok-push.ensures.items
    (λ r. plain-put _ r ∙ ap (λ x. plain x r) c.in_ok-x.ensures)
