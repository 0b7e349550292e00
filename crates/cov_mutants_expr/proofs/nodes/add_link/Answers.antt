use Rattle.std.proofs.Common.{ap, ◌∙◌}
use Rattle.py_syntax.specs.Tree.{link}
use Rattle.py_syntax.specs.View.{plain_expr}
use Rattle.cov_places.specs.ItemRows.{put_link}
use Rattle.cov_mutants_expr.proofs.RowLaws.{one_more}
use Rattle.cov_mutants_expr.proofs.Copies.{was_ok}
use Rattle.cov_places.proofs.Items.{link-put}
use Rattle.cov_mutants_expr.proofs.nodes.add_link.Goals as goal

pub returns : goal.returns
returns c = was_ok _ c.args.right c.in_ok-right.right c.in_ok-right.was (
    one_more put_link c.args.out.now.items c.push.new.self.items _ (link c.args.op (plain_expr c.in_ok-right.right.value)) c.in_ok-push.ensures.items
    (λ r. link-put c.args.op c.into_inner.result r ∙ ap (λ e. link c.args.op (plain_expr e) r) c.into_inner.ensures))
