use Rattle.std.proofs.Common.{ap, ◌∙◌}
use Rattle.py_syntax.specs.Tree.{pair}
use Rattle.py_syntax.specs.View.{plain_expr}
use Rattle.cov_places.specs.ItemRows.{put_pair}
use Rattle.cov_mutants_expr.proofs.RowLaws.{one_more}
use Rattle.cov_mutants_expr.proofs.Copies.{was_ok}
use Rattle.cov_places.proofs.Items.{pair-put}
use Rattle.cov_mutants_expr.proofs.nodes.add_pair.Goals as goal

pub returns : goal.returns
returns c = was_ok _ c.args.value c.in_ok-value.value c.in_ok-value.was (
    one_more put_pair c.args.out.now.items c.push.new.self.items _ (pair (plain_expr c.args.key.value) (plain_expr c.in_ok-value.value.value)) c.in_ok-push.ensures.items
    (λ r. pair-put c.into_inner.result c.into_inner-2.result r ∙ ap (λ e. pair (plain_expr e) (plain_expr c.into_inner-2.result) r) c.into_inner.ensures ∙ ap (λ e. pair (plain_expr c.args.key.value) (plain_expr e) r) c.into_inner-2.ensures))
