use Rattle.py_syntax.specs.Tree.{format}
use Rattle.py_syntax.specs.View.{plain_parts}
use Rattle.cov_places.specs.ItemRows.{put_fragment}
use Rattle.cov_mutants_expr.proofs.RowLaws.{one_more}
use Rattle.cov_mutants_expr.proofs.Copies.{was_ok}
use Rattle.cov_places.proofs.Items.{format-put}
use Rattle.cov_mutants_expr.proofs.nodes.add_format.Goals as goal

pub returns : goal.returns
returns c = was_ok _ c.args.parts c.in_ok-parts.parts c.in_ok-parts.was (
    one_more put_fragment c.args.out.now.items c.push.new.self.items _ (format (plain_parts c.in_ok-parts.parts.items)) c.in_ok-push.ensures.items
    (λ r. format-put c.in_ok-parts.parts r))
