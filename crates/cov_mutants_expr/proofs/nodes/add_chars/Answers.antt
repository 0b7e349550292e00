use Rattle.std.proofs.Common.{ap, ◌∙◌}
use Rattle.py_syntax.specs.Tree.{text}
use Rattle.cov_places.specs.ItemRows.{put_part}
use Rattle.cov_mutants_expr.proofs.RowLaws.{one_more}
use Rattle.cov_places.proofs.Items.{chars-put}
use Rattle.cov_mutants_expr.proofs.nodes.add_chars.Goals as goal

pub returns : goal.returns
returns c = one_more put_part c.args.out.now.items c.push.new.self.items _ (text c.args.x.now) c.in_ok-push.ensures.items
    (λ r. chars-put _ r ∙ ap (λ x. text x r) c.in_ok-x.ensures)
