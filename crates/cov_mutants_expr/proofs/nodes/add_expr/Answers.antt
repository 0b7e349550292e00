use Rattle.std.proofs.Common.{ap}
use Rattle.py_syntax.specs.Tree.{exprs}
use Rattle.py_syntax.specs.View.{plain_expr}
use Rattle.cov_places.specs.ItemRows.{put_expr}
use Rattle.cov_mutants_expr.proofs.RowLaws.{one_more}
use Rattle.cov_mutants_expr.proofs.Copies.{was_ok}
use Rattle.cov_mutants_expr.proofs.nodes.add_expr.Goals as goal

pub returns : goal.returns
returns c = was_ok _ c.args.e c.in_ok-e.e c.in_ok-e.was (
    one_more put_expr c.args.out.now.items c.push.new.self.items c.into_inner.result (exprs (plain_expr c.in_ok-e.e.value)) c.in_ok-push.ensures.items (λ r. ap (λ e. exprs (plain_expr e) r) c.into_inner.ensures))
