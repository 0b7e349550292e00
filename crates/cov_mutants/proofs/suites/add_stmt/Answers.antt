use Rattle.std.proofs.Common.{ap, ◌∙◌}
use Rattle.py_syntax.specs.Tree.{stmt}
use Rattle.py_syntax.specs.View.{plain_kind}
use Rattle.cov_places.specs.ItemRows.{put_stmt}
use Rattle.cov_mutants_expr.proofs.Copies.{was_ok}
use Rattle.cov_mutants_expr.proofs.RowLaws.{one_more}
use Rattle.cov_places.proofs.KindForms.{stmt-put}
use Rattle.cov_mutants.proofs.suites.add_stmt.Goals as goal

pub returns : goal.returns
returns c = was_ok _ c.args.kind c.in_ok-kind.kind c.in_ok-kind.was (
    one_more put_stmt c.args.out.now.items c.push.new.self.items _ (stmt c.args.first c.args.last (plain_kind c.in_ok-kind.kind.value) c.args.end) c.in_ok-push.ensures.items (λ r. stmt-put c.args.first c.args.last c.into_inner-kind.result c.args.end r ∙ ap (λ k. stmt c.args.first c.args.last (plain_kind k) c.args.end r) c.into_inner-kind.ensures))
