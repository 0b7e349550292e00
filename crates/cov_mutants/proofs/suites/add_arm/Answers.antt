use Rattle.std.proofs.Common.{ap, ◌∙◌}
use Rattle.py_syntax.specs.Tree.{arm}
use Rattle.py_syntax.specs.View.{plain_expr, plain_suite}
use Rattle.cov_places.specs.ItemRows.{put_arm}
use Rattle.cov_mutants_expr.proofs.Copies.{was_ok}
use Rattle.cov_mutants_expr.proofs.RowLaws.{one_more}
use Rattle.cov_places.proofs.KindForms.{arm-put}
use Rattle.cov_mutants.proofs.suites.add_arm.Goals as goal

pub returns : goal.returns
returns c = was_ok _ c.args.body _ c.in_ok-body.was (
    one_more put_arm c.args.out.now.items c.push.new.self.items _ (arm (plain_expr c.args.test.value) (plain_suite c.in_ok-body.body)) c.in_ok-push.ensures.items (λ r. arm-put c.into_inner-test.result c.in_ok-body.body r ∙ ap (λ k. arm (plain_expr k) (plain_suite c.in_ok-body.body) r) c.into_inner-test.ensures))
