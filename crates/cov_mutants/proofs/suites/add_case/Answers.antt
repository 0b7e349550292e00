use Rattle.std.proofs.Common.{ap, ◌∙◌}
use Rattle.std.specs.Option.{option_map}
use Rattle.py_syntax.specs.Tree.{case}
use Rattle.py_syntax.specs.View.{plain_expr, plain_pattern, plain_suite}
use Rattle.cov_places.specs.ItemRows.{put_case}
use Rattle.cov_mutants_expr.proofs.Copies.{was_ok}
use Rattle.cov_mutants_expr.proofs.RowLaws.{one_more}
use Rattle.cov_places.proofs.KindForms.{case-put}
use Rattle.cov_mutants.proofs.suites.add_case.Goals as goal

pub returns : goal.returns
returns c = was_ok _ c.args.body _ c.in_ok-body.was (
    one_more put_case c.args.out.now.items c.push.new.self.items _ (case (plain_pattern c.args.pattern.value) (option_map plain_expr c.args.guard) (plain_suite c.in_ok-body.body)) c.in_ok-push.ensures.items (λ r. case-put c.into_inner-pattern.result c.args.guard c.in_ok-body.body r ∙ ap (λ p. case (plain_pattern p) (option_map plain_expr c.args.guard) (plain_suite c.in_ok-body.body) r) c.into_inner-pattern.ensures))
