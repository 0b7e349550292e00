use Rattle.std.proofs.Common.{ap, ◌∙◌}
use Rattle.std.specs.Option.{option_map}
use Rattle.py_syntax.specs.Tree.{clause}
use Rattle.py_syntax.specs.View.{plain_expr, plain_suite}
use Rattle.cov_places.specs.ItemRows.{put_clause}
use Rattle.cov_mutants_expr.proofs.Copies.{was_ok}
use Rattle.cov_mutants_expr.proofs.RowLaws.{one_more}
use Rattle.cov_places.proofs.KindForms.{clause-put}
use Rattle.cov_mutants.proofs.suites.add_clause.Goals as goal

pub returns : goal.returns
returns c = was_ok _ c.args.body _ c.in_ok-body.was (
    one_more put_clause c.args.out.now.items c.push.new.self.items _ (clause (option_map plain_expr c.args.kind) c.args.name.now (plain_suite c.in_ok-body.body)) c.in_ok-push.ensures.items (λ r. clause-put c.args.kind c.in_ok-name.name c.in_ok-body.body r ∙ ap (λ n. clause (option_map plain_expr c.args.kind) n (plain_suite c.in_ok-body.body) r) c.in_ok-name.ensures))
