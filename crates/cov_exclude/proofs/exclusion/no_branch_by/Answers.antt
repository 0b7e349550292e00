use Rattle.std.proofs.Common.{ap, ◌∙◌, ◌++◌}
use Rattle.py_syntax.specs.Marks.{in_order}
use Rattle.py_syntax.specs.View.{plain_stmts, plain_module}
use Rattle.cov_exclude.specs.Touched.{touches}
use Rattle.cov_exclude.specs.Walk.{stmts_walk}
use Rattle.cov_exclude.proofs.Law.{touching, body-touched}
use Rattle.cov_exclude.proofs.exclusion.no_branch_by.Goals as goal

pub returns : goal.returns
returns c =
    c.ordered.ensures
    ∙ ap in_order (c.in_ok-statements.ensures
    ∙ ap (λ ls. ls ++ stmts_walk (touching (touches c.args.matched.now)) _ _ (plain_stmts c.deref.result.now)) c.new-lines.ensures.items
    ∙ ap (λ ss. stmts_walk (touching (touches c.args.matched.now)) _ _ (plain_stmts ss)) c.deref.ensures.value
    ∙ body-touched (touches c.args.matched.now) (plain_module c.args.module.now))
