use Rattle.std.proofs.Common.{ap}
use Rattle.py_syntax.specs.Tree.{patterns}
use Rattle.py_syntax.specs.View.{plain_pattern}
use Rattle.cov_mutants_expr.specs.Rows.{put_pattern}
use Rattle.cov_mutants_expr.proofs.RowLaws.{one_more}
use Rattle.cov_mutants_expr.proofs.Copies.{was_ok}
use Rattle.cov_mutants_expr.proofs.patterns.add_pattern.Goals as goal

pub returns : goal.returns
returns c = was_ok _ c.args.p c.in_ok-p.p c.in_ok-p.was (
    one_more put_pattern c.args.out.now.items c.push.new.self.items c.into_inner.result (patterns (plain_pattern c.in_ok-p.p.value)) c.in_ok-push.ensures.items (λ r. ap (λ e. patterns (plain_pattern e) r) c.into_inner.ensures))
