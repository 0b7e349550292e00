use Rattle.std.proofs.Common.{◌++◌, ap, sym, ◌∙◌}
use Rattle.std.specs.Cmp.{unsigned_ties}
use Rattle.std.specs.FinMap.{nat_cmp-IsAntisymmetric}
use Rattle.std.specs.Ordering.{nat_cmp}
use Rattle.std.proofs.lemmas.Cmp.{nat_cmp_total}
use Rattle.py_syntax.specs.Marks.{body_marks}
use Rattle.py_syntax.specs.View.{plain_stmts, plain_module}
use Rattle.cov_predict.proofs.Sets.{ordered, sorted_and_deduped, in_order-is}
use Rattle.cov_predict.proofs.statement_lines.statements.Goals as goal

pub returns : goal.returns
returns c =
    (sorted_and_deduped nat_cmp nat_cmp_total nat_cmp-IsAntisymmetric _ unsigned_ties _ _ _ c.sort_unstable.ensures.permutation c.sort_unstable.ensures.sorted c.dedup.ensures.filtered).0
    ∙ ap (ordered nat_cmp) (c.in_ok-statements.ensures ∙ ap (λ ls. ls ++ body_marks (plain_stmts c.deref.result.now)) c.new-lines.ensures.items ∙ ap (λ ss. body_marks (plain_stmts ss)) c.deref.ensures.value)
    ∙ sym (in_order-is (body_marks (plain_module c.args.module.now)))
