use Rattle.std.proofs.Common.{IfOk, ap, subst, ◌∙◌}
use Rattle.std.specs.List.{AllZip}
use Rattle.cov_data.specs.Rows.{lent_view}
use Rattle.cov_sql.specs.SavedData.{lent_texts, IsSavedRow}
use Rattle.cov_sql.proofs.saved.numbered_by.Goals as goal

pub returns : goal.returns
returns c =
    subst (λ ps. IfOk c.numbered.result (λ all. AllZip (λ r s. IsSavedRow ps (lent_texts c.args.contexts.now) (lent_view r) s) c.args.rows.now all.items))
    (ap lent_texts c.deref.ensures.value ∙ c.in_ok-lent_paths.ensures) c.numbered.ensures
