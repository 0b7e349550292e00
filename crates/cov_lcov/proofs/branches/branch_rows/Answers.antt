use Rattle.std.proofs.Common.{◌≡◌, ◌∙◌, ap, ap₂, string_bytes}
use Rattle.std.specs.BTreeSet.{contains}
use Rattle.std.specs.List.{list_any, zip}
use Rattle.cov_analysis.specs.Analyses.{analysis_view}
use Rattle.cov_analysis.specs.Branches.{Branch, branch_cmp, same_branch}
use Rattle.cov_lcov.specs.Lcov.{is_missing, leaves_covered}
use Rattle.cov_lcov.proofs.Pieces.{entries_so_far, leaves_as, rows_as, said}
use Rattle.cov_lcov.proofs.branches.branch_rows.Goals as goal

pub returns : goal.returns
returns c =
    let file = analysis_view c.args.file.now in
    let same : (branch : Branch) → contains branch_cmp c.in_ok-missing.missing branch ≡ is_missing file branch =
    λ branch. c.in_ok-missing.ensures branch ∙ ap (list_any (same_branch branch)) c.deref.ensures.value in
    said string_bytes c.rows.result _ _ c.rows.ensures
    (rows_as _ (is_missing file) _ (leaves_covered (is_missing file) file.branches) _ _ same
    (λ line. c.in_ok-covered.ensures line ∙ leaves_as _ (is_missing file) same _ line ∙ ap (λ branches. leaves_covered (is_missing file) branches line) c.deref-2.ensures.value)
    (c.deref-5.ensures.value ∙ c.in_ok-entries.ensures ∙ ap₂ (λ branches hits. entries_so_far (zip branches hits)) c.deref-3.ensures.value c.deref-4.ensures.value))
