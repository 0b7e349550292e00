use Rattle.std.proofs.Common.{◌∙◌, ap, ap₂, string_bytes}
use Rattle.cov_analysis.specs.Analyses.{analysis_view}
use Rattle.cov_analysis.specs.Lines.{is_among}
use Rattle.cov_lcov.specs.Annotated.{annotated_from}
use Rattle.cov_lcov.specs.Views.{texts_view}
use Rattle.cov_lcov.proofs.Pieces.{marks_as, said}
use Rattle.cov_lcov.proofs.annotating.annotate.Goals as goal

pub returns : goal.returns
returns c =
    said string_bytes c.annotated.result _ _ c.annotated.ensures
    (ap₂ (λ mark texts. annotated_from mark 1 texts)
    (marks_as _ (analysis_view c.args.file.now) (λ line. c.in_ok-missing.ensures line ∙ ap (λ lines. is_among lines line) c.deref.ensures.value)
    (λ line. c.in_ok-statements.ensures line ∙ ap (λ lines. is_among lines line) c.deref-2.ensures.value)
    (λ line. c.in_ok-excluded.ensures line ∙ ap (λ lines. is_among lines line) c.deref-3.ensures.value))
    (ap texts_view c.deref-4.ensures.value ∙ c.in_ok-texts.ensures))
