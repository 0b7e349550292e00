use Rattle.std.proofs.Common.{◌∙◌, ap, refl, sym}
use Rattle.std.specs.Option.{option_copied}
use Rattle.cov_programs.proofs.Composing.{followed-so}
use Rattle.cov_reports.specs.Objects.{on_report}
use Rattle.cov_words.specs.Commands as plain
use Rattle.cov_words.specs.Plain.{command_view, text_view}
use Rattle.cov_app.specs.Groups.{of_report}
use Rattle.cov_app.proofs.inside.of_report.Goals as goal

pub returns-in-Report : goal.returns-in-Report
returns-in-Report g c =
    followed-so (on_report g.H.Shelf g.V.Vault g.M.Maker g.O.Sink)
    (ap (λ x. of_report (plain.report c.in-Report.show c.in-Report.fail_under x (option_copied c.as_deref-rcfile.result))) c.as_deref-data_file.ensures.value
    ∙ (ap (λ x. of_report (plain.report c.in-Report.show c.in-Report.fail_under (text_view c.in-Report.data_file) x)) c.as_deref-rcfile.ensures.value
    ∙ ap (λ x. of_report (command_view x)) (sym c.in-Report.is)))
    refl
    c.report.ensures

pub returns-in-Json : goal.returns-in-Json
returns-in-Json g c =
    followed-so (on_report g.H.Shelf g.V.Vault g.M.Maker g.O.Sink)
    (ap (λ x. of_report (plain.json x c.in-Json.fail_under (option_copied c.as_deref-data_file-in-Json.result) (option_copied c.as_deref-rcfile-in-Json.result))) c.as_deref-name.ensures.value
    ∙ (ap (λ x. of_report (plain.json (text_view c.in-Json.name) c.in-Json.fail_under x (option_copied c.as_deref-rcfile-in-Json.result))) c.as_deref-data_file-in-Json.ensures.value
    ∙ (ap (λ x. of_report (plain.json (text_view c.in-Json.name) c.in-Json.fail_under (text_view c.in-Json.data_file) x)) c.as_deref-rcfile-in-Json.ensures.value
    ∙ ap (λ x. of_report (command_view x)) (sym c.in-Json.is))))
    refl
    c.json.ensures

pub returns-in-Lcov : goal.returns-in-Lcov
returns-in-Lcov g c =
    followed-so (on_report g.H.Shelf g.V.Vault g.M.Maker g.O.Sink)
    (ap (λ x. of_report (plain.lcov x c.in-Lcov.fail_under (option_copied c.as_deref-data_file-in-Lcov.result) (option_copied c.as_deref-rcfile-in-Lcov.result))) c.as_deref-name-in-Lcov.ensures.value
    ∙ (ap (λ x. of_report (plain.lcov (text_view c.in-Lcov.name) c.in-Lcov.fail_under x (option_copied c.as_deref-rcfile-in-Lcov.result))) c.as_deref-data_file-in-Lcov.ensures.value
    ∙ (ap (λ x. of_report (plain.lcov (text_view c.in-Lcov.name) c.in-Lcov.fail_under (text_view c.in-Lcov.data_file) x)) c.as_deref-rcfile-in-Lcov.ensures.value
    ∙ ap (λ x. of_report (command_view x)) (sym c.in-Lcov.is))))
    refl
    c.lcov.ensures

pub returns-in-Annotate : goal.returns-in-Annotate
returns-in-Annotate g c =
    followed-so (on_report g.H.Shelf g.V.Vault g.M.Maker g.O.Sink)
    (ap (λ x. of_report (plain.annotate x (option_copied c.as_deref-rcfile-in-Annotate.result) c.as_str-file.result.now)) c.as_deref-data_file-in-Annotate.ensures.value
    ∙ (ap (λ x. of_report (plain.annotate (text_view c.in-Annotate.data_file) x c.as_str-file.result.now)) c.as_deref-rcfile-in-Annotate.ensures.value
    ∙ (ap (λ x. of_report (plain.annotate (text_view c.in-Annotate.data_file) (text_view c.in-Annotate.rcfile) x)) c.as_str-file.ensures.value
    ∙ ap (λ x. of_report (command_view x)) (sym c.in-Annotate.is))))
    refl
    c.annotate.ensures
