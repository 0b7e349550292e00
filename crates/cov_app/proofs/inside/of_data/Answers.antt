use Rattle.std.proofs.Common.{◌∙◌, ap, refl, sym, map, string_bytes}
use Rattle.std.specs.Option.{option_copied}
use Rattle.cov_programs.proofs.Composing.{followed-so, on-left}
use Rattle.cov_reports.specs.Objects.{on_data, on_sources, on_report}
use Rattle.cov_step.specs.Objects.{on_maker, on_sink}
use Rattle.cov_words.specs.Commands as plain
use Rattle.cov_words.specs.Plain.{command_view, text_view}
use Rattle.cov_app.specs.Groups.{of_data}
use Rattle.cov_app.proofs.Groups.{no-data}
use Rattle.cov_app.proofs.inside.of_data.Goals as goal

pub returns-in-Combine : goal.returns-in-Combine
returns-in-Combine g c =
    followed-so (on_report g.H.Shelf g.V.Vault g.M.Maker g.O.Sink)
    (ap (λ x. of_data (plain.combine c.in-Combine.append c.in-Combine.keep x (option_copied c.as_deref-rcfile.result) (map string_bytes c.as_slice.result.now))) c.as_deref-data_file.ensures.value
    ∙ (ap (λ x. of_data (plain.combine c.in-Combine.append c.in-Combine.keep (text_view c.in-Combine.data_file) x (map string_bytes c.as_slice.result.now))) c.as_deref-rcfile.ensures.value
    ∙ (ap (λ x. of_data (plain.combine c.in-Combine.append c.in-Combine.keep (text_view c.in-Combine.data_file) (text_view c.in-Combine.rcfile) (map string_bytes x))) c.as_slice.ensures.value
    ∙ ap (λ x. of_data (command_view x)) (sym c.in-Combine.is))))
    refl
    (on-left (on_sources g.H.Shelf g.V.Vault g.M.Maker) (on_sink g.O.Sink) _ (on-left (on_data g.H.Shelf g.V.Vault) (on_maker g.M.Maker) _ c.combine.ensures))

pub returns-in-Erase : goal.returns-in-Erase
returns-in-Erase g c =
    followed-so (on_report g.H.Shelf g.V.Vault g.M.Maker g.O.Sink)
    (ap (λ x. of_data (plain.erase x (option_copied c.as_deref-in-Erase.result))) c.as_deref.ensures.value
    ∙ (ap (λ x. of_data (plain.erase (text_view c.in-Erase.data_file) x)) c.as_deref-in-Erase.ensures.value
    ∙ ap (λ x. of_data (command_view x)) (sym c.in-Erase.is)))
    refl
    (on-left (on_sources g.H.Shelf g.V.Vault g.M.Maker) (on_sink g.O.Sink) _ (on-left (on_data g.H.Shelf g.V.Vault) (on_maker g.M.Maker) _ c.erase.ensures))

pub returns-in_default : goal.returns-in_default
returns-in_default g c =
    followed-so (on_report g.H.Shelf g.V.Vault g.M.Maker g.O.Sink) (no-data _ c.in_default.not-Combine c.in_default.not-Erase) refl c.of_report.ensures
