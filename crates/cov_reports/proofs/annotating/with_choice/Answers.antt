use Rattle.std.specs.Option.{option_copied}
use Rattle.cov_config.specs.Plain.{settings_view}
use Rattle.cov_programs.proofs.Composing.{goes-on}
use Rattle.cov_step.specs.Objects.{on_maker, on_sink}
use Rattle.cov_reports.specs.Objects.{on_data}
use Rattle.cov_reports.specs.Reports.{with_marks}
use Rattle.cov_calls.specs.Views.{answered_view}
use Rattle.cov_reports.proofs.Objects.{maker-first, past}
use Rattle.cov_calls.proofs.Handing.{hands-on-why}
use Rattle.cov_reports.proofs.annotating.with_choice.Goals as goal

pub returns-in_err-patterns : goal.returns-in_err-patterns
returns-in_err-patterns g c =
    hands-on-why _ (with_marks (settings_view c.args.settings.now) (option_copied c.args.data_file) c.args.path.now) answered_view
    (maker-first g.H.Shelf g.V.Vault g.M.Maker g.O.Sink _ _ _ c.in_err-patterns.ensures) (λ p. tt) _ c.from_residual.ensures

pub returns : goal.returns
returns g c =
    goes-on (with_marks (settings_view c.args.settings.now) (option_copied c.args.data_file) c.args.path.now)
    (maker-first g.H.Shelf g.V.Vault g.M.Maker g.O.Sink _ _ _ c.in_ok-patterns.ensures)
    (past (on_data g.H.Shelf g.V.Vault) (on_maker g.M.Maker) (on_sink g.O.Sink) _ c.with_marks.ensures)
