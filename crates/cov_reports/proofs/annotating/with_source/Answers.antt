use Rattle.cov_programs.proofs.Composing.{goes-on, on-left, on-right}
use Rattle.cov_step.specs.Objects.{on_shelf, on_sink}
use Rattle.cov_reports.specs.Reports.{write_source}
use Rattle.cov_calls.specs.Views.{answered_view, lists_view}
use Rattle.cov_calls.proofs.Handing.{hands-on-why}
use Rattle.cov_reports.proofs.Texts.{source-of_text}
use Rattle.cov_reports.proofs.annotating.with_source.Goals as goal

pub returns-in_err-source : goal.returns-in_err-source
returns-in_err-source g c =
    hands-on-why _ (write_source (lists_view c.args.patterns.now) c.args.recorded.now) answered_view
    (on-left (on_shelf g.H.Shelf) (on_sink g.O.Sink) _ c.in_err-source.ensures) (λ f. tt) _ c.from_residual.ensures

pub returns : goal.returns
returns g c =
    goes-on (write_source (lists_view c.args.patterns.now) c.args.recorded.now)
    (on-left (on_shelf g.H.Shelf) (on_sink g.O.Sink) _ c.in_ok-source.ensures) (on-right (on_shelf g.H.Shelf) (on_sink g.O.Sink) _ c.write_source.ensures)

pub write_source-requires : goal.write_source-requires
write_source-requires g c = source-of_text g.H.Shelf c.args.path.now _ _ _ c.in_ok-source.ensures
