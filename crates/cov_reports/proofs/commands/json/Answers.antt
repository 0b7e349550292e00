use Rattle.std.specs.Prelude.{codes}
use Rattle.std.specs.Option.{option_copied}
use Rattle.std.proofs.Common.{List, map, ap, refl}
use Rattle.cov_analysis.specs.Analyses.{analysis_view}
use Rattle.cov_analysis.specs.declared.analysis.Analysis.{Analysis}
use Rattle.cov_programs.specs.Objects.{beside}
use Rattle.cov_programs.proofs.Composing.{followed-so, goes-on}
use Rattle.cov_json.specs.Json.{json_bytes}
use Rattle.cov_step.specs.Names.{or_else}
use Rattle.cov_step.specs.Objects.{on_shelf, on_sink}
use Rattle.cov_reports.specs.Reports.{put_json, put_text}
use Rattle.cov_calls.specs.Views.{answered_view}
use Rattle.cov_reports.specs.Views.{findings_view}
use Rattle.cov_reports.proofs.Objects.{sources-first, ends-last}
use Rattle.cov_reports.proofs.Judging.{text-of}
use Rattle.cov_reports.proofs.Opening.{put_text-open}
use Rattle.cov_calls.proofs.Handing.{hands-on-why}
use Rattle.cov_reports.proofs.commands.json.Goals as goal

pub returns-in_err-findings : goal.returns-in_err-findings
returns-in_err-findings g c =
    hands-on-why _ (put_json (option_copied c.args.name) c.args.fail_under) answered_view
    (sources-first g.H.Shelf g.V.Vault g.M.Maker g.O.Sink _ c.in_err-findings.ensures) (λ r. put_text-open (or_else (option_copied c.args.name) (codes "coverage.json")) (json_bytes r.files r.arcs) c.args.fail_under r) _ c.from_residual.ensures

pub returns : goal.returns
returns g c =
    let f = c.in_ok-findings.findings in
    let r = findings_view f in
    goes-on (put_json (option_copied c.args.name) c.args.fail_under)
    (sources-first g.H.Shelf g.V.Vault g.M.Maker g.O.Sink _ c.in_ok-findings.ensures)
    (ends-last g.H.Shelf g.V.Vault g.M.Maker g.O.Sink _ _
    (followed-so (beside (on_shelf g.H.Shelf) (on_sink g.O.Sink))
    (ap (λ name. put_text name (json_bytes r.files r.arcs) c.args.fail_under r) c.name_of-name.ensures) refl
    (c.put_text.ensures (json_bytes r.files r.arcs)
    (text-of c.json_report-text.result (λ (files : List Analysis). json_bytes (map analysis_view files) f.arcs) c.deref.ensures.value c.json_report-text.ensures))))
