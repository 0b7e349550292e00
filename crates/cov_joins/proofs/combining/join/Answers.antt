use Rattle.std.proofs.Common.{List, map, refl, ap, string_bytes}
use Rattle.cov_combine.specs.Aliases.{alias_of, rules_from}
use Rattle.cov_combine.specs.Combined.{combined}
use Rattle.cov_config.specs.Plain.{rules_view}
use Rattle.cov_data.specs.DataSet.{DataSet}
use Rattle.cov_programs.proofs.Composing.{followed-so, goes-on, on-nobody}
use Rattle.cov_step.specs.Objects.{on_vault}
use Rattle.cov_step.specs.Phases.{saving}
use Rattle.cov_calls.specs.Views.{answered_view}
use Rattle.cov_calls.proofs.Handing.{hands-on-why}
use Rattle.cov_joins.specs.Parts.{finishing, storing}
use Rattle.cov_joins.proofs.Opening.{finishing-open}
use Rattle.cov_joins.proofs.combining.join.Goals as goal

pub returns-in_err-save : goal.returns-in_err-save
returns-in_err-save g c =
    let others = map string_bytes c.args.others.now in
    goes-on (λ (all : List DataSet). storing c.args.keep c.args.own.now others (combined (alias_of (rules_from (rules_view c.args.paths.now))) all))
    (on-nobody (on_vault g.V.Vault) _ c.in_ok-all.ensures.kind)
    (hands-on-why _ (λ (a : Unit {0}). finishing c.args.keep c.args.own.now others) answered_view
    (followed-so (on_vault g.V.Vault) (ap (saving c.args.own.now) c.in_ok-all.ensures.data) refl c.in_err-save.ensures)
    (λ a. finishing-open c.args.keep c.args.own.now others) _ c.from_residual-in_err-save.ensures)
