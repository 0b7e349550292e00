use Rattle.std.proofs.Common.{List, ap, refl, map, string_bytes}
use Rattle.cov_config.specs.Plain.{rules_view}
use Rattle.cov_file_names.specs.Forms.{Text}
use Rattle.cov_programs.specs.Programs.{bind}
use Rattle.cov_programs.proofs.Composing.{followed-so, goes-on}
use Rattle.cov_programs.proofs.Each.{then-open}
use Rattle.cov_step.specs.Answers.{Before}
use Rattle.cov_step.specs.Objects.{on_vault}
use Rattle.cov_step.specs.Phases.{inputs}
use Rattle.cov_calls.specs.Views.{answered_view, before_view}
use Rattle.cov_calls.proofs.Handing.{hands-on-why}
use Rattle.cov_joins.specs.Parts.{gathering}
use Rattle.cov_joins.proofs.Opening.{inputs-open, gathering-open}
use Rattle.cov_joins.proofs.combining.combine_into.Goals as goal

pub returns-in_err-standing : goal.returns-in_err-standing
returns-in_err-standing g c =
    hands-on-why _ (λ (was : Before). bind (inputs c.args.own.now (map string_bytes c.args.names.now)) (λ (others : List Text). gathering c.args.how.append c.args.how.keep c.args.own.now (rules_view c.args.paths.now) was others)) answered_view
    c.in_err-standing.ensures
    (λ was. then-open (inputs c.args.own.now (map string_bytes c.args.names.now)) _ (inputs-open c.args.own.now (map string_bytes c.args.names.now)) (λ others. gathering-open c.args.how.append c.args.how.keep c.args.own.now (rules_view c.args.paths.now) was others))
    _ c.from_residual.ensures

pub returns-in_err-others : goal.returns-in_err-others
returns-in_err-others g c =
    goes-on (λ (was : Before). bind (inputs c.args.own.now (map string_bytes c.args.names.now)) (λ (others : List Text). gathering c.args.how.append c.args.how.keep c.args.own.now (rules_view c.args.paths.now) was others))
    c.in_ok-standing.ensures
    (hands-on-why _ (λ (others : List Text). gathering c.args.how.append c.args.how.keep c.args.own.now (rules_view c.args.paths.now) (before_view c.in_ok-standing.standing) others) answered_view c.in_err-others.ensures
    (λ others. gathering-open c.args.how.append c.args.how.keep c.args.own.now (rules_view c.args.paths.now) (before_view c.in_ok-standing.standing) others) _ c.from_residual-in_err-others.ensures)

pub returns : goal.returns
returns g c =
    goes-on (λ (was : Before). bind (inputs c.args.own.now (map string_bytes c.args.names.now)) (λ (others : List Text). gathering c.args.how.append c.args.how.keep c.args.own.now (rules_view c.args.paths.now) was others))
    c.in_ok-standing.ensures
    (goes-on (λ (others : List Text). gathering c.args.how.append c.args.how.keep c.args.own.now (rules_view c.args.paths.now) (before_view c.in_ok-standing.standing) others)
    c.in_ok-others.ensures
    (followed-so (on_vault g.V.Vault) (ap (λ others. gathering c.args.how.append c.args.how.keep c.args.own.now (rules_view c.args.paths.now) (before_view c.in_ok-standing.standing) (map string_bytes others)) c.as_slice.ensures.value) refl c.gather.ensures))
