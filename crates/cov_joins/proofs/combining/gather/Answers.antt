use Rattle.std.proofs.Common.{Bool, List, ◌++◌, ap, refl, map, string_bytes}
use Rattle.cov_config.specs.Plain.{rules_view}
use Rattle.cov_data.specs.DataSet.{DataSet}
use Rattle.cov_programs.specs.Programs.{bind, each}
use Rattle.cov_programs.proofs.Composing.{followed-so, goes-on, on-nobody}
use Rattle.cov_step.specs.Objects.{on_vault}
use Rattle.cov_step.specs.Phases.{needed, own_input, some_input}
use Rattle.cov_calls.specs.Views.{answered_view, before_view}
use Rattle.cov_calls.proofs.Handing.{hands-on-why}
use Rattle.cov_joins.specs.Parts.{joining, list_of}
use Rattle.cov_joins.proofs.Opening.{own-open, loading-open, joining-open}
use Rattle.cov_joins.proofs.combining.gather.Goals as goal

pub returns-in_err-some_input : goal.returns-in_err-some_input
returns-in_err-some_input g c =
    hands-on-why _ (λ (a : Unit {0}). bind (own_input c.args.how.append c.args.own.now (before_view c.args.was)) (λ (first : List DataSet). bind (each needed (map string_bytes c.args.others.now)) (λ (rest : List DataSet). joining c.args.how.keep c.args.own.now (rules_view c.args.paths.now) (map string_bytes c.args.others.now) (first ++ rest)))) answered_view
    (on-nobody (on_vault g.V.Vault) _ (followed-so _ (ap (λ (own : Bool). some_input c.args.own.now own (map string_bytes c.args.others.now)) c.has_own.ensures) refl c.in_err-some_input.ensures.follows))
    (λ a. own-open c.args.how.append c.args.how.keep c.args.own.now (rules_view c.args.paths.now) (before_view c.args.was) (map string_bytes c.args.others.now)) _ c.from_residual.ensures

pub returns-in_err-first : goal.returns-in_err-first
returns-in_err-first g c =
    goes-on (λ (a : Unit {0}). bind (own_input c.args.how.append c.args.own.now (before_view c.args.was)) (λ (first : List DataSet). bind (each needed (map string_bytes c.args.others.now)) (λ (rest : List DataSet). joining c.args.how.keep c.args.own.now (rules_view c.args.paths.now) (map string_bytes c.args.others.now) (first ++ rest))))
    (on-nobody (on_vault g.V.Vault) _ (followed-so _ (ap (λ (own : Bool). some_input c.args.own.now own (map string_bytes c.args.others.now)) c.has_own.ensures) refl c.in_ok-some_input.ensures.follows))
    (hands-on-why _ (λ (first : List DataSet). bind (each needed (map string_bytes c.args.others.now)) (λ (rest : List DataSet). joining c.args.how.keep c.args.own.now (rules_view c.args.paths.now) (map string_bytes c.args.others.now) (first ++ rest))) answered_view
    (on-nobody (on_vault g.V.Vault) _ c.in_err-first.ensures.follows)
    (λ first. loading-open c.args.how.keep c.args.own.now (rules_view c.args.paths.now) (map string_bytes c.args.others.now) first) _ c.from_residual-in_err-first.ensures)

pub returns-in_err-rest : goal.returns-in_err-rest
returns-in_err-rest g c =
    goes-on (λ (a : Unit {0}). bind (own_input c.args.how.append c.args.own.now (before_view c.args.was)) (λ (first : List DataSet). bind (each needed (map string_bytes c.args.others.now)) (λ (rest : List DataSet). joining c.args.how.keep c.args.own.now (rules_view c.args.paths.now) (map string_bytes c.args.others.now) (first ++ rest))))
    (on-nobody (on_vault g.V.Vault) _ (followed-so _ (ap (λ (own : Bool). some_input c.args.own.now own (map string_bytes c.args.others.now)) c.has_own.ensures) refl c.in_ok-some_input.ensures.follows))
    (goes-on (λ (first : List DataSet). bind (each needed (map string_bytes c.args.others.now)) (λ (rest : List DataSet). joining c.args.how.keep c.args.own.now (rules_view c.args.paths.now) (map string_bytes c.args.others.now) (first ++ rest)))
    (on-nobody (on_vault g.V.Vault) _ c.in_ok-first.ensures.follows)
    (hands-on-why _ (λ (rest : List DataSet). joining c.args.how.keep c.args.own.now (rules_view c.args.paths.now) (map string_bytes c.args.others.now) (list_of c.in_ok-first.first ++ rest)) answered_view
    c.in_err-rest.ensures.follows
    (λ rest. joining-open c.args.how.keep c.args.own.now (rules_view c.args.paths.now) (map string_bytes c.args.others.now) (list_of c.in_ok-first.first ++ rest)) _ c.from_residual-in_err-rest.ensures))

pub returns : goal.returns
returns g c =
    goes-on (λ (a : Unit {0}). bind (own_input c.args.how.append c.args.own.now (before_view c.args.was)) (λ (first : List DataSet). bind (each needed (map string_bytes c.args.others.now)) (λ (rest : List DataSet). joining c.args.how.keep c.args.own.now (rules_view c.args.paths.now) (map string_bytes c.args.others.now) (first ++ rest))))
    (on-nobody (on_vault g.V.Vault) _ (followed-so _ (ap (λ (own : Bool). some_input c.args.own.now own (map string_bytes c.args.others.now)) c.has_own.ensures) refl c.in_ok-some_input.ensures.follows))
    (goes-on (λ (first : List DataSet). bind (each needed (map string_bytes c.args.others.now)) (λ (rest : List DataSet). joining c.args.how.keep c.args.own.now (rules_view c.args.paths.now) (map string_bytes c.args.others.now) (first ++ rest)))
    (on-nobody (on_vault g.V.Vault) _ c.in_ok-first.ensures.follows)
    (goes-on (λ (rest : List DataSet). joining c.args.how.keep c.args.own.now (rules_view c.args.paths.now) (map string_bytes c.args.others.now) (list_of c.in_ok-first.first ++ rest))
    c.in_ok-rest.ensures.follows c.join.ensures))
