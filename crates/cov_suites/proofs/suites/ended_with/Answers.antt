use Rattle.std.proofs.Common.{List, ℕ, ap, refl, ◌∙◌}
use Rattle.cov_programs.specs.Programs.{ask}
use Rattle.cov_programs.proofs.Composing.{followed-so, goes-on, on-left, on-right}
use Rattle.cov_step.specs.Answers.{on, sink_refusal}
use Rattle.cov_step.specs.Calls.{Answered, writes}
use Rattle.cov_step.specs.Objects.{on_sink, on_vault}
use Rattle.cov_step.specs.Phases.{save_last}
use Rattle.cov_step.specs.Testing.{suite_answered}
use Rattle.cov_calls.specs.Views.{answered_view}
use Rattle.cov_calls.proofs.Handing.{hands-on-why}
use Rattle.cov_suites.specs.Views.{results_view}
use Rattle.cov_suites.proofs.suites.ended_with.Goals as goal

pub returns-in_err-write : goal.returns-in_err-write
returns-in_err-write g c =
    hands-on-why _ (λ (w : Unit {0}). save_last c.args.own.now c.args.run.now.rows (suite_answered (results_view c.args.run.now.tests.items))) answered_view
    (on-right (on_vault g.V.Vault) (on_sink g.O.Sink) _ (followed-so (on_sink g.O.Sink) (ap (λ (bytes : List ℕ). ask (writes bytes) (on sink_refusal)) (c.as_bytes.ensures.value ∙ c.requires)) refl c.in_err-write.ensures))
    (λ w. tt) _ c.from_residual.ensures

pub returns : goal.returns
returns g c =
    goes-on (λ (w : Unit {0}). save_last c.args.own.now c.args.run.now.rows (suite_answered (results_view c.args.run.now.tests.items)))
    (on-right (on_vault g.V.Vault) (on_sink g.O.Sink) _ (followed-so (on_sink g.O.Sink) (ap (λ (bytes : List ℕ). ask (writes bytes) (on sink_refusal)) (c.as_bytes.ensures.value ∙ c.requires)) refl c.in_ok-write.ensures))
    (on-left (on_vault g.V.Vault) (on_sink g.O.Sink) _
    (followed-so (on_vault g.V.Vault) (ap (λ (a : Answered). save_last c.args.own.now c.args.run.now.rows a) (c.answered_by.ensures ∙ ap (λ ts. suite_answered (results_view ts)) c.deref.ensures.value)) refl c.save_last.ensures))
