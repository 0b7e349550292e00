use Rattle.std.proofs.Common.{map, string_bytes}
use Rattle.cov_programs.proofs.Composing.{goes-on, on-nobody}
use Rattle.cov_step.specs.Objects.{on_maker}
use Rattle.cov_calls.specs.Parts.{making}
use Rattle.cov_calls.specs.Views.{lists_view}
use Rattle.cov_calls.proofs.Handing.{hands-on-why}
use Rattle.cov_calls.proofs.Patterning.{counting, sizing, lasting, counting-open, sizing-open, lasting-open}
use Rattle.cov_calls.proofs.pattern_lists.patterns_by.Goals as goal

pub returns-in_err-few : goal.returns-in_err-few
returns-in_err-few g c =
    hands-on-why _ (λ (a : Unit {0}). counting (map string_bytes c.args.exclude.now) (map string_bytes c.args.partial.now)) lists_view (on-nobody (on_maker g.M.Maker) _ c.in_err-few.ensures.follows) (λ a. counting-open (map string_bytes c.args.exclude.now) (map string_bytes c.args.partial.now)) _ c.from_residual.ensures

pub returns-in_err-few-2 : goal.returns-in_err-few-2
returns-in_err-few-2 g c =
    goes-on (λ (a : Unit {0}). counting (map string_bytes c.args.exclude.now) (map string_bytes c.args.partial.now)) (on-nobody (on_maker g.M.Maker) _ c.in_ok-few.ensures.follows)
    (hands-on-why _ (λ (b : Unit {0}). sizing (map string_bytes c.args.exclude.now) (map string_bytes c.args.partial.now)) lists_view (on-nobody (on_maker g.M.Maker) _ c.in_err-few-2.ensures.follows) (λ b. sizing-open (map string_bytes c.args.exclude.now) (map string_bytes c.args.partial.now)) _ c.from_residual-in_err-few-2.ensures)

pub returns-in_err-short : goal.returns-in_err-short
returns-in_err-short g c =
    goes-on (λ (a : Unit {0}). counting (map string_bytes c.args.exclude.now) (map string_bytes c.args.partial.now)) (on-nobody (on_maker g.M.Maker) _ c.in_ok-few.ensures.follows)
    (goes-on (λ (b : Unit {0}). sizing (map string_bytes c.args.exclude.now) (map string_bytes c.args.partial.now)) (on-nobody (on_maker g.M.Maker) _ c.in_ok-few-2.ensures.follows)
    (hands-on-why _ (λ (d : Unit {0}). lasting (map string_bytes c.args.exclude.now) (map string_bytes c.args.partial.now)) lists_view (on-nobody (on_maker g.M.Maker) _ c.in_err-short.ensures) (λ d. lasting-open (map string_bytes c.args.exclude.now) (map string_bytes c.args.partial.now)) _ c.from_residual-in_err-short.ensures))

pub returns-in_err-short-2 : goal.returns-in_err-short-2
returns-in_err-short-2 g c =
    goes-on (λ (a : Unit {0}). counting (map string_bytes c.args.exclude.now) (map string_bytes c.args.partial.now)) (on-nobody (on_maker g.M.Maker) _ c.in_ok-few.ensures.follows)
    (goes-on (λ (b : Unit {0}). sizing (map string_bytes c.args.exclude.now) (map string_bytes c.args.partial.now)) (on-nobody (on_maker g.M.Maker) _ c.in_ok-few-2.ensures.follows)
    (goes-on (λ (d : Unit {0}). lasting (map string_bytes c.args.exclude.now) (map string_bytes c.args.partial.now)) (on-nobody (on_maker g.M.Maker) _ c.in_ok-short.ensures)
    (hands-on-why _ (λ (e : Unit {0}). making (map string_bytes c.args.exclude.now) (map string_bytes c.args.partial.now)) lists_view (on-nobody (on_maker g.M.Maker) _ c.in_err-short-2.ensures) (λ e. tt) _ c.from_residual-in_err-short-2.ensures)))

pub returns : goal.returns
returns g c =
    goes-on (λ (a : Unit {0}). counting (map string_bytes c.args.exclude.now) (map string_bytes c.args.partial.now)) (on-nobody (on_maker g.M.Maker) _ c.in_ok-few.ensures.follows)
    (goes-on (λ (b : Unit {0}). sizing (map string_bytes c.args.exclude.now) (map string_bytes c.args.partial.now)) (on-nobody (on_maker g.M.Maker) _ c.in_ok-few-2.ensures.follows)
    (goes-on (λ (d : Unit {0}). lasting (map string_bytes c.args.exclude.now) (map string_bytes c.args.partial.now)) (on-nobody (on_maker g.M.Maker) _ c.in_ok-short.ensures)
    (goes-on (λ (e : Unit {0}). making (map string_bytes c.args.exclude.now) (map string_bytes c.args.partial.now)) (on-nobody (on_maker g.M.Maker) _ c.in_ok-short-2.ensures)
    c.made.ensures)))
