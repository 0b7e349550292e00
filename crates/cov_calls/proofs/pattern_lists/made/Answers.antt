use Rattle.std.proofs.Common.{ℕ, List, ◌++◌, length, map, refl, sym, ap, ◌∙◌, string_bytes}
use Rattle.std.proofs.lemmas.List.{length-map}
use Rattle.cov_programs.specs.Programs.{ask, bind, give}
use Rattle.cov_programs.proofs.Composing.{followed-so, goes-on}
use Rattle.cov_step.specs.Answers.{on, pattern_refusal}
use Rattle.cov_step.specs.Calls.{Step, Patterns, makes}
use Rattle.cov_step.specs.Objects.{on_maker}
use Rattle.cov_step.specs.Phases.{always}
use Rattle.cov_calls.specs.Views.{lists_view}
use Rattle.cov_calls.proofs.Handing.{hands-on-why}
use Rattle.cov_calls.proofs.pattern_lists.made.Goals as goal

-- the second list is made, and then both are given
abbrev freeing : List (List ℕ) → List (List ℕ) → Step (Unit {0})
freeing exclude partial = ask (makes (partial ++ always)) (on (pattern_refusal (length exclude)))

abbrev both : List (List ℕ) → List (List ℕ) → Step Patterns
both exclude partial = give (record { exclude = exclude; partial = partial ++ always })

pub returns-in_err-partial : goal.returns-in_err-partial
returns-in_err-partial g c =
    let exclude = map string_bytes c.args.exclude.now in
    let partial = map string_bytes c.args.partial.now in
    goes-on (λ (e : Unit {0}). bind (freeing exclude partial) (λ f. both exclude partial)) c.in_ok-excluding.ensures.follows
    (hands-on-why _ (λ (f : Unit {0}). both exclude partial) lists_view
    (followed-so (on_maker g.M.Maker)
    (ap (λ (texts : List (List ℕ)). ask (makes texts) (on (pattern_refusal (length c.args.exclude.now)))) (ap (map string_bytes) c.as_slice.ensures.value ∙ c.in-Ok.ensures)
    ∙ ap (λ (n : ℕ). ask (makes (partial ++ always)) (on (pattern_refusal n))) (sym (length-map c.args.exclude.now string_bytes)))
    refl c.in_err-partial.ensures.follows)
    (λ f. tt) _ c.from_residual-in_err-partial.ensures)
