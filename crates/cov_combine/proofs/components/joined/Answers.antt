use Rattle.std.proofs.Common.{◌≡◌, ℕ, List, ◌++◌, map, ap, sym, ◌∙◌, Bor, string_bytes}
use Rattle.cov_combine.specs.Aliases.{after, joined}
use Rattle.cov_combine.proofs.Parts.{joined-cons}
use Rattle.cov_combine.proofs.components.joined.Goals as goal

pub returns : goal.returns
returns c =
    let now : Bor (List ℕ) → List ℕ = λ p. p.now in
    let others = map now c.in-Some.others.now in
    let first : string_bytes c.in_ok-text.text ≡ c.in-Some.first.now.now = c.in_ok-text.ensures.ok in
    c.in_ok-push_after.ensures ∙ ap (λ t. t ++ after others) first ∙ sym (joined-cons c.in-Some.first.now.now others) ∙ ap (λ xs. joined (map now xs)) (sym c.in-Some.ensures.cases.0)
