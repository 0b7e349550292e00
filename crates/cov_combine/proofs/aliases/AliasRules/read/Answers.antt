use Rattle.std.proofs.Common.{◌≡◌, [], ◌∷◌, ◌++◌, map, take, ap, sym, ◌∙◌, string_bytes}
use Rattle.std.proofs.lemmas.List.{map-append, take_more}
use Rattle.cov_combine.specs.Aliases.{rule_from, rules_from}
use Rattle.cov_combine.specs.Stored.{with_first, given_view}
use Rattle.cov_combine.proofs.RuleMaps.{rules_from-push}
use Rattle.cov_combine.proofs.aliases.AliasRules.read.Goals as goal

pub loop-name-preserved : goal.loop-name-preserved
loop-name-preserved c =
    let rules = c.args.rules.now in
    let i = c.loop-name.name-index in
    let item = c.loop-name-item.result in
    let before = map given_view (take i rules) in
    let rule : c.in_ok-rule.rule ≡ rule_from (map string_bytes item.1.items) = c.in_ok-rule.ensures ∙ ap (λ xs. rule_from (map string_bytes xs)) c.as_slice.ensures.value in
    c.in_ok-insert_first.ensures
    ∙ (λ j. with_first (c.loop-name.invariant j) (c.as_str.ensures.value j) (rule j))
    ∙ sym (rules_from-push before (string_bytes item.0) (map string_bytes item.1.items))
    ∙ ap rules_from (sym (map-append given_view (take i rules) (item ∷ [])))
    ∙ ap (λ xs. rules_from (map given_view xs)) (sym (take_more rules i item c.loop-name-test.true ∙ ap (λ x. take i rules ++ x ∷ []) (sym c.loop-name-item.is)))
