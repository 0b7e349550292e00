use Rattle.std.proofs.Common.{◌≡◌, ℕ, List, map, ap, sym, ◌∙◌, Bor, Some, None, string_bytes}
use Rattle.std.specs.FinMap.{values}
use Rattle.std.specs.Option.{unwrap_or, option_map, option_or}
use Rattle.std.proofs.lemmas.Result.{IfOk-weaker}
use Rattle.cov_combine.specs.Aliases.{alias_among, alias_of, moved, first_left}
use Rattle.cov_combine.proofs.RuleMaps.{values-rules_by_name}
use Rattle.cov_combine.proofs.aliases.AliasRules.alias.Goals as goal

abbrev now : Bor (List ℕ) → List ℕ
now p = p.now

pub loop-name-init : goal.loop-name-init
loop-name-init c =
    let given = c.into_iter-name-iterator.ensures.into_iter_gives in
    let parts = map now c.in_ok-parts.parts.items in
    ap (λ rs. alias_among rs parts) (sym (ap values c.self.view_is) ∙ values-rules_by_name c.self.inside.rules.entries given.5 ∙ ap (map (λ e. e.1)) (sym given.0))

pub returns-in-Some-2 : goal.returns-in-Some-2
returns-in-Some-2 c =
    let parts = map now c.in_ok-parts.parts.items in
    let rule = c.in-Some.rule.now in
    let rest = alias_among (map (λ e. e.1) c.next.new.self) parts in
    let here : option_map (moved rule.0) (first_left rule.1 parts) ≡ Some (string_bytes c.in-Some-2.alias) =
    sym (c.in_ok-alias.ensures ∙ ap (λ xs. option_map (moved rule.0) (first_left rule.1 (map now xs))) c.as_slice.ensures.value) ∙ ap (option_map string_bytes) c.in-Some-2.is in
    let found = c.loop-name.invariant ∙ ap (λ xs. alias_among (map (λ e. e.1) xs) parts) c.in-Some.ensures.steps ∙ ap (λ o. option_or o rest) here in
    sym (ap (λ cs. unwrap_or (alias_among (values c.args.self.now) cs) c.args.path.now) (sym c.in_ok-parts.ensures) ∙ ap (λ o. unwrap_or o c.args.path.now) found)

pub loop-name-preserved : goal.loop-name-preserved
loop-name-preserved c =
    let parts = map now c.in_ok-parts.parts.items in
    let rule = c.in-Some.rule.now in
    let rest = alias_among (map (λ e. e.1) c.next.new.self) parts in
    let here : option_map (moved rule.0) (first_left rule.1 parts) ≡ None =
    sym (c.in_ok-alias.ensures ∙ ap (λ xs. option_map (moved rule.0) (first_left rule.1 (map now xs))) c.as_slice.ensures.value) ∙ ap (option_map string_bytes) c.in_default.is in
    c.loop-name.invariant ∙ ap (λ xs. alias_among (map (λ e. e.1) xs) parts) c.in-Some.ensures.steps ∙ ap (λ o. option_or o rest) here

pub returns : goal.returns
returns c =
    let path = c.args.path.now in
    let none = c.loop-name.invariant ∙ ap (λ xs. alias_among (map (λ e. e.1) xs) (map now c.in_ok-parts.parts.items)) c.in-None.ensures.steps.0 in
    let same : alias_of c.args.self.now path ≡ path = ap (λ cs. unwrap_or (alias_among (values c.args.self.now) cs) path) (sym c.in_ok-parts.ensures) ∙ ap (λ o. unwrap_or o path) none in
    IfOk-weaker c.from_str.result (λ t. string_bytes t ≡ path) (λ t. string_bytes t ≡ alias_of c.args.self.now path) (λ t e. e ∙ sym same) c.from_str.ensures.ok
