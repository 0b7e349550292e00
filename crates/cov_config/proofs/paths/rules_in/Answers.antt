use Rattle.std.proofs.Common.{◌≡◌, ◌++◌, ◌∷◌, [], List, ap, sym, ◌∙◌, option_map, Some, None, cond, codes, Err, Vec, Global, String, string_bytes}
use Rattle.std.proofs.lemmas.List.{map_push}
use Rattle.toml.specs.View.{view, members_view}
use Rattle.cov_file_names.specs.Forms.{Text}
use Rattle.cov_config.specs.Forms.{rule_texts}
use Rattle.cov_config.specs.Settings.{key_name, in_order, rules_in}
use Rattle.cov_config.specs.Plain.{rules_view, texts_view}
use Rattle.cov_config.proofs.Rules.{Rules, after, after-nil, after-rule, after-bad, after-all}
use Rattle.cov_config.proofs.Orders.{as_they_stand}
use Rattle.cov_config.proofs.Readings.{named}
use Rattle.cov_config.proofs.paths.rules_in.Goals as goal

abbrev seen : Vec (String Global × Vec (String Global) Global) Global → Rules
seen rules = rules_view rules.items

abbrev rule_view : String Global × Vec (String Global) Global → Text × List Text
rule_view r = (string_bytes r.0, texts_view r.1)

pub loop-name-init : goal.loop-name-init
loop-name-init c =
    let given = c.into_iter-name-iterator.ensures.into_iter_gives in
    let meant = rules_in (members_view c.args.table.now.entries) in
    ap rules_in (as_they_stand c.args.table.now.entries given.5) ∙ after-nil meant ∙ ap (λ rules. after (rules_view rules) meant) (sym c.new-rules.ensures.items)
    ∙ ap (λ es. after (seen c.new-rules.result) (rules_in (members_view es))) (sym given.0)

pub returns-in_default : goal.returns-in_default
returns-in_default c =
    let rest = members_view c.next.new.self in
    let name = string_bytes c.in-Some.name.now in
    let before = seen c.loop-name.rules in
    let bad : rule_texts (view c.in-Some.value.now) ≡ None = sym c.in_ok-texts.ensures ∙ ap (option_map texts_view) c.in_default.is in
    let named_so = ap (λ n. key_name (codes "paths") n) c.as_str.ensures.value in
    let meant : rules_in (in_order (members_view c.args.table.now.entries)) ≡ Err (key_name (codes "paths") c.as_str.result.now) =
    c.loop-name.invariant ∙ ap (λ es. after before (rules_in (members_view es))) c.in-Some.ensures.steps
    ∙ after-bad before name (view c.in-Some.value.now) rest bad ∙ ap Err (sym named_so) in
    named seen _ _ c.bad_key.result c.bad_key.ensures meant

pub loop-name-preserved : goal.loop-name-preserved
loop-name-preserved c =
    let rest = members_view c.next.new.self in
    let before = seen c.loop-name.rules in
    let rule : rule_texts (view c.in-Some.value.now) ≡ Some (texts_view c.in-Some-2.texts) = sym c.in_ok-texts.ensures ∙ ap (option_map texts_view) c.in-Some-2.is in
    let pair : String Global × Vec (String Global) Global = (c.in_ok-name.name, c.in-Some-2.texts) in
    let items = c.push.ensures.items ∙ ap (λ b. cond b (c.loop-name.rules.items ++ pair ∷ []) c.loop-name.rules.items) (sym c.in_ok-map_err.ensures.variant) in
    let name = c.in_ok-name.ensures.ok ∙ c.as_str-in-loop-name.ensures.value in
    let pushed : seen c.push.new.self ≡ before ++ (string_bytes c.in-Some.name.now, texts_view c.in-Some-2.texts) ∷ [] =
    ap rules_view items ∙ map_push rule_view c.loop-name.rules.items pair ∙ ap (λ n. before ++ (n, texts_view c.in-Some-2.texts) ∷ []) name in
    c.loop-name.invariant ∙ ap (λ es. after before (rules_in (members_view es))) c.in-Some.ensures.steps
    ∙ after-rule before (string_bytes c.in-Some.name.now) (view c.in-Some.value.now) rest (texts_view c.in-Some-2.texts) rule
    ∙ ap (λ rules. after rules (rules_in rest)) (sym pushed)

pub returns : goal.returns
returns c =
    let before = seen c.loop-name.rules in
    c.loop-name.invariant ∙ ap (λ es. after before (rules_in (members_view es))) c.in-None.ensures.steps.0 ∙ after-all before
