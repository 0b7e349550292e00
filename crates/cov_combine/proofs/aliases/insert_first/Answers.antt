use Rattle.std.proofs.Common.{◌≡◌, true, false, cond, ap, sym, ◌∙◌}
use Rattle.std.specs.Option.{is_some}
use Rattle.std.specs.FinMap.{insert, contains_key}
use Rattle.cov_combine.specs.Stored.{rules_by_name}
use Rattle.cov_combine.proofs.RuleMaps.{get-rules_by_name, rules_by_name-insert_entry}
use Rattle.cov_combine.proofs.aliases.insert_first.Goals as goal

pub returns-then-contains_key : goal.returns-then-contains_key
returns-then-contains_key c =
    let m = rules_by_name c.args.rules.now.entries in
    let name = c.args.name.now in
    let has : contains_key m name ≡ true = ap is_some (get-rules_by_name c.args.rules.now.entries name) ∙ sym c.contains_key.ensures ∙ c.if-contains_key.true in
    sym (ap (λ b. cond b m (insert m name c.args.rule)) has)

pub returns : goal.returns
returns c =
    let es = c.args.rules.now.entries in
    let m = rules_by_name es in
    let name = c.args.name.now in
    let has : contains_key m name ≡ false = ap is_some (get-rules_by_name es name) ∙ sym c.contains_key.ensures ∙ c.if-contains_key.false in
    ap rules_by_name c.in_ok-insert.ensures.entries ∙ rules_by_name-insert_entry c.in_ok-from_str.field-0 c.args.rule es
    ∙ ap (λ n. insert m n c.args.rule) c.in_ok-from_str.ensures.ok
    ∙ sym (ap (λ b. cond b m (insert m name c.args.rule)) has)
