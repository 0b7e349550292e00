use Rattle.std.proofs.Common.{rules, ◌≡◌, ap, ◌∙◌, Some}
use Rattle.cov_vault.specs.declared.vault.Content.TheVariants.{Good, NotSchema7}
use Rattle.cov_vault.proofs.Named.{get-absent, get-present, replaced_at}
use Rattle.cov_vault.proofs.entries.Entries.save.Goals as goal

pub returns-in_default-clause-replaces : goal.returns-in_default-clause-replaces
returns-in_default-clause-replaces c = λ h. let none = get-absent c.args.name.now c.args.self.now.pairs.items (search rules) in cc

pub returns-then-is_not_schema-clause-not_schema : goal.returns-then-is_not_schema-clause-not_schema
returns-then-is_not_schema-clause-not_schema c = λ _.
    get-present c.args.name.now c.args.self.now.pairs.items c.in-Some.at c.index.result.now (search rules) (search rules)
    ∙ ap Some (c.is_not_schema.ensures.0 c.if-is_not_schema.true)

pub returns-clause-ok : goal.returns-clause-ok
returns-clause-ok c =
    replaced_at c.args.name.now (Good c.args.content.now) c.args.self.now.pairs.items c.in-Some.at c.index_mut.result.now (Good c.in_ok-content.content) (search rules) c.index_mut.ensures.value (ap Good c.in_ok-content.ensures)

pub returns-clause-replaces : goal.returns-clause-replaces
returns-clause-replaces c = λ h.
    let had = get-present c.args.name.now c.args.self.now.pairs.items c.in-Some.at c.index.result.now (search rules) (search rules) in
    let is : c.index.result.now.1 ≡ NotSchema7 = cc in
    let no = c.is_not_schema.ensures.1 is in
    cc
