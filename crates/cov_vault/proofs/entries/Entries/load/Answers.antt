use Rattle.std.proofs.Common.{rules, ap, sym, ◌∙◌, Some}
use Rattle.cov_data.specs.DataSet.{DataSet}
use Rattle.cov_vault.specs.declared.vault.Content.TheVariants.{Good}
use Rattle.cov_vault.proofs.Named.{get-absent, get-present}
use Rattle.cov_vault.proofs.entries.Entries.load.Goals as goal

pub returns-in_default-clause-absent : goal.returns-in_default-clause-absent
returns-in_default-clause-absent c = λ _. get-absent c.args.name.now c.args.self.now.pairs.items (search rules)

pub returns-in_ok-copied-in-Good-clause-found : goal.returns-in_ok-copied-in-Good-clause-found
returns-in_ok-copied-in-Good-clause-found c =
    get-present c.args.name.now c.args.self.now.pairs.items c.in-Some.place c.index.result.now (search rules) (search rules)
    ∙ ap Some c.in-Good.is ∙ ap (λ (d : DataSet). Some (Good d)) (sym c.in_ok-copied-in-Good.ensures)

pub returns-in-NotSchema7-clause-not_schema : goal.returns-in-NotSchema7-clause-not_schema
returns-in-NotSchema7-clause-not_schema c = λ _.
    get-present c.args.name.now c.args.self.now.pairs.items c.in-Some.place c.index.result.now (search rules) (search rules) ∙ ap Some c.in-NotSchema7.is

pub returns-in-BadRow-clause-bad_row : goal.returns-in-BadRow-clause-bad_row
returns-in-BadRow-clause-bad_row c = λ row same.
    let had = get-present c.args.name.now c.args.self.now.pairs.items c.in-Some.place c.index.result.now (search rules) (search rules) ∙ ap Some c.in-BadRow.is in
    search (rules, had, same)
