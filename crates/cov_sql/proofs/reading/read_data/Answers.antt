use Rattle.std.proofs.Common.{rules, ◌≡◌, ap, ◌∙◌}
use Rattle.sqlite.specs.Held.{state}
use Rattle.cov_vault.specs.declared.vault.Content.TheVariants.{Good, NotSchema7, BadRow}
use Rattle.cov_tables.specs.Content.{content}
use Rattle.cov_tables.specs.Given.{tables}
use Rattle.cov_sql.proofs.CellFields.{found_content}
use Rattle.cov_sql.proofs.reading.read_data.Goals as goal

pub returns-in-Good-clause-good : goal.returns-in-Good-clause-good
returns-in-Good-clause-good g c tells clean =
    let found = c.in_ok-found.ensures.told tells clean in
    let is : content (tables c.in_ok-found.found.tables) ≡ Good c.in-Good.whole = search rules in
    found_content (state g.S.Store c.args.base.now).now c.in_ok-found.found found.rows ∙ is

pub returns-in-NotSchema7-clause-not_schema : goal.returns-in-NotSchema7-clause-not_schema
returns-in-NotSchema7-clause-not_schema g c tells clean same =
    let found = c.in_ok-found.ensures.told tells clean in
    let is : content (tables c.in_ok-found.found.tables) ≡ NotSchema7 = search rules in
    found_content (state g.S.Store c.args.base.now).now c.in_ok-found.found found.rows ∙ is

pub returns-in-BadRow-clause-bad_row : goal.returns-in-BadRow-clause-bad_row
returns-in-BadRow-clause-bad_row g c tells clean row same =
    let found = c.in_ok-found.ensures.told tells clean in
    let is : content (tables c.in_ok-found.found.tables) ≡ BadRow c.in-BadRow.row = search rules in
    let one : c.in-BadRow.row ≡ row = cc in
    found_content (state g.S.Store c.args.base.now).now c.in_ok-found.found found.rows ∙ is ∙ ap BadRow one
