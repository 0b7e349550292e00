use Rattle.std.proofs.Common.{rules, ◌≡◌, false, Err}
use Rattle.cov_sql.specs.declared.preparing.Start.TheVariants as start
use Rattle.cov_sql.proofs.Making.{prepares_old, prepares_counted, no_preparing}
use Rattle.cov_sql.proofs.Stepping.{works_on, works_end}
use Rattle.cov_sql.proofs.Lacking.{never_counting, never_uncounted}
use Rattle.cov_sql.proofs.preparing.empty_and_count.Goals as goal

pub returns-in_err-make_table-clause-prepares : goal.returns-in_err-make_table-clause-prepares
returns-in_err-make_table-clause-prepares g c tells =
    let is : c.from_residual.result ≡ Err c.in_err-make_table.field-0.0 = search rules in
    no_preparing g.S.Store (start.Tables false) c.args.work.now.conn.now c.make_table.new.work.conn.now _ _ is

pub returns-clause-prepares : goal.returns-clause-prepares
returns-clause-prepares g c tells =
    let told = c.make_table.ensures.steps.goes_on.tells tells in
    let first = c.args.work.now.conn.now in
    let mid = c.make_table.new.work.conn.now in
    let last = c.empty_tables.new.work.conn.now in
    prepares_counted g.S.Store first mid last c.in_ok-make_table.field-0 _ (c.empty_tables.ensures.steps.survives told) (c.in_ok-make_table.ensures.steps.works tells) (c.in_ok-make_table.ensures.told tells)
    (prepares_old g.S.Store mid last c.empty_tables.result (c.empty_tables.ensures.empties told))

pub returns-in_err-make_table-clause-steps : goal.returns-in_err-make_table-clause-steps
returns-in_err-make_table-clause-steps g c =
    let is : c.from_residual.result ≡ Err c.in_err-make_table.field-0.0 = search rules in
    works_end c.in_err-make_table.ensures.steps is

pub returns-clause-steps : goal.returns-clause-steps
returns-clause-steps g c = works_on c.in_ok-make_table.ensures.steps c.empty_tables.ensures.steps

pub returns-in_err-make_table-clause-never : goal.returns-in_err-make_table-clause-never
returns-in_err-make_table-clause-never g c tells =
    let is : c.from_residual.result ≡ Err c.in_err-make_table.field-0.0 = search rules in
    never_uncounted g.S.Store c.args.work.now.conn.now c.make_table.new.work.conn.now _ _ is (c.in_err-make_table.ensures.told tells)

pub returns-clause-never : goal.returns-clause-never
returns-clause-never g c tells =
    let told = c.make_table.ensures.steps.goes_on.tells tells in
    never_counting g.S.Store c.args.work.now.conn.now c.make_table.new.work.conn.now c.empty_tables.new.work.conn.now c.in_ok-make_table.field-0 _ (c.empty_tables.ensures.steps.survives told)
    (c.in_ok-make_table.ensures.steps.works tells) (c.in_ok-make_table.ensures.told tells) (c.empty_tables.ensures.steps.works told)
