use Rattle.cov_sql.proofs.Stepping.{worked, works_one, works_on, works_end}
use Rattle.std.proofs.Common.{rules, ◌≡◌, Err}
use Rattle.cov_sql.specs.declared.preparing.Start.TheVariants as start
use Rattle.cov_sql.proofs.Making.{prepares_new, no_preparing}
use Rattle.cov_sql.specs.SqlTexts.{insert_coverage_schema_text}
use Rattle.cov_sql.proofs.WrittenTexts.{of_insert_coverage_schema}
use Rattle.cov_sql.proofs.Denying.{refuses_stop, refuses_made}
use Rattle.cov_sql.proofs.Lacking.{never_unbuilt, never_new}
use Rattle.cov_sql.proofs.preparing.make_all.Goals as goal

pub returns-in_err-make_tables-clause-steps : goal.returns-in_err-make_tables-clause-steps
returns-in_err-make_tables-clause-steps g c =
    let is : c.from_residual.result ≡ Err c.in_err-make_tables.field-0.0 = search rules in
    works_end c.in_err-make_tables.ensures.steps is

pub returns-clause-steps : goal.returns-clause-steps
returns-clause-steps g c = works_on c.in_ok-make_tables.ensures.steps (works_one of_insert_coverage_schema c.insert_coverage_schema.ensures.works c.insert_coverage_schema.ensures.goes_on c.insert_coverage_schema.ensures.same_reference)

pub returns-in_err-make_tables-clause-prepares : goal.returns-in_err-make_tables-clause-prepares
returns-in_err-make_tables-clause-prepares g c tells =
    let is : c.from_residual.result ≡ Err c.in_err-make_tables.field-0.0 = search rules in
    no_preparing g.S.Store start.Nothing c.args.work.now.conn.now c.make_tables.new.work.conn.now _ _ is

pub returns-clause-prepares : goal.returns-clause-prepares
returns-clause-prepares g c tells =
    let told = c.make_tables.ensures.steps.goes_on.tells tells in
    prepares_new g.S.Store c.args.work.now.conn.now c.make_tables.new.work.conn.now c.insert_coverage_schema.new.work.conn.now c.in_ok-make_tables.field-0 _ (c.insert_coverage_schema.ensures.works told).survives
    (c.in_ok-make_tables.ensures.steps.works tells) (c.in_ok-make_tables.ensures.builds tells) (c.insert_coverage_schema.ensures.works told).told

pub returns-in_err-make_tables-clause-refuses : goal.returns-in_err-make_tables-clause-refuses
returns-in_err-make_tables-clause-refuses g c tells =
    let is : c.from_residual.result ≡ Err c.in_err-make_tables.field-0.0 = search rules in
    refuses_stop g.S.Store _ start.Nothing c.args.work.now.conn.now c.make_tables.new.work.conn.now _ _ is (c.in_err-make_tables.ensures.builds tells)

pub returns-clause-refuses : goal.returns-clause-refuses
returns-clause-refuses g c tells =
    let told = c.make_tables.ensures.steps.goes_on.tells tells in
    refuses_made g.S.Store start.Nothing c.args.work.now.conn.now c.make_tables.new.work.conn.now c.insert_coverage_schema.new.work.conn.now c.in_ok-make_tables.field-0 _ (c.insert_coverage_schema.ensures.works told).survives (c.in_ok-make_tables.ensures.builds tells)

pub returns-in_err-make_tables-clause-never : goal.returns-in_err-make_tables-clause-never
returns-in_err-make_tables-clause-never g c tells =
    let is : c.from_residual.result ≡ Err c.in_err-make_tables.field-0.0 = search rules in
    never_unbuilt g.S.Store _ c.args.work.now.conn.now c.make_tables.new.work.conn.now _ _ is (c.in_err-make_tables.ensures.builds tells)

pub returns-clause-never : goal.returns-clause-never
returns-clause-never g c tells =
    let now = c.make_tables.new.work.conn.now in
    let next = c.insert_coverage_schema.new.work.conn.now in
    let told = c.make_tables.ensures.steps.goes_on.tells tells in
    let one = worked g.S.Store insert_coverage_schema_text now next c.insert_coverage_schema.result of_insert_coverage_schema (c.insert_coverage_schema.ensures.works told).ran in
    never_new g.S.Store c.args.work.now.conn.now now next c.in_ok-make_tables.field-0 _ (c.insert_coverage_schema.ensures.works told).survives (c.in_ok-make_tables.ensures.steps.works tells) (c.in_ok-make_tables.ensures.builds tells) one
