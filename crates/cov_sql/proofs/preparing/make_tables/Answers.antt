use Rattle.std.proofs.Common.{rules, ◌≡◌, Ok, Err, sym, subst, take}
use Rattle.std.proofs.lemmas.List.{take_all}
use Rattle.cov_sql.specs.Making.{Builds}
use Rattle.cov_sql.proofs.Stepping.{works_none, works_on, works_end}
use Rattle.cov_sql.proofs.Filling.{take_got}
use Rattle.cov_sql.proofs.Making.{builds_end, builds_none, builds_next}
use Rattle.cov_sql.proofs.preparing.make_tables.Goals as goal

pub returns-in_err-make_table-clause-builds : goal.returns-in_err-make_table-clause-builds
returns-in_err-make_table-clause-builds g c tells =
    let is : c.from_residual.result ≡ Err c.in_err-make_table.field-0.0 = search rules in
    let told = c.loop-table.invariant.steps.goes_on.tells tells in
    builds_end g.S.Store (take c.loop-table.table-index c.args.tables.now) c.args.tables.now _ c.args.work.now.conn.now c.loop-table.work.conn.now c.make_table.new.work.conn.now tt _ _ is (c.make_table.ensures.steps.survives told)
    (c.loop-table.invariant.steps.works tells) (c.in_err-make_table.ensures.told told)

pub returns-clause-builds : goal.returns-clause-builds
returns-clause-builds g c tells =
    subst (λ names. Builds g.S.Store names c.args.work.now.conn.now c.loop-table.work.conn.now (Ok tt)) (take_all c.loop-table.table-index c.args.tables.now c.loop-table-test.false) (c.loop-table.invariant.builds tells)

pub returns-in_err-make_table-clause-steps : goal.returns-in_err-make_table-clause-steps
returns-in_err-make_table-clause-steps g c =
    let is : c.from_residual.result ≡ Err c.in_err-make_table.field-0.0 = search rules in
    works_end (works_on c.loop-table.invariant.steps c.in_err-make_table.ensures.steps) is

pub loop-table-init : goal.loop-table-init
loop-table-init g c =
    let first = c.args.work.now.conn.now in
    record {
      steps = works_none _ _;
      builds = λ tells. builds_none g.S.Store first;
    }

pub loop-table-preserved : goal.loop-table-preserved
loop-table-preserved g c =
    let first = c.args.work.now.conn.now in
    let now = c.loop-table.work.conn.now in
    let next = c.make_table.new.work.conn.now in
    let all = c.args.tables.now in
    let i = c.loop-table.table-index in
    record {
      steps = works_on c.loop-table.invariant.steps c.in_ok-make_table.ensures.steps;
      builds = λ tells. let told = c.loop-table.invariant.steps.goes_on.tells tells in
          subst (λ names. Builds g.S.Store names first next (Ok tt)) (sym (take_got all i _ c.loop-table-test.true))
          (builds_next g.S.Store (take i all) _ first now next tt (c.make_table.ensures.steps.survives told) (c.loop-table.invariant.steps.works tells) (c.loop-table.invariant.builds tells) (c.in_ok-make_table.ensures.told told));
    }
