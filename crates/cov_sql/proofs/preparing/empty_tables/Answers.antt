use Rattle.std.proofs.Common.{rules, ◌≡◌, Ok, Err, sym, subst, take}
use Rattle.std.proofs.lemmas.List.{take_all}
use Rattle.cov_sql.specs.Holding.{cleared_all, Empties}
use Rattle.cov_sql.proofs.Stepping.{works_none, works_on, works_end}
use Rattle.cov_sql.proofs.Filling.{take_got}
use Rattle.cov_sql.proofs.Making.{no_empty, empties_next, empties_none}
use Rattle.cov_sql.proofs.preparing.empty_tables.Goals as goal

pub returns-in_err-empty_table-clause-empties : goal.returns-in_err-empty_table-clause-empties
returns-in_err-empty_table-clause-empties g c tells =
    let is : c.from_residual.result ≡ Err c.in_err-empty_table.field-0.0 = search rules in
    no_empty g.S.Store (cleared_all c.args.tables.now) c.args.work.now.conn.now c.empty_table.new.work.conn.now _ _ is

pub returns-clause-empties : goal.returns-clause-empties
returns-clause-empties g c tells =
    subst (λ names. Empties g.S.Store (cleared_all names) c.args.work.now.conn.now c.loop-table.work.conn.now (Ok tt)) (take_all c.loop-table.table-index c.args.tables.now c.loop-table-test.false) (c.loop-table.invariant.empties tells)

pub returns-in_err-empty_table-clause-steps : goal.returns-in_err-empty_table-clause-steps
returns-in_err-empty_table-clause-steps g c =
    let is : c.from_residual.result ≡ Err c.in_err-empty_table.field-0.0 = search rules in
    works_end (works_on c.loop-table.invariant.steps c.in_err-empty_table.ensures.steps) is

pub loop-table-init : goal.loop-table-init
loop-table-init g c =
    let first = c.args.work.now.conn.now in
    record {
      steps = works_none _ _;
      empties = λ tells. empties_none g.S.Store first;
    }

pub loop-table-preserved : goal.loop-table-preserved
loop-table-preserved g c =
    let first = c.args.work.now.conn.now in
    let now = c.loop-table.work.conn.now in
    let next = c.empty_table.new.work.conn.now in
    let all = c.args.tables.now in
    let i = c.loop-table.table-index in
    record {
      steps = works_on c.loop-table.invariant.steps c.in_ok-empty_table.ensures.steps;
      empties = λ tells. let told = c.loop-table.invariant.steps.goes_on.tells tells in
          subst (λ names. Empties g.S.Store (cleared_all names) first next (Ok tt)) (sym (take_got all i _ c.loop-table-test.true))
          (empties_next g.S.Store (take i all) _ first now next tt (c.empty_table.ensures.steps.survives told) (c.loop-table.invariant.steps.works tells) (c.loop-table.invariant.empties tells) (c.in_ok-empty_table.ensures.empties told));
    }
