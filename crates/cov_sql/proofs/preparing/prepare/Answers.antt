use Rattle.std.proofs.Common.{rules, ◌≡◌, true, false, sym, subst}
use Rattle.cov_sql.specs.declared.preparing.Start.TheVariants as start
use Rattle.cov_sql.specs.Making.{Prepares, NeverLacks}
use Rattle.cov_sql.proofs.Making.{prepares_old}
use Rattle.cov_sql.proofs.Denying.{never_nothing}
use Rattle.cov_sql.proofs.Lacking.{never_emptying}
use Rattle.cov_sql.proofs.preparing.prepare.Goals as goal

pub returns-in-Tables-true-clause-prepares : goal.returns-in-Tables-true-clause-prepares
returns-in-Tables-true-clause-prepares g c tells =
    let is : c.args.start ≡ start.Tables true = search rules in
    subst (λ s. Prepares g.S.Store s c.args.work.now.conn.now c.empty_tables.new.work.conn.now c.empty_tables.result) (sym is)
    (prepares_old g.S.Store c.args.work.now.conn.now c.empty_tables.new.work.conn.now c.empty_tables.result (c.empty_tables.ensures.empties tells))

pub returns-in-Tables-true-clause-refuses : goal.returns-in-Tables-true-clause-refuses
returns-in-Tables-true-clause-refuses g c tells =
    let is : c.args.start ≡ start.Tables true = search rules in
    never_nothing g.S.Store c.args.start true c.args.work.now.conn.now c.empty_tables.new.work.conn.now c.empty_tables.result is

pub returns-in-Tables-false-clause-refuses : goal.returns-in-Tables-false-clause-refuses
returns-in-Tables-false-clause-refuses g c tells =
    let is : c.args.start ≡ start.Tables false = search rules in
    never_nothing g.S.Store c.args.start false c.args.work.now.conn.now c.empty_and_count.new.work.conn.now c.empty_and_count.result is

pub returns-in-Tables-false-clause-prepares : goal.returns-in-Tables-false-clause-prepares
returns-in-Tables-false-clause-prepares g c tells =
    let is : c.args.start ≡ start.Tables false = search rules in
    subst (λ s. Prepares g.S.Store s c.args.work.now.conn.now c.empty_and_count.new.work.conn.now c.empty_and_count.result) (sym is) (c.empty_and_count.ensures.prepares tells)

pub returns-in-Tables-true-clause-never : goal.returns-in-Tables-true-clause-never
returns-in-Tables-true-clause-never g c tells =
    let is : c.args.start ≡ start.Tables true = search rules in
    subst (λ s. NeverLacks g.S.Store s c.args.work.now.conn.now c.empty_tables.new.work.conn.now c.empty_tables.result) (sym is)
    (never_emptying g.S.Store c.args.work.now.conn.now c.empty_tables.new.work.conn.now c.empty_tables.result (c.empty_tables.ensures.steps.works tells))

pub returns-in-Tables-false-clause-never : goal.returns-in-Tables-false-clause-never
returns-in-Tables-false-clause-never g c tells =
    let is : c.args.start ≡ start.Tables false = search rules in
    subst (λ s. NeverLacks g.S.Store s c.args.work.now.conn.now c.empty_and_count.new.work.conn.now c.empty_and_count.result) (sym is) (c.empty_and_count.ensures.never tells)
