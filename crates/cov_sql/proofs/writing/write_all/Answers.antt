use Rattle.std.proofs.Common.{rules, ◌≡◌, Err}
use Rattle.cov_sql.proofs.Stepping.{works_on, works_end}
use Rattle.cov_sql.proofs.Making.{no_saving, saves_then}
use Rattle.cov_sql.proofs.Denying.{refuses_then, refuses_same}
use Rattle.cov_sql.proofs.Lacking.{never_saving, never_as}
use Rattle.cov_sql.proofs.writing.write_all.Goals as goal

pub returns-in_err-prepare-clause-saves : goal.returns-in_err-prepare-clause-saves
returns-in_err-prepare-clause-saves g c tells =
    let is : c.from_residual.result ≡ Err c.in_err-prepare.field-0.0 = search rules in
    no_saving g.S.Store c.args.start c.args.saved.now c.args.work.now.conn.now c.prepare.new.work.conn.now _ _ is

pub returns-clause-saves : goal.returns-clause-saves
returns-clause-saves g c tells =
    let told = c.prepare.ensures.steps.goes_on.tells tells in
    saves_then g.S.Store c.args.start c.args.saved.now c.args.work.now.conn.now c.prepare.new.work.conn.now c.insert_all.new.work.conn.now c.in_ok-prepare.field-0 _
    (c.insert_all.ensures.steps.survives told) (c.in_ok-prepare.ensures.steps.works tells) (c.in_ok-prepare.ensures.prepares tells) (c.insert_all.ensures.fills told)

pub returns-in_err-prepare-clause-refuses : goal.returns-in_err-prepare-clause-refuses
returns-in_err-prepare-clause-refuses g c tells =
    let is : c.from_residual.result ≡ Err c.in_err-prepare.field-0.0 = search rules in
    refuses_same g.S.Store c.args.start c.args.work.now.conn.now c.prepare.new.work.conn.now _ _ is (c.in_err-prepare.ensures.refuses tells)

pub returns-clause-refuses : goal.returns-clause-refuses
returns-clause-refuses g c tells =
    let told = c.prepare.ensures.steps.goes_on.tells tells in
    refuses_then g.S.Store c.args.start c.args.work.now.conn.now c.prepare.new.work.conn.now c.insert_all.new.work.conn.now c.in_ok-prepare.field-0 _ (c.insert_all.ensures.steps.survives told) (c.in_ok-prepare.ensures.refuses tells)

pub returns-in_err-prepare-clause-steps : goal.returns-in_err-prepare-clause-steps
returns-in_err-prepare-clause-steps g c =
    let is : c.from_residual.result ≡ Err c.in_err-prepare.field-0.0 = search rules in
    works_end c.in_err-prepare.ensures.steps is

pub returns-clause-steps : goal.returns-clause-steps
returns-clause-steps g c = works_on c.in_ok-prepare.ensures.steps c.insert_all.ensures.steps

pub returns-in_err-prepare-clause-never : goal.returns-in_err-prepare-clause-never
returns-in_err-prepare-clause-never g c tells =
    let is : c.from_residual.result ≡ Err c.in_err-prepare.field-0.0 = search rules in
    never_as g.S.Store c.args.start c.args.work.now.conn.now c.prepare.new.work.conn.now _ _ is (c.in_err-prepare.ensures.never tells)

pub returns-clause-never : goal.returns-clause-never
returns-clause-never g c tells =
    let told = c.prepare.ensures.steps.goes_on.tells tells in
    never_saving g.S.Store c.args.start c.args.work.now.conn.now c.prepare.new.work.conn.now c.insert_all.new.work.conn.now c.in_ok-prepare.field-0 _
    (c.insert_all.ensures.steps.survives told) (c.in_ok-prepare.ensures.steps.works tells) (c.in_ok-prepare.ensures.never tells) (c.insert_all.ensures.steps.works told)
