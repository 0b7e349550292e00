use Rattle.std.proofs.Common.{rules, ◌≡◌, Err}
use Rattle.cov_sql.specs.SavedRows.{with_names, with_data}
use Rattle.cov_sql.proofs.Stepping.{works_on, works_end}
use Rattle.cov_sql.proofs.Filling.{no_fill, fills_on}
use Rattle.cov_sql.proofs.inserting.insert_all.Goals as goal

pub returns-in_err-insert_names-clause-steps : goal.returns-in_err-insert_names-clause-steps
returns-in_err-insert_names-clause-steps g c =
    let is : c.from_residual.result ≡ Err c.in_err-insert_names.field-0.0 = search rules in
    works_end c.in_err-insert_names.ensures.steps is

pub returns-in_err-insert_names-clause-fills : goal.returns-in_err-insert_names-clause-fills
returns-in_err-insert_names-clause-fills g c tells =
    let saved = c.args.saved.now in
    let is : c.from_residual.result ≡ Err c.in_err-insert_names.field-0.0 = search rules in
    no_fill g.S.Store (λ rows. with_data saved (with_names saved rows)) c.args.work.now.conn.now c.insert_names.new.work.conn.now _ _ is

pub returns-clause-steps : goal.returns-clause-steps
returns-clause-steps g c = works_on c.in_ok-insert_names.ensures.steps c.insert_data.ensures.steps

pub returns-clause-fills : goal.returns-clause-fills
returns-clause-fills g c =
    let saved = c.args.saved.now in
    fills_on (with_names saved) (with_data saved) c.in_ok-insert_names.ensures.steps c.insert_data.ensures.steps c.in_ok-insert_names.ensures.fills c.insert_data.ensures.fills
