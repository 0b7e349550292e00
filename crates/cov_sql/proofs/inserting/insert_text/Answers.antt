use Rattle.std.proofs.Common.{sym, subst, refl}
use Rattle.std.proofs.Math.Facts.{to_z-of_z}
use Rattle.sqlite.specs.Held.{state}
use Rattle.cov_sql.specs.SavedRows.{InsertsText}
use Rattle.cov_sql.specs.Tables.{file, context}
use Rattle.cov_sql.specs.Declarations.{declared_file, declared_context}
use Rattle.cov_sql.proofs.Filling.{as_row}
use Rattle.cov_sql.proofs.Stepping.{works_one}
use Rattle.cov_sql.proofs.WrittenTexts.{of_insert_file, of_insert_context}
use Rattle.cov_sql.proofs.inserting.insert_text.Goals as goal

pub returns-in-Paths-clause-steps : goal.returns-in-Paths-clause-steps
returns-in-Paths-clause-steps g c = works_one of_insert_file c.insert_file.ensures.works c.insert_file.ensures.goes_on c.insert_file.ensures.same_reference

pub returns-in-Contexts-clause-steps : goal.returns-in-Contexts-clause-steps
returns-in-Contexts-clause-steps g c = works_one of_insert_context c.insert_context.ensures.works c.insert_context.ensures.goes_on c.insert_context.ensures.same_reference

pub returns-in-Paths-clause-inserts : goal.returns-in-Paths-clause-inserts
returns-in-Paths-clause-inserts g c tells =
    let old = state g.S.Store c.args.work.now.conn.now in
    let new = state g.S.Store c.insert_file.new.work.conn.now in
    let one = as_row file declared_file old new c.insert_file.result c.args.id c.args.text.now (c.insert_file.ensures.works tells).told (to_z-of_z c.ranges.id) refl in
    subst (λ kind. InsertsText kind c.args.id c.args.text.now old new c.insert_file.result) (sym c.in-Paths.is) one

pub returns-in-Contexts-clause-inserts : goal.returns-in-Contexts-clause-inserts
returns-in-Contexts-clause-inserts g c tells =
    let old = state g.S.Store c.args.work.now.conn.now in
    let new = state g.S.Store c.insert_context.new.work.conn.now in
    let one = as_row context declared_context old new c.insert_context.result c.args.id c.args.text.now (c.insert_context.ensures.works tells).told (to_z-of_z c.ranges.id) refl in
    subst (λ kind. InsertsText kind c.args.id c.args.text.now old new c.insert_context.result) (sym c.in-Contexts.is) one
