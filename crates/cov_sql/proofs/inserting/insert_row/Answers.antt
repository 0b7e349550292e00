use Rattle.std.proofs.Common.{rules, [], ◌∷◌, sym, subst, w64}
use mir.Val.{SFits}
use Rattle.std.proofs.Math.Facts.{to_z-of_z}
use Rattle.sqlite.specs.Held.{state}
use Rattle.sqlite_value.specs.declared.value.Value.TheVariants.{Int}
use Rattle.cov_sql.specs.Tables.{arc, hits}
use Rattle.cov_sql.specs.Declarations.{declared_arc, declared_hits}
use Rattle.cov_sql.specs.Written.{Inserts}
use Rattle.cov_sql.specs.SavedRows.{InsertsRow}
use Rattle.cov_sql.proofs.Stepping.{works_one}
use Rattle.cov_sql.proofs.WrittenTexts.{of_insert_arc, of_insert_hits}
use Rattle.cov_sql.proofs.inserting.insert_row.Goals as goal

pub returns-in-Arc-clause-steps : goal.returns-in-Arc-clause-steps
returns-in-Arc-clause-steps g c = works_one of_insert_arc c.insert_arc.ensures.works c.insert_arc.ensures.goes_on c.insert_arc.ensures.same_reference

pub returns-in-Hits-clause-steps : goal.returns-in-Hits-clause-steps
returns-in-Hits-clause-steps g c = works_one of_insert_hits c.insert_hits.ensures.works c.insert_hits.ensures.goes_on c.insert_hits.ensures.same_reference

pub returns-in-Arc-clause-inserts : goal.returns-in-Arc-clause-inserts
returns-in-Arc-clause-inserts g c tells =
    let old = state g.S.Store c.args.work.now.conn.now in
    let new = state g.S.Store c.insert_arc.new.work.conn.now in
    let row = c.args.row.now in
    let file_id_fits : SFits w64 row.file_id = search rules in
    let context_id_fits : SFits w64 row.context_id = search rules in
    let from_fits : SFits w64 row.from = search rules in
    let to_fits : SFits w64 row.to = search rules in
    let one = subst (λ r. Inserts arc declared_arc r old new c.insert_arc.result) (λ k. Int (to_z-of_z file_id_fits k) ∷ Int (to_z-of_z context_id_fits k) ∷ Int (to_z-of_z from_fits k) ∷ Int (to_z-of_z to_fits k) ∷ []) (c.insert_arc.ensures.works tells).told in
    subst (λ table. InsertsRow table row old new c.insert_arc.result) (sym c.in-Arc.is) one

pub returns-in-Hits-clause-inserts : goal.returns-in-Hits-clause-inserts
returns-in-Hits-clause-inserts g c tells =
    let old = state g.S.Store c.args.work.now.conn.now in
    let new = state g.S.Store c.insert_hits.new.work.conn.now in
    let row = c.args.row.now in
    let file_id_fits : SFits w64 row.file_id = search rules in
    let context_id_fits : SFits w64 row.context_id = search rules in
    let from_fits : SFits w64 row.from = search rules in
    let to_fits : SFits w64 row.to = search rules in
    let count_fits : SFits w64 row.count = search rules in
    let one = subst (λ r. Inserts hits declared_hits r old new c.insert_hits.result) (λ k. Int (to_z-of_z file_id_fits k) ∷ Int (to_z-of_z context_id_fits k) ∷ Int (to_z-of_z from_fits k) ∷ Int (to_z-of_z to_fits k) ∷ Int (to_z-of_z count_fits k) ∷ []) (c.insert_hits.ensures.works tells).told in
    subst (λ table. InsertsRow table row old new c.insert_hits.result) (sym c.in-Hits.is) one
