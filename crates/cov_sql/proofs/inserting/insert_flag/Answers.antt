use Rattle.std.proofs.Common.{[], ◌∷◌, codes, subst}
use Rattle.sqlite_value.specs.declared.value.Value.TheVariants.{Text}
use Rattle.cov_sql.specs.declared.tables.Table.TheVariants as name
use Rattle.cov_sql.specs.Holding.{with_rows, Fills}
use Rattle.cov_sql.proofs.Filling.{fills_one}
use Rattle.cov_sql.proofs.Stepping.{works_one}
use Rattle.cov_sql.proofs.WrittenTexts.{of_insert_meta}
use Rattle.cov_sql.proofs.inserting.insert_flag.Goals as goal

pub returns-clause-steps : goal.returns-clause-steps
returns-clause-steps g c = works_one of_insert_meta c.insert_meta.ensures.works c.insert_meta.ensures.goes_on c.insert_meta.ensures.same_reference

pub returns-clause-fills : goal.returns-clause-fills
returns-clause-fills g c tells =
    subst (λ t. Fills g.S.Store (with_rows name.Meta ((Text (codes "has_arcs") ∷ Text t ∷ []) ∷ [])) c.args.work.now.conn.now c.insert_meta.new.work.conn.now c.insert_meta.result) c.flag_text.ensures
    (fills_one g.S.Store name.Meta _ c.args.work.now.conn.now c.insert_meta.new.work.conn.now _ (c.insert_meta.ensures.works tells).told)
