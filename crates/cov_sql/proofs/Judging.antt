-- Whether tables are those of a data file of schema 7.
use Rattle.std.proofs.Common.{◌≡◌, ◌≢◌, ◌⊎◌, inl, inr, ℕ, Bool, true, false, cond, List, map, Option, Some, None, option_map, option_and_then, Result, Err, refl, sym, ap, subst, ◌∙◌}
use Rattle.cov_data.specs.DataSet.{DataSet}
use Rattle.cov_vault.specs.declared.vault.Content.{Content}
use Rattle.cov_vault.specs.declared.vault.Content.TheVariants.{NotSchema7}
use Rattle.cov_tables.specs.Content.{Tables, is_schema_7, is_arcs, unless_bad, arc_content, bits_content, content}
use Rattle.sqlite.specs.State.{State}
use Rattle.cov_sql.specs.declared.errors.SqlError.{SqlError}
use Rattle.cov_sql.specs.declared.errors.SqlError.TheVariants as sql
use Rattle.cov_sql.specs.declared.preparing.Start.{Start}
use Rattle.sqlite_value.specs.Order.{Row, column}
use Rattle.sqlite_schema.specs.declared.schema.Table.{Table}
use Rattle.sqlite.specs.Effect.{Database}
use Rattle.cov_sql.specs.declared.tables.Table.{Table as Name}
use Rattle.cov_sql.specs.declared.tables.Table.TheVariants as name
use Rattle.cov_sql.specs.declared.preparing.Start.TheVariants as start
use Rattle.cov_sql.specs.declared.reading.Found.{Found}
use Rattle.cov_sql.specs.Tables.{rows_in, table_in, places_in, tracer}
use Rattle.cov_sql.specs.ByName.{shape_of}
use Rattle.cov_sql.specs.Holding.{same_table}
use Rattle.cov_sql.specs.Making.{HasColumns, Fits}
use Rattle.cov_sql.proofs.Holding.{tells}
use Rattle.cov_sql.specs.Content.{content_if, AreCounts, IsFound}
use Rattle.cov_sql.specs.Finds.{Finds, LacksOne}
use Rattle.cov_sql.specs.Committed.{IsJudged}
use Rattle.cov_sql.proofs.Committing.{keeps_ended}

pub not_seven : (t : Tables) → is_schema_7 t.coverage_schema ≡ false → content t ≡ NotSchema7
not_seven t is = ap (λ b. cond b (cond (is_arcs t.meta t.arc) (arc_content t) (bits_content t)) NotSchema7) is

never_other : (o : Option ℕ) (d : DataSet) → unless_bad o d ≢ NotSchema7
never_other None d is = absurd cc
never_other (Some i) d is = absurd cc

either : (b : Bool) (x y : Content) → x ≢ NotSchema7 → y ≢ NotSchema7 → cond b x y ≢ NotSchema7
either true x y one two = one
either false x y one two = two

pub seven : (t : Tables) → is_schema_7 t.coverage_schema ≡ true → content t ≢ NotSchema7
seven t is h =
    either (is_arcs t.meta t.arc) (arc_content t) (bits_content t) (never_other _ _) (never_other _ _)
    (sym (ap (λ b. cond b (cond (is_arcs t.meta t.arc) (arc_content t) (bits_content t)) NotSchema7) is) ∙ h)

-- a reading that failed judges so
pub stop_judged : (fresh : Bool) (old new : State) (e : SqlError) (r : Result Start SqlError) → r ≡ Err e → fresh ≡ false → Finds IsFound LacksOne old new (Err e) → IsJudged fresh old new r
stop_judged fresh old new e r is not f = subst (IsJudged fresh old new) (sym is) (record {
  missing = λ no. (not, ap content_if (f.missing (let same : e ≡ sql.NotSchema7 = cc in ap Err same)).0);
  there = tt;
  fits = tt;
  ready = tt;
  begins = λ begins. absurd (let both : true ≡ false = sym begins ∙ not in cc);
  same = tt;
  kept = keeps_ended old new f.ends;
})

-- ---- what was read is there with its columns

columns_of : (n : Name) (db : Database) (all : List Row) → rows_in (shape_of n) db ≡ Some all → HasColumns n db.schema
columns_of n db all is = by (table_in db.schema (shape_of n).name) refl is
  where
    by : (o : Option Table) → table_in db.schema (shape_of n).name ≡ o → option_and_then (λ t. option_map (λ ps. map (λ r. map (column r) ps) (db.trees t.tree)) (places_in t (shape_of n).columns)) o ≡ Some all → HasColumns n db.schema
    by None there h = absurd cc
    by (Some t) there h = on (places_in t (shape_of n).columns) refl h
      where
        on : (o : Option (List ℕ)) → places_in t (shape_of n).columns ≡ o → option_map (λ ps. map (λ r. map (column r) ps) (db.trees t.tree)) o ≡ Some all → HasColumns n db.schema
        on None are h = absurd cc
        on (Some ps) are h = record { table = t; places = ps; there = there; are = are }

module _ (db : Database) (found : Found) (h : IsFound db found) where
  traced : (o : Option (List Row)) → rows_in tracer db ≡ o → HasColumns name.Tracer db.schema
  traced None is = absurd (h.tracer is)
  traced (Some all) is = columns_of name.Tracer db all is

  each_found : (n : Name) → n ≢ name.Hits → HasColumns n db.schema
  each_found name.CoverageSchema other = columns_of name.CoverageSchema db h.coverage_schema.0 h.coverage_schema.2
  each_found name.Meta other = columns_of name.Meta db h.meta.0 h.meta.2
  each_found name.File other = columns_of name.File db h.file.0 h.file.2
  each_found name.Context other = columns_of name.Context db h.context.0 h.context.2
  each_found name.LineBits other = columns_of name.LineBits db h.line_bits.0 h.line_bits.2
  each_found name.Arc other = columns_of name.Arc db h.arc.0 h.arc.2
  each_found name.Tracer other = traced (rows_in tracer db) refl
  each_found name.Hits other = absurd (other refl)

  all_found : HasColumns name.Hits db.schema → (n : Name) → HasColumns n db.schema
  all_found counts n = by (tells n name.Hits)
    where
      by : ((same_table n name.Hits ≡ true) × (n ≡ name.Hits)) ⊎ ((same_table n name.Hits ≡ false) × (n ≢ name.Hits)) → HasColumns n db.schema
      by (inl (is, same)) = subst (λ m. HasColumns m db.schema) (sym same) counts
      by (inr (is, other)) = each_found n other

  fits_by : (b : Bool) → AreCounts db b found.tables.hits.items → Fits (start.Tables b) db.schema
  fits_by true counts = all_found (columns_of name.Hits db counts.0 counts.2)
  fits_by false counts = each_found

  pub fits_found : Fits (start.Tables found.has_hits) db.schema
  fits_found = fits_by found.has_hits h.hits
