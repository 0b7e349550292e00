-- What a base holds as a data file.
--     field_of, fields_in        a value as a field; the rows of a table as fields, where it is
--                                there
--     tables_in, content_in      the tables by their rows, if those of schema 7 are there; what the
--                                base holds
--     AreCounts, IsFound         the rows that were read of each table, in some order; without the
--                                table of counts, none
use Rattle.std.specs.Prelude.{◌≡◌, ◌≢◌, Bool, true, false, cond, List, [], map, Option, Some, None, option_map, option_and_then}
use Rattle.std.specs.Option.{unwrap_or}
use Rattle.std.specs.Str.{is_utf8}
use Rattle.sqlite_value.specs.declared.value.Value.{Value}
use Rattle.sqlite_value.specs.declared.value.Value.TheVariants as value
use Rattle.sqlite.specs.Effect.{Database}
use Rattle.cov_vault.specs.declared.vault.Content.{Content}
use Rattle.cov_vault.specs.declared.vault.Content.TheVariants.{NotSchema7}
use Rattle.cov_tables.specs.Fields.{Field, whole, text, blob, other, Row}
use Rattle.cov_tables.specs.Content.{Tables, content}
use Rattle.cov_tables.specs.declared.cells.RowCells.{RowCells}
use Rattle.cov_sql.specs.Tables.{Shape, rows_in, coverage_schema, meta, file, context, line_bits, arc, tracer, hits}
use Rattle.cov_sql.specs.Cells.{AreRowsIn}
use Rattle.cov_sql.specs.declared.reading.Found.{Found}

-- a text that is not UTF-8 is of no use, nor is a float
abbrev pub field_of : Value → Field
field_of value.Null = other
field_of (value.Int n) = whole n
field_of (value.Real x) = other
field_of (value.Text t) = cond (is_utf8 t) (text t) other
field_of (value.Blob b) = blob b

-- the rows of a table as fields, or none where the table is missing
abbrev pub fields_in : Shape → Database → Option (List Row)
fields_in t db = option_map (map (map field_of)) (rows_in t db)

-- all but the last have to be there
abbrev pub tables_with : (version meta file context line_bits arc tracer hits : Option (List Row))
    → Option Tables
tables_with version meta file context line_bits arc tracer hits =
    option_and_then (λ v. option_and_then (λ m. option_and_then (λ f. option_and_then (λ c.
    option_and_then (λ l. option_and_then (λ a. option_map (λ t.
    record {
      coverage_schema = v;
      meta = m;
      file = f;
      context = c;
      line_bits = l;
      arc = a;
      hits = unwrap_or hits [];
    }
    ) tracer) arc) line_bits) context) file) meta) version

-- the tables of a data file in a base
abbrev pub tables_in : Database → Option Tables
tables_in db =
    tables_with (fields_in coverage_schema db) (fields_in meta db) (fields_in file db)
    (fields_in context db)
    (fields_in line_bits db) (fields_in arc db) (fields_in tracer db) (fields_in hits db)

-- what tables hold: without them no data file of schema 7
abbrev pub content_if : Option Tables → Content
content_if None = NotSchema7
content_if (Some t) = content t

-- what a base holds as a data file
abbrev pub content_in : Database → Content
content_in db = content_if (tables_in db)

-- the rows of `hits`, or none where it isn't there
abbrev pub AreCounts : Database → Bool → List RowCells → Type 0
AreCounts db true lists = AreRowsIn hits db lists
AreCounts db false lists = (rows_in hits db ≡ None) × (lists ≡ [])

-- what was read of a base are its tables
pub record IsFound (db : Database) (found : Found) : Type 0 where
  pub coverage_schema : AreRowsIn coverage_schema db found.tables.coverage_schema.items
  pub meta : AreRowsIn meta db found.tables.meta.items
  pub file : AreRowsIn file db found.tables.file.items
  pub context : AreRowsIn context db found.tables.context.items
  pub line_bits : AreRowsIn line_bits db found.tables.line_bits.items
  pub arc : AreRowsIn arc db found.tables.arc.items
  pub tracer : rows_in tracer db ≢ None
  pub hits : AreCounts db found.has_hits found.tables.hits.items
