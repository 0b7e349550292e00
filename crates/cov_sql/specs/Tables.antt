-- The tables of a base, by the names of their columns.
--     table_in, places_in      a table of a schema; where its rows have the values of some columns
--     rows_of                  the rows of a table in some columns, or none where it is missing or
--                              lacks one of them
--     Shape, rows_in           a table of a data file by its name and columns, and its rows in a
--                              base
--     coverage_schema, meta, file, context,
--     line_bits, arc, tracer   the tables of schema 7
--     hits                     the table of counts
use Rattle.std.specs.Prelude.{ℕ, List, [], ◌∷◌, map, Option, Some, option_map, option_and_then, slice_get, codes}
use Rattle.sqlite_value.specs.Order.{Row, column}
use Rattle.sqlite_schema.specs.Names.{table_named, column_named, place_of}
use Rattle.sqlite_schema.specs.declared.schema.Table.{Table}
use Rattle.sqlite_schema.specs.declared.schema.Schema.{Schema}
use Rattle.sqlite.specs.Effect.{Database}

-- the table of this name, where there is one
abbrev pub table_in : Schema → List ℕ → Option Table
table_in schema name = option_and_then (slice_get schema.tables) (table_named schema name)

-- where a row has the values of these columns, if the table has them all
abbrev pub places_in : Table → List (List ℕ) → Option (List ℕ)
places_in t [] = Some []
places_in t (n ∷ ns) = option_and_then (λ k. option_map (λ ps. place_of t k ∷ ps) (places_in t ns))
    (column_named t n)

-- the rows of a table in these columns, or none where it is missing or lacks one of them
abbrev pub rows_of : List ℕ → List (List ℕ) → Database → Option (List Row)
rows_of name names db = option_and_then (λ t.
    option_map (λ ps. map (λ r. map (column r) ps) (db.trees t.tree)) (places_in t names))
    (table_in db.schema name)

-- a table by its name and the columns that are read of it
pub record Shape : Type 0 where
  pub name : List ℕ
  pub columns : List (List ℕ)

-- the rows of a table of a data file
abbrev pub rows_in : Shape → Database → Option (List Row)
rows_in t db = rows_of t.name t.columns db

-- ---- coverage.py's schema 7, and the table of counts

-- the version of the schema, 7
abbrev pub coverage_schema : Shape
coverage_schema = record { name = codes "coverage_schema"; columns = codes "version" ∷ [] }

-- keys with their values, as whether data are of arcs
abbrev pub meta : Shape
meta = record { name = codes "meta"; columns = codes "key" ∷ codes "value" ∷ [] }

-- the paths of files by number
abbrev pub file : Shape
file = record { name = codes "file"; columns = codes "id" ∷ codes "path" ∷ [] }

-- the texts of contexts by number
abbrev pub context : Shape
context = record { name = codes "context"; columns = codes "id" ∷ codes "context" ∷ [] }

-- the executed lines of a file in a context, as bits
abbrev pub line_bits : Shape
line_bits = record {
  name = codes "line_bits";
  columns = codes "file_id" ∷ codes "context_id" ∷ codes "numbits" ∷ [];
}

-- the arcs of a file in a context
abbrev pub arc : Shape
arc = record {
  name = codes "arc";
  columns = codes "file_id" ∷ codes "context_id" ∷ codes "fromno" ∷ codes "tono" ∷ [];
}

-- the plug-in that traced a file
abbrev pub tracer : Shape
tracer = record { name = codes "tracer"; columns = codes "file_id" ∷ codes "tracer" ∷ [] }

-- how often the two numbers of a file in a context were run
abbrev pub hits : Shape
hits = record {
  name = codes "hits";
  columns = codes "file_id" ∷ codes "context_id" ∷ codes "fromno" ∷ codes "tono"
      ∷ codes "count" ∷ [];
}
