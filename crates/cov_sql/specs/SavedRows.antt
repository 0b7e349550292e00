-- The rows that are written of data.
--     flag_row, numbered                  the row of `meta`; texts with their numbers, as in `file`
--                                         and `context`
--     table_of, InsertsText               the table that numbers such texts; so a call inserts one
--     arc_row, bits_row, hits_row         the rows of what is kept of data until it is written
--     name_of, row_in, InsertsRow         a table that has a row for each row of data; that row; so
--                                         a call inserts one
--     with_names, with_data, with_all     the rows of all tables with those of names, with those of
--                                         data, and with both
--     no_data_rows                        the rows of a data file of schema 7 without data
use Rattle.std.specs.Prelude.{ℕ, ℤ, pos, ◌+◌, Bool, cond, List, [], ◌∷◌, map, codes, string_bytes}
use Rattle.sqlite_value.specs.Order.{Row}
use Rattle.sqlite_value.specs.declared.value.Value.TheVariants.{Int, Text, Blob}
use Rattle.cov_sql.specs.declared.saved.Saved.{Saved}
use Rattle.cov_sql.specs.declared.saved.SavedRow.{SavedRow}
use Rattle.cov_sql.specs.declared.saved.SavedBits.{SavedBits}
use Rattle.cov_sql.specs.declared.inserting.Texts.{Texts}
use Rattle.cov_sql.specs.declared.inserting.Texts.TheVariants as texts
use Rattle.cov_sql.specs.declared.inserting.RowTable.{RowTable}
use Rattle.cov_sql.specs.declared.inserting.RowTable.TheVariants as table
use Rattle.cov_sql.specs.declared.tables.Table.{Table as Name}
use Rattle.cov_sql.specs.declared.tables.Table.TheVariants as name
use Rattle.cov_sql.specs.ByName.{shape_of, declared_as}
use Rattle.cov_sql.specs.Written.{Inserts}
use Rattle.cov_sql.specs.Calls.{Does}
use Rattle.cov_sql.specs.Holding.{Rows, with_rows}

-- the row of `meta` that tells whether data are of arcs
abbrev pub flag_row : Bool → Row
flag_row arcs = Text (codes "has_arcs") ∷ Text (cond arcs (codes "1") (codes "0")) ∷ []

-- texts with their numbers, which rise from this one
abbrev pub numbered : ℕ → List (List ℕ) → List Row
numbered k [] = []
numbered k (t ∷ ts) = (Int (pos k) ∷ Text t ∷ []) ∷ numbered (k + 1) ts

-- the table that numbers texts of a kind
abbrev pub table_of : Texts → Name
table_of texts.Paths = name.File
table_of texts.Contexts = name.Context

-- a call that inserts a text with its number
abbrev pub InsertsText : Texts → ℤ → List ℕ → Does
InsertsText kind id text = Inserts (shape_of (table_of kind)) (declared_as (table_of kind))
    (Int id ∷ Text text ∷ [])

-- a row of `arc`
abbrev pub arc_row : SavedRow → Row
arc_row r = Int r.file_id ∷ Int r.context_id ∷ Int r.from ∷ Int r.to ∷ []

-- a row of `line_bits`
abbrev pub bits_row : SavedBits → Row
bits_row b = Int b.file_id ∷ Int b.context_id ∷ Blob b.numbits.items ∷ []

-- a row of `hits`
abbrev pub hits_row : SavedRow → Row
hits_row r = Int r.file_id ∷ Int r.context_id ∷ Int r.from ∷ Int r.to ∷ Int r.count ∷ []

-- a table that has a row for each row of data
abbrev pub name_of : RowTable → Name
name_of table.Arc = name.Arc
name_of table.Hits = name.Hits

-- the row of such a table for a row of data
abbrev pub row_in : RowTable → SavedRow → Row
row_in table.Arc r = arc_row r
row_in table.Hits r = hits_row r

-- a call that inserts it
abbrev pub InsertsRow : RowTable → SavedRow → Does
InsertsRow t r = Inserts (shape_of (name_of t)) (declared_as (name_of t)) (row_in t r)

-- the rows of `meta`, `file` and `context` more
abbrev pub with_names : Saved → Rows → Rows
with_names s rows =
    with_rows name.Context (numbered 1 (map string_bytes s.contexts.items))
    (with_rows name.File (numbered 1 (map string_bytes s.paths.items))
    (with_rows name.Meta (flag_row s.arcs ∷ []) rows))

-- the rows of `arc`, `line_bits` and `hits` more
abbrev pub with_data : Saved → Rows → Rows
with_data s rows =
    with_rows name.Hits (map hits_row s.rows.items)
    (with_rows name.LineBits (map bits_row s.bits.items)
    (with_rows name.Arc (cond s.arcs (map arc_row s.rows.items) []) rows))

-- all rows more that are written of data
abbrev pub with_all : Saved → Rows → Rows
with_all s rows = with_data s (with_names s rows)

-- the rows of a data file without data: that of the version
abbrev pub no_data_rows : Rows
no_data_rows name.CoverageSchema = (Int (pos 7) ∷ []) ∷ []
no_data_rows name.Meta = []
no_data_rows name.File = []
no_data_rows name.Context = []
no_data_rows name.LineBits = []
no_data_rows name.Arc = []
no_data_rows name.Tracer = []
no_data_rows name.Hits = []
