-- What the tables of a data file mean, by their rows.
--     Tables                             the rows of the tables
--     is_schema_7, is_arcs               whether it is schema 7; whether the data are of arcs
--     is_bad_arc, is_bad_bits, is_bad    whether a row's numbers or its blob can't be read
--     arc_rows, bits_rows, rows_said     the rows of data that a row says
--     paths_only, read_entries           data of paths alone; with the rows of entries
--     content                            what the file holds
use Rattle.std.specs.Prelude.{ℕ, ℤ, pos, negsuc, Bool, true, false, not, cond, ◌&&◌, ◌||◌, nat_eq, nat_lt, nat_le, List, [], ◌∷◌, drop, take, codes, Option, Some, None}
use Rattle.std.specs.Option.{option_to_list}
use Rattle.std.specs.List.{fold, flat_map, list_any, list_all, position_from}
use Rattle.cov_data.specs.DataSet.{most_number, Text, DataSet, no_data, with_path}
use Rattle.cov_data.specs.Rows.{RowView, with_row}
use Rattle.cov_data.specs.Numbits.{lines_of_bits}
use Rattle.cov_vault.specs.declared.vault.Content.{Content}
use Rattle.cov_vault.specs.declared.vault.Content.TheVariants.{Good, NotSchema7, BadRow}
use Rattle.cov_tables.specs.Fields.{Row, whole_at, text_at, holds}
use Rattle.cov_tables.specs.Entries.{Column, number, bits, neither, Entry, entry_cmp}
use Rattle.cov_tables.specs.Hits.{Spot, count_of}
use Rattle.cov_tables.specs.Joins.{is_whole, arc_entries, bits_entries}
use Rattle.cov_tables.specs.Order.{in_order}

-- the rows of the tables
pub record Tables : Type 0 where
  pub coverage_schema : List Row
  pub meta : List Row
  pub file : List Row
  pub context : List Row
  pub line_bits : List Row
  pub arc : List Row
  -- no row where the table isn't there
  pub hits : List Row

-- exactly one row, with the number 7
abbrev pub is_schema_7 : List Row → Bool
is_schema_7 [] = false
is_schema_7 (r ∷ []) = is_whole (pos 7) (whole_at r 0)
is_schema_7 (r ∷ s ∷ rs) = false

-- a row of `meta` with the key `has_arcs`
abbrev pub names_arcs : Row → Bool
names_arcs r = holds (codes "has_arcs") r 0

-- such a row with the value `1`
abbrev pub says_arcs : Row → Bool
says_arcs r = names_arcs r && holds (codes "1") r 1

-- whether there is a row
abbrev pub has_rows : List Row → Bool
has_rows [] = false
has_rows (r ∷ rs) = true

-- as a row of `meta` says, if any has the key, and else by the rows of `arc`
abbrev pub is_arcs : (meta arcs : List Row) → Bool
is_arcs meta arcs = cond (list_any names_arcs meta) (list_any says_arcs meta) (has_rows arcs)

-- whether a number is within the greatest of a row either way
abbrev pub is_within : ℤ → Bool
is_within (pos n) = nat_le n most_number
is_within (negsuc n) = nat_lt n most_number

-- a number of a row of data
abbrev pub is_number : Column → Bool
is_number (number n) = is_within n
is_number (bits b) = false
is_number neither = false

-- a set of lines within the greatest: a line beyond it stands in a byte from number 8,192 on
abbrev pub is_set : Column → Bool
is_set (number n) = false
is_set (bits b) = list_all (λ byte. nat_eq byte 0) (drop 8192 b)
is_set neither = false

-- an arc whose numbers can't be read
abbrev pub is_bad_arc : Entry → Bool
is_bad_arc e = not (is_number e.first && is_number e.second)

-- a row of `line_bits` whose blob can't be read
abbrev pub is_bad_bits : Entry → Bool
is_bad_bits e = not (is_set e.first)

-- whether a row can't be read, as an arc or else as lines
abbrev pub is_bad : (arcs : Bool) → Entry → Bool
is_bad true e = is_bad_arc e
is_bad false e = is_bad_bits e

-- whether a number is 0
abbrev pub is_zero : ℤ → Bool
is_zero (pos n) = nat_eq n 0
is_zero (negsuc n) = false

-- the row of data, with its count
abbrev pub row_with : (Spot → ℕ) → Entry → ℤ → ℤ → RowView
row_with counts e from to = record {
  path = e.path;
  context = e.label;
  from = from;
  to = to;
  count = counts (record { file_id = e.file; context_id = e.context; from = from; to = to });
}

-- an arc with a 0 is passed over
abbrev pub arc_with : (Spot → ℕ) → Entry → Column → Column → List RowView
arc_with counts e (number a) (number b) =
    cond (is_zero a || is_zero b) [] (row_with counts e a b ∷ [])
arc_with counts e (number a) (bits b) = []
arc_with counts e (number a) neither = []
arc_with counts e (bits a) second = []
arc_with counts e neither second = []

-- the rows of data that a row of `arc` says
abbrev pub arc_rows : (Spot → ℕ) → Entry → List RowView
arc_rows counts e = arc_with counts e e.first e.second

-- bit 0 is passed over
abbrev pub line_row : (Spot → ℕ) → Entry → ℕ → List RowView
line_row counts e n =
    cond (nat_lt 0 n && nat_le n most_number) (row_with counts e (pos n) (pos n) ∷ []) []

-- the rows of data for the lines of a blob
abbrev pub lines_with : (Spot → ℕ) → Entry → Column → List RowView
lines_with counts e (number n) = []
lines_with counts e (bits b) = flat_map (line_row counts e) (lines_of_bits (take 8192 b))
lines_with counts e neither = []

-- the rows of data that a row of `line_bits` says
abbrev pub bits_rows : (Spot → ℕ) → Entry → List RowView
bits_rows counts e = lines_with counts e e.first

-- the rows of data that a row says, as an arc or else as lines
abbrev pub rows_said : (arcs : Bool) → (Spot → ℕ) → Entry → List RowView
rows_said true counts e = arc_rows counts e
rows_said false counts e = bits_rows counts e

-- the texts in column `path`
abbrev pub paths_in : List Row → List Text
paths_in rs = flat_map (λ r. option_to_list (text_at r 1)) rs

-- data of these paths, before the rows
abbrev pub paths_only : Bool → List Row → DataSet
paths_only arcs files = fold with_path (no_data arcs) (paths_in files)

-- the data, unless a row is bad
abbrev pub unless_bad : Option ℕ → DataSet → Content
unless_bad None d = Good d
unless_bad (Some i) d = BadRow i

-- the data with the rows of these entries, unless one of them is bad: the first of these counts
abbrev pub read_entries : (Entry → Bool) → (Entry → List RowView) → List Entry → DataSet → Content
read_entries bad rows entries d =
    unless_bad (position_from bad 0 entries) (fold with_row d (flat_map rows entries))

-- what tables of arcs hold
abbrev pub arc_content : Tables → Content
arc_content t =
    read_entries is_bad_arc (arc_rows (count_of t.hits))
    (in_order entry_cmp (arc_entries t.file t.context t.arc)) (paths_only true t.file)

-- what tables of lines hold
abbrev pub bits_content : Tables → Content
bits_content t =
    read_entries is_bad_bits (bits_rows (count_of t.hits))
    (in_order entry_cmp (bits_entries t.file t.context t.line_bits)) (paths_only false t.file)

-- what a file with these tables holds
abbrev pub content : Tables → Content
content t =
    cond (is_schema_7 t.coverage_schema)
    (cond (is_arcs t.meta t.arc) (arc_content t) (bits_content t)) NotSchema7
