-- Cells: the values of rows as data files use them.
use Rattle.std.specs.Prelude.{◌≡◌, ◌⊎◌, ℕ, List, [], ◌∷◌, Some, String, Vec, string_bytes, IsUtf8, IsPermutation}
use Rattle.std.specs.declared.alloc.Global.{Global}
use Rattle.std.specs.List.{AllZip}
use Rattle.sqlite_value.specs.declared.value.Value.{Value}
use Rattle.sqlite_value.specs.declared.value.Value.TheVariants as value
use Rattle.sqlite_value.specs.Order.{Row}
use Rattle.sqlite.specs.Effect.{Database}
use Rattle.cov_tables.specs.declared.cells.Cell.{Cell}
use Rattle.cov_tables.specs.declared.cells.RowCells.{RowCells}
use Rattle.cov_tables.specs.declared.cells.RowCells.TheVariants.{Four, Five, Any}
use Rattle.cov_tables.specs.declared.cells.Cell.TheVariants.{Int, Text, Blob, Other}
use Rattle.cov_sql.specs.Tables.{Shape, rows_in}

-- a text, where its bytes are UTF-8
abbrev pub IsTextCell : List ℕ → Cell → Type 0
IsTextCell t c = ((s : String Global) × (c ≡ Text s) × (string_bytes s ≡ t))
    ⊎ ((c ≡ Other) × ¬ IsUtf8 t)

-- a whole number, a text or a blob as it is; a text that is not UTF-8 and every other value as
-- `Other`
abbrev pub IsCell : Value → Cell → Type 0
IsCell value.Null c = c ≡ Other
IsCell (value.Int n) c = c ≡ Int n
IsCell (value.Real x) c = c ≡ Other
IsCell (value.Text t) c = IsTextCell t c
IsCell (value.Blob b) c = (v : Vec ℕ Global) × (c ≡ Blob v) × (v.items ≡ b)

-- the cells of a row, where whole numbers may stand in place
abbrev pub AreCells : Row → RowCells → Type 0
AreCells row (Four a b c d) = row ≡ value.Int a ∷ value.Int b ∷ value.Int c ∷ value.Int d ∷ []
AreCells row (Five a b c d e) =
    row ≡ value.Int a ∷ value.Int b ∷ value.Int c ∷ value.Int d ∷ value.Int e ∷ []
AreCells row (Any cells) = AllZip IsCell row cells.items

-- the rows of a table, in some order
abbrev pub AreRowsIn : Shape → Database → List RowCells → Type 0
AreRowsIn t db lists = (all : List Row) × (shown : List Row) × (rows_in t db ≡ Some all)
    × IsPermutation all shown × AllZip AreCells shown lists
