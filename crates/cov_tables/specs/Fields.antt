-- What the columns of a row hold.
--     Field, Row, field, row        a value and a row; what a cell and the cells of a row hold
--     whole_at, text_at, bits_at    the whole number, the text or the blob in a column
--     holds                         whether a column holds this text
use Rattle.std.specs.Prelude.{ℕ, ℤ, Bool, false, List, [], ◌∷◌, map, Option, Some, None, option_and_then, slice_get, string_bytes}
use Rattle.std.specs.Str.{bytes_eq}
use Rattle.cov_data.specs.DataSet.{Text}
use Rattle.cov_tables.specs.declared.cells.Cell.{Cell}
use Rattle.cov_tables.specs.declared.cells.Cell.TheVariants as cell
use Rattle.cov_tables.specs.declared.cells.RowCells.{RowCells}
use Rattle.cov_tables.specs.declared.cells.RowCells.TheVariants as cells

-- a value of a row
pub data Field : Type 0 where
  whole : ℤ → Field
  text : Text → Field
  blob : List ℕ → Field
  -- every other value
  other : Field

-- what a cell holds
abbrev pub field : Cell → Field
field (cell.Int n) = whole n
field (cell.Text s) = text (string_bytes s)
field (cell.Blob v) = blob v.items
field cell.Other = other

-- the values of a row
abbrev pub Row : Type 0
Row = List Field

-- what the cells of a row hold
abbrev pub row : RowCells → Row
row (cells.Four a b c d) = map whole (a ∷ b ∷ c ∷ d ∷ [])
row (cells.Five a b c d e) = map whole (a ∷ b ∷ c ∷ d ∷ e ∷ [])
row (cells.Any cs) = map field cs.items

-- what the cells of rows hold
abbrev pub rows : List RowCells → List Row
rows lists = map row lists

-- the whole number, where the value is one
abbrev pub whole_in : Field → Option ℤ
whole_in (whole n) = Some n
whole_in (text t) = None
whole_in (blob b) = None
whole_in other = None

-- the text, where the value is one
abbrev pub text_in : Field → Option Text
text_in (whole n) = None
text_in (text t) = Some t
text_in (blob b) = None
text_in other = None

-- the blob, where the value is one
abbrev pub bits_in : Field → Option (List ℕ)
bits_in (whole n) = None
bits_in (text t) = None
bits_in (blob b) = Some b
bits_in other = None

-- the whole number in a column
abbrev pub whole_at : Row → ℕ → Option ℤ
whole_at r k = option_and_then whole_in (slice_get r k)

-- the text in a column
abbrev pub text_at : Row → ℕ → Option Text
text_at r k = option_and_then text_in (slice_get r k)

-- the blob in a column
abbrev pub bits_at : Row → ℕ → Option (List ℕ)
bits_at r k = option_and_then bits_in (slice_get r k)

-- whether it is this text
abbrev pub is_text : Text → Option Text → Bool
is_text t None = false
is_text t (Some u) = bytes_eq u t

-- whether a column holds this text
abbrev pub holds : Text → Row → ℕ → Bool
holds t r k = is_text t (text_at r k)
