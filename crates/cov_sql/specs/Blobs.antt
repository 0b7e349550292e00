-- What the blobs of `line_bits` have of the rows of data of lines.
--     spot_of                    where a row that is kept stands: its file, its context and its two
--                                numbers
--     line_spot, spots_in        where a line of a blob stands; so all lines of one
--     bits_cmp                   by file, then context
--     IsPacked, AreBitsOf        a blob has a line, and no byte too many; blobs have the lines of
--                                rows, one blob for each file and context
use Rattle.std.specs.Prelude.{◌≡◌, ◌≢◌, ℕ, pos, List, [], map}
use Rattle.std.specs.declared.cmp.Ordering.{Ordering}
use Rattle.std.specs.Ordering.{int_cmp, ordering_then}
use Rattle.std.specs.List.{AllByRecursion, flat_map}
use Rattle.std.specs.List.Sorted.{IsStrictlySortedBy}
use Rattle.cov_data.specs.Numbits.{IsNumbits, lines_of_bits}
use Rattle.cov_tables.specs.Hits.{Spot}
use Rattle.cov_sql.specs.declared.saved.SavedRow.{SavedRow}
use Rattle.cov_sql.specs.declared.saved.SavedBits.{SavedBits}

-- the file, the context and the two numbers of a row
abbrev pub spot_of : SavedRow → Spot
spot_of r = record { file_id = r.file_id; context_id = r.context_id; from = r.from; to = r.to }

-- a line stands in both numbers
abbrev pub line_spot : SavedBits → ℕ → Spot
line_spot b n = record { file_id = b.file_id; context_id = b.context_id; from = pos n; to = pos n }

-- where the lines of a blob stand, in order
abbrev pub spots_in : SavedBits → List Spot
spots_in b = map (line_spot b) (lines_of_bits b.numbits.items)

-- by the numbers of file and context
abbrev pub bits_cmp : SavedBits → SavedBits → Ordering
bits_cmp a b = ordering_then (int_cmp a.file_id b.file_id) (int_cmp a.context_id b.context_id)

-- a blob has a line, and its bytes are as few as hold its lines
abbrev pub IsPacked : SavedBits → Type 0
IsPacked b = (lines_of_bits b.numbits.items ≢ [])
    × IsNumbits (lines_of_bits b.numbits.items) b.numbits.items

-- the blobs have the lines of these rows, each file and context once
pub record AreBitsOf (rows : List SavedRow) (blobs : List SavedBits) : Type 0 where
  pub lines : flat_map spots_in blobs ≡ map spot_of rows
  pub once : IsStrictlySortedBy bits_cmp blobs
  pub packed : AllByRecursion IsPacked blobs
