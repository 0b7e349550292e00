-- Rows of `arc` and `line_bits` with their file and context, in their order.
--     Column, column_cmp         a number, a blob or anything else, in that order
--     Entry, entry_cmp           a row with its path and its context, by its ids and columns
--     number_at, blob_at         what stands in a column, where it should be a number or a blob
use Rattle.std.specs.Prelude.{ℕ, ℤ, List, Option, Some, None}
use Rattle.std.specs.declared.cmp.Ordering.{Ordering}
use Rattle.std.specs.declared.cmp.Ordering.TheVariants.{Less, Equal, Greater}
use Rattle.std.specs.Ordering.{nat_cmp, int_cmp, ordering_then}
use Rattle.std.specs.Cmp.Lexicographic.{slice_cmp}
use Rattle.cov_data.specs.DataSet.{Text, text_cmp}
use Rattle.cov_tables.specs.declared.entries.Column.{Column as Stored}
use Rattle.cov_tables.specs.declared.entries.Column.TheVariants as stored
use Rattle.cov_tables.specs.declared.entries.Entry.{Entry as StoredEntry}
use Rattle.cov_tables.specs.Fields.{Row, whole_at, bits_at}

-- a number, a blob, or anything else
pub data Column : Type 0 where
  number : ℤ → Column
  bits : List ℕ → Column
  neither : Column

-- what a column of the code stands for
abbrev pub column_view : Stored → Column
column_view (stored.Int n) = number n
column_view (stored.Blob v) = bits v.items
column_view stored.Other = neither

-- numbers rise, blobs stand in byte order, and others come last
abbrev pub column_cmp : Column → Column → Ordering
column_cmp (number a) (number b) = int_cmp a b
column_cmp (number a) (bits b) = Less
column_cmp (number a) neither = Less
column_cmp (bits a) (number b) = Greater
column_cmp (bits a) (bits b) = slice_cmp nat_cmp a b
column_cmp (bits a) neither = Less
column_cmp neither (number b) = Greater
column_cmp neither (bits b) = Greater
column_cmp neither neither = Equal

-- a row of `arc` or of `line_bits` with its path and the text of its context
pub record Entry : Type 0 where
  pub file : ℤ
  pub context : ℤ
  pub first : Column
  pub second : Column
  pub path : Text
  pub label : Text

-- what an entry of the code stands for
abbrev pub entry_view : StoredEntry → Entry
entry_view e = record {
  file = e.file_id;
  context = e.context_id;
  first = column_view e.first;
  second = column_view e.second;
  path = e.path.now;
  label = e.context.now;
}

-- by file, context, columns, path and the text of the context
abbrev pub entry_cmp : Entry → Entry → Ordering
entry_cmp a b =
    ordering_then (int_cmp a.file b.file)
    (ordering_then (int_cmp a.context b.context)
    (ordering_then (column_cmp a.first b.first)
    (ordering_then (column_cmp a.second b.second)
    (ordering_then (text_cmp a.path b.path) (text_cmp a.label b.label)))))

-- a number, where there is one
abbrev pub number_of : Option ℤ → Column
number_of (Some n) = number n
number_of None = neither

-- a blob, where there is one
abbrev pub blob_of : Option (List ℕ) → Column
blob_of (Some b) = bits b
blob_of None = neither

-- what stands in a column that should hold a number
abbrev pub number_at : Row → ℕ → Column
number_at r k = number_of (whole_at r k)

-- what stands in a column that should hold a blob
abbrev pub blob_at : Row → ℕ → Column
blob_at r k = blob_of (bits_at r k)
