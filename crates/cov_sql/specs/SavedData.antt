-- What is kept of data until it is written.
--     lent_texts                   texts that are lent
--     contexts_in                  the contexts of rows, in order, each once
--     IsNumbered, IsSavedRow       a text stands at a number, from 1; a row with the numbers of its
--                                  file and its context
--     IsSavedOf                    so data is kept
--     saved_rows, HoldsSaved       the rows that are written; the tables of a base hold those of
--                                  data
use Rattle.std.specs.Prelude.{◌≡◌, ℕ, ℤ, pos, ◌+◌, true, false, List, [], map, slice_get, Some, string_bytes}
use Rattle.std.specs.Borrow.{Bor}
use Rattle.std.specs.List.{AllZip}
use Rattle.cov_data.specs.DataSet.{Text, text_cmp, DataSet}
use Rattle.cov_data.specs.Rows.{RowView, distinct_in_order, rows_of, paths_of}
use Rattle.cov_sql.specs.declared.saved.Saved.{Saved}
use Rattle.cov_sql.specs.declared.saved.SavedRow.{SavedRow}
use Rattle.sqlite.specs.Effect.{Database}
use Rattle.cov_sql.specs.Blobs.{AreBitsOf}
use Rattle.cov_sql.specs.Holding.{Rows, Holds}
use Rattle.cov_sql.specs.SavedRows.{with_names, with_data, no_data_rows}

-- the texts, where they are lent
abbrev pub lent_texts : List (Bor (List ℕ)) → List Text
lent_texts ts = map (λ t. t.now) ts

-- the contexts of rows in byte order, each once
abbrev pub contexts_in : List RowView → List Text
contexts_in rows = distinct_in_order text_cmp (map (λ r. r.context) rows)

-- a text has its place in these, from 1, as its number
pub record IsNumbered (texts : List Text) (t : Text) (id : ℤ) : Type 0 where
  pub at : ℕ
  pub there : slice_get texts at ≡ Some t
  pub is : id ≡ pos (at + 1)

-- a row of data with the numbers of its path and its context in place of them
pub record IsSavedRow (paths contexts : List Text) (r : RowView) (s : SavedRow) : Type 0 where
  pub file : IsNumbered paths r.path s.file_id
  pub context : IsNumbered contexts r.context s.context_id
  pub from : s.from ≡ r.from
  pub to : s.to ≡ r.to
  pub count : s.count ≡ pos r.count

-- what is kept of data has its flag, its texts and its rows
pub record IsSavedOf (d : DataSet) (s : Saved) : Type 0 where
  pub flag : s.arcs ≡ d.arcs
  pub paths : map string_bytes s.paths.items ≡ paths_of d
  pub contexts : map string_bytes s.contexts.items ≡ contexts_in (rows_of d)
  pub rows : AllZip (IsSavedRow (paths_of d) (contexts_in (rows_of d))) (rows_of d) s.rows.items
  -- of arcs none; of lines those of the rows
  pub bits : d.arcs ≡ true → s.bits.items ≡ []
  pub blobs : d.arcs ≡ false → AreBitsOf s.rows.items s.bits.items

-- ---- written

-- the rows that a data file of these data has
abbrev pub saved_rows : Saved → Rows
saved_rows s = with_data s (with_names s no_data_rows)

-- the tables hold the rows of the data, and no other
abbrev pub HoldsSaved : DataSet → Database → Type 0
HoldsSaved d db = (s : Saved) × IsSavedOf d s × Holds db (saved_rows s)
