-- Rows, and the lists that data give.
--     RowView, row_view, lent_view            a row with its two texts as bytes
--     with_row                                data with a row more
--     distinct_in_order                       a list's elements in order, without repeats
--     file_rows, file_lines, file_arcs        a path's rows, their lines, their pairs of numbers
--     rows_of, paths_of, lines_of, arcs_of    the lists that data give
--     IsMixture                               why a union is refused
use Rattle.std.specs.Prelude.{◌≡◌, ◌≢◌, ℕ, ℤ, pos, negsuc, cond, nat_eq, List, [], ◌∷◌, ◌++◌, map, string_bytes}
use Rattle.std.specs.declared.cmp.Ordering.{Ordering}
use Rattle.std.specs.Ordering.{nat_cmp, int_cmp, ordering_then}
use Rattle.std.specs.List.{fold, flat_map}
use Rattle.std.specs.BTreeSet.{insert_key}
use Rattle.std.specs.FinMap.{entries, keys}
use Rattle.cov_data.specs.declared.rows.Row.{Row}
use Rattle.cov_data.specs.declared.rows.LentRow.{LentRow}
use Rattle.cov_data.specs.declared.dataset.DataError.{DataError}
use Rattle.cov_data.specs.declared.dataset.DataError.TheVariants.{Mixed, NoMemory}
use Rattle.cov_data.specs.DataSet.{Text, Place, File, Files, DataSet, file_of, add_row}

-- a row, with its two texts as bytes
pub record RowView : Type 0 where
  pub path : Text
  pub context : Text
  pub from : ℤ
  pub to : ℤ
  pub count : ℕ

-- what a row of the code stands for
abbrev pub row_view : Row → RowView
row_view r = record {
  path = string_bytes r.path;
  context = string_bytes r.context;
  from = r.from;
  to = r.to;
  count = r.count;
}

-- the row of a path with this place and count
abbrev pub row_of : Text → Place × ℕ → RowView
row_of p e = record { path = p; context = e.0.0; from = e.0.1.0; to = e.0.1.1; count = e.1 }

-- what a row stands for whose texts are lent
abbrev pub lent_view : LentRow → RowView
lent_view r = record {
  path = r.path.now;
  context = r.context.now;
  from = r.from;
  to = r.to;
  count = r.count;
}

-- data with a row more, and its path. Its count is added to that of an equal row
abbrev pub with_row : DataSet → RowView → DataSet
with_row d r = record d { files = add_row d.files r.path (r.context, (r.from, r.to)) r.count }

-- a list's elements in the order R, without repeats
abbrev pub distinct_in_order : {K : Type 0} → (K → K → Ordering) → List K → List K
distinct_in_order R ks = fold (insert_key R) [] ks

-- by context, then from, then to
abbrev pub file_rows : Text → File → List RowView
file_rows p f = map (row_of p) (entries f)

-- a number that is a line: 0 and the negative numbers are none
abbrev pub lines_in : ℤ → List ℕ
lines_in (pos n) = cond (nat_eq n 0) [] (n ∷ [])
lines_in (negsuc n) = []

-- the lines among the two numbers of a row
abbrev pub place_lines : Place → List ℕ
place_lines k = lines_in k.1.0 ++ lines_in k.1.1

-- the lines of a file's rows, which rise, each once
abbrev pub file_lines : File → List ℕ
file_lines f = distinct_in_order nat_cmp (flat_map (λ e. place_lines e.0) (entries f))

-- by from, then to
abbrev pub arc_cmp : ℤ × ℤ → ℤ × ℤ → Ordering
arc_cmp a b = ordering_then (int_cmp a.0 b.0) (int_cmp a.1 b.1)

-- the pairs of numbers of a file's rows in order, each once
abbrev pub file_arcs : File → List (ℤ × ℤ)
file_arcs f = distinct_in_order arc_cmp (map (λ e. e.0.1) (entries f))

-- the rows of all files, by path
abbrev pub files_rows : Files → List RowView
files_rows m = flat_map (λ e. file_rows e.0 e.1) (entries m)

-- the paths in byte order
abbrev pub paths_of : DataSet → List Text
paths_of d = keys d.files

-- all rows, in order of path, context, from, to
abbrev pub rows_of : DataSet → List RowView
rows_of d = files_rows d.files

-- the executed lines of a path, which rise
abbrev pub lines_of : DataSet → Text → List ℕ
lines_of d p = file_lines (file_of d p)

-- the arcs of a path in order: line data have none
abbrev pub arcs_of : DataSet → Text → List (ℤ × ℤ)
arcs_of d p = cond d.arcs (file_arcs (file_of d p)) []

-- what a union is refused for besides memory: the two flags, where they differ
abbrev pub IsMixture : DataSet → DataSet → DataError → Type 0
IsMixture a b NoMemory = Unit {0}
IsMixture a b (Mixed mine other) = (mine ≡ a.arcs) × (other ≡ b.arcs) × (a.arcs ≢ b.arcs)
