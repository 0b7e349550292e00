-- What rows of counters stand for.
--     row_from              a row of counters of the code
--     row_of_count          a row of data
--     with_count            data with the row of one counter
--     with_counts           with those of several
--     with_counters         with those of a row of counters
--     with_rows             with those of several rows
--     AreInRange            what was counted may be in data
--     IsSoundRow, AreSound  so it is, and there is a counter for each arc
use Rattle.std.specs.Prelude.{◌≡◌, ℕ, Bool, zero, suc, List, [], ◌∷◌, length, Some, slice_get, string_bytes}
use Rattle.cov_data.specs.DataSet.{Text, DataSet, IsInRange}
use Rattle.cov_data.specs.Rows.{RowView, with_row}
use Rattle.py_syntax.specs.Prediction.{Arc}
use Rattle.cov_recorder.specs.declared.rows.Counters.{Counters}
use Rattle.cov_recorder.specs.Plan.{Plan, set_of, path_of}
use Rattle.cov_recorder.specs.Recording.{joined}
use Rattle.cov_recorder.specs.Counters.{Row}

-- a row of counters of the code
abbrev pub row_from : Counters → Row
row_from c = record {
  «module» = c.module;
  label = string_bytes c.label;
  counts = c.counts.items;
}

-- the row of an arc with this count
abbrev pub row_of_count : Text → Text → Arc → ℕ → RowView
row_of_count path context a n =
    record { path = path; context = context; from = a.0; to = a.1; count = n }

-- data with the row of an arc with this count; an arc without a count has none
abbrev pub with_count : Text → Text → Arc → ℕ → DataSet → DataSet
with_count path context a zero d = d
with_count path context a (suc n) d = with_row d (row_of_count path context a (suc n))

-- data with the rows of these arcs and counts
abbrev pub with_counts : Text → Text → List Arc → List ℕ → DataSet → DataSet
with_counts path context [] counts d = d
with_counts path context (a ∷ arcs) [] d = d
with_counts path context (a ∷ arcs) (n ∷ counts) d =
    with_counts path context arcs counts (with_count path context a n d)

-- data with the rows of a row of counters
abbrev pub with_counters : Plan → Row → DataSet → DataSet
with_counters plan row d =
    with_counts (path_of plan row.module) (joined plan.fixed row.label)
    (set_of plan row.module) row.counts d

-- with those of several
abbrev pub with_rows : Plan → List Row → DataSet → DataSet
with_rows plan [] d = d
with_rows plan (row ∷ rest) d = with_rows plan rest (with_counters plan row d)

-- what was counted may be in data
pub record AreInRange (arcs : Bool) (set : List Arc) (counts : List ℕ) : Type 0 where
  pub taken : (i n : ℕ) (a : Arc) → slice_get counts i ≡ Some (suc n) →
      slice_get set i ≡ Some a → IsInRange arcs a.0 a.1 1

-- a row has a counter for each arc of its module, and what was counted may be in data
pub record IsSoundRow (plan : Plan) (row : Row) : Type 0 where
  pub size : length row.counts ≡ length (set_of plan row.module)
  pub range : AreInRange plan.arcs (set_of plan row.module) row.counts

-- so it is for each row
pub record AreSound (plan : Plan) (rows : List Row) : Type 0 where
  pub each : (n : ℕ) (row : Row) → slice_get rows n ≡ Some row → IsSoundRow plan row
