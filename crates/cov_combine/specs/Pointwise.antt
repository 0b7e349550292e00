-- Combined data, path by path and row by row.
--     SomeHas              some input has this under a name with this alias
--     count_under          the count of a row in an input, under all names with this alias
--     HoldsInputs          what combined data hold of their inputs, and that they hold no more
--     PointwiseLaw         so it is of all combined data
use Rattle.std.specs.Prelude.{◌≡◌, ◌↔◌, ℕ, ℤ, min, Bool, true, cond, List, All, Contains}
use Rattle.std.specs.Ordering.{eq_by_cmp}
use Rattle.std.specs.List.{sum_by}
use Rattle.cov_data.specs.DataSet.{Text, text_cmp, Place, DataSet, most_count, has_path, count_at, IsSound}
use Rattle.cov_data.specs.Rows.{paths_of}
use Rattle.cov_combine.specs.Combined.{flag_of, combined, has_row}

-- some input has this under a name whose alias p is
abbrev pub SomeHas : (Text → Text) → List DataSet → Text → (DataSet → Text → Bool) → Type 0
SomeHas alias ds p has =
    (d : DataSet) × (q : Text) × Contains ds d × (alias q ≡ p) × (has d q ≡ true)

-- the count of a row in an input, added up over the names whose alias p is
abbrev pub count_under : (Text → Text) → Text → Text → ℤ → ℤ → DataSet → ℕ
count_under alias p context from to d =
    sum_by
    (λ q. cond (eq_by_cmp text_cmp p (alias q)) (count_at d q context from to) 0)
    (paths_of d)

-- A path is there exactly where an input has one with that alias, and a row where an input has it
-- under such a path. Its count is the sum of those counts, which stops at the greatest.
pub record HoldsInputs (alias : Text → Text) (ds : List DataSet) (all : DataSet) : Type 0 where
  pub flag : all.arcs ≡ flag_of ds
  pub paths : (p : Text) → (has_path all p ≡ true) ↔ SomeHas alias ds p has_path
  pub rows : (p : Text) (k : Place)
      → (has_row all p k ≡ true) ↔ SomeHas alias ds p (λ d q. has_row d q k)
  pub counts : (p context : Text) (from to : ℤ)
      → count_at all p context from to
      ≡ min (sum_by (count_under alias p context from to) ds) most_count

-- so it is of all combined data
abbrev pub PointwiseLaw : Type 0
PointwiseLaw =
    (alias : Text → Text) (ds : List DataSet) → All IsSound ds
    → HoldsInputs alias ds (combined alias ds)
