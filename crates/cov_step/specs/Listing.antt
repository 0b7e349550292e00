-- The lines of a run's arcs: one `PATH FROM TO` each, in order of path, from and to.
--     arc_line, arc_lines    one line, and those of one path
--     listing                all lines
use Rattle.std.specs.Prelude.{ℕ, List, ◌++◌, ℤ, codes}
use Rattle.std.specs.Fmt.{signed_decimal}
use Rattle.std.specs.List.{flat_map}
use Rattle.cov_data.specs.DataSet.{DataSet}
use Rattle.cov_data.specs.Rows.{paths_of, arcs_of}

-- the line of an arc: the outside of a body is its first line, negative
abbrev pub arc_line : List ℕ → ℤ × ℤ → List ℕ
arc_line path a =
    path ++ (codes " " ++ (signed_decimal a.0 ++ (codes " " ++ (signed_decimal a.1 ++ codes "\n"))))

-- a line for each arc
abbrev pub arc_lines : List ℕ → List (ℤ × ℤ) → List ℕ
arc_lines path = flat_map (arc_line path)

-- the lines of all paths
abbrev pub listing : DataSet → List ℕ
listing d = flat_map (λ path. arc_lines path (arcs_of d path)) (paths_of d)
