-- The law of the lines of arc data.
--     IsEnd               a line is one of the two numbers of an arc
--     LinesOfArcsLaw      the lines of arc data are the positive numbers in their arcs
use Rattle.std.specs.Prelude.{◌≡◌, ◌↔◌, ◌⊎◌, ℕ, ◌<◌, true, Contains, ℤ, pos}
use Rattle.cov_data.specs.DataSet.{Text, DataSet}
use Rattle.cov_data.specs.Rows.{arcs_of, lines_of}

-- the line is one of the two numbers of the arc
abbrev pub IsEnd : ℕ → ℤ × ℤ → Type 0
IsEnd line a = (a.0 ≡ pos line) ⊎ (a.1 ≡ pos line)

-- the executed lines of arc data are the positive numbers in their arcs
abbrev pub LinesOfArcsLaw : Type 0
LinesOfArcsLaw =
    (d : DataSet) → d.arcs ≡ true → (path : Text) (line : ℕ) → 0 < line
    → Contains (lines_of d path) line
    ↔ ((a : ℤ × ℤ) × Contains (arcs_of d path) a × IsEnd line a)
