-- The annotated text of a source. (coverage.py documentation, "Text annotation"; which lines have
-- which mark is this project's)
use Rattle.std.specs.Prelude.{ℕ, ◌+◌, Bool, if◌then◌else◌, List, [], ◌∷◌, ◌++◌, codes}
use Rattle.std.specs.Str.Lines.{lines}
use Rattle.cov_analysis.specs.Lines.{is_among}
use Rattle.cov_analysis.specs.Analyses.{AnalysisView}

-- the mark of a line: of a missing statement, an executed one, an excluded line, or any other
abbrev pub mark_by : (ℕ → Bool) → (ℕ → Bool) → (ℕ → Bool) → ℕ → List ℕ
mark_by is_missing is_statement is_excluded line =
    if is_missing line then codes "!" else if is_statement line then codes ">"
    else if is_excluded line then codes "-" else codes " "

-- the mark of a line by its analysis
abbrev pub mark_of : AnalysisView → ℕ → List ℕ
mark_of file = mark_by (is_among file.missing) (is_among file.statements) (is_among file.excluded)

-- a line with its mark
abbrev pub annotated_line : List ℕ → List ℕ → List ℕ
annotated_line mark text = mark ++ (codes " " ++ (text ++ codes "\n"))

-- lines that are counted from this number on
abbrev pub annotated_from : (ℕ → List ℕ) → ℕ → List (List ℕ) → List ℕ
annotated_from mark line [] = []
annotated_from mark line (text ∷ rest) =
    annotated_line (mark line) text ++ annotated_from mark (line + 1) rest

-- The lines of a source with their marks, each ended by a line feed. In the source a line ends with
-- a line feed, which a carriage return may precede, and the last one may have no end. (Python
-- Language Reference, "Physical lines")
abbrev pub annotated_bytes : AnalysisView → List ℕ → List ℕ
annotated_bytes file source = annotated_from (mark_of file) 1 (lines source)
