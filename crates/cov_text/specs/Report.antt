-- The text report. (coverage.py documentation, "Reporting")
--     right, cells              a cell on the right of its 7 places; the cells of numbers
--     name_width                the places of the column of names
--     line                      a name on the left, cells, and a note after three blanks
--     header, row, rows, rule   the lines; rows are those of the files
--     text_bytes                the report
use Rattle.std.specs.Prelude.{ℕ, ◌+◌, ◌-◌, max, Bool, if◌then◌else◌, List, [], ◌∷◌, ◌++◌, map, length, fold, flat_map, codes, decimal}
use Rattle.std.specs.List.{repeat}
use Rattle.std.specs.Str.{chars}
use Rattle.cov_analysis.specs.Analyses.{AnalysisView}
use Rattle.cov_analysis.specs.Counts.{total_of}
use Rattle.cov_analysis.specs.declared.numbers.Numbers.{Numbers}
use Rattle.cov_text.specs.Missing.{missing_text}
use Rattle.cov_analysis.specs.Percentage.{percent}

-- a cell, which is ASCII, on the right of a column of 7 places
abbrev pub right : List ℕ → List ℕ
right cell = repeat (7 - length cell) (codes " ") ++ cell

-- the cells of a line: those of branches stand for arcs alone
abbrev pub chosen : Bool → List ℕ → List ℕ → List ℕ → List ℕ → List ℕ → List (List ℕ)
chosen arcs statements missing branches partial covered =
    if arcs then statements ∷ missing ∷ branches ∷ partial ∷ covered ∷ []
    else statements ∷ missing ∷ covered ∷ []

-- the cells of the header
abbrev pub headings : Bool → List ℕ
headings arcs =
    flat_map right
    (chosen arcs (codes "Stmts") (codes "Miss") (codes "Branch") (codes "BrPart") (codes "Cover"))

-- the cells of a line of numbers
abbrev pub cells : Bool → Numbers → List ℕ
cells arcs n =
    let covered = decimal (percent n) ++ codes "%" in
    flat_map right
    (chosen arcs (decimal n.statements) (decimal n.missing) (decimal n.branches) (decimal n.partial)
    covered)

-- how wide a name is: its characters, and not its bytes
abbrev pub name_length : AnalysisView → ℕ
name_length file = length (chars file.path)

-- the width of the column of names: the longest path or 5, and 1
abbrev pub name_width : List AnalysisView → ℕ
name_width files = fold max 5 (map name_length files) + 1

-- a note after three blanks
abbrev pub noted : List ℕ → List ℕ
noted [] = []
noted (c ∷ note) = codes "   " ++ (c ∷ note)

-- a name on the left of its column, cells and a note
abbrev pub line : ℕ → List ℕ → List ℕ → List ℕ → List ℕ
line width name cells note =
    name ++ (repeat (width - length (chars name)) (codes " ") ++ (cells ++ noted note))

-- the line above the files
abbrev pub header : ℕ → Bool → Bool → List ℕ
header width arcs missing =
    line width (codes "Name") (headings arcs) (if missing then codes "Missing" else [])

-- the line of a name and its numbers
abbrev pub row : ℕ → Bool → List ℕ → Numbers → List ℕ → List ℕ
row width arcs name numbers note = line width name (cells arcs numbers) note

-- the note of a file, where what is missing is asked for
abbrev pub note : Bool → AnalysisView → List ℕ
note missing file = if missing then missing_text file else []

-- the line of a file, with its end
abbrev pub file_row : ℕ → Bool → Bool → AnalysisView → List ℕ
file_row width arcs missing file =
    row width arcs file.path file.numbers (note missing file) ++ codes "\n"

-- a dash for each place of the header
abbrev pub rule : List ℕ → List ℕ
rule header = repeat (length header) (codes "-")

-- a line for each file
abbrev pub rows : ℕ → Bool → Bool → List AnalysisView → List ℕ
rows width arcs missing files = flat_map (file_row width arcs missing) files

-- the line of all files
abbrev pub total_row : ℕ → Bool → List AnalysisView → List ℕ
total_row width arcs files =
    row width arcs (codes "TOTAL") (total_of (map (λ file. file.numbers) files)) []

-- a line, its end and what comes after it
abbrev pub ended : List ℕ → List ℕ → List ℕ
ended line rest = line ++ (codes "\n" ++ rest)

-- the report of files, of arcs or of lines, with or without what is missing
abbrev pub text_bytes : List AnalysisView → Bool → Bool → List ℕ
text_bytes files arcs missing =
    let width = name_width files in
    let head = header width arcs missing in
    ended head (ended (rule head) (rows width arcs missing files
    ++ ended (rule head) (ended (total_row width arcs files) [])))
