-- The parts of the line of `make`.
use Rattle.std.specs.Prelude.{ℕ, List, ◌++◌, codes, decimal}
use Rattle.cov_analysis.specs.Percentage.{percent}
use Rattle.cov_analysis.specs.declared.numbers.Numbers.{Numbers}

-- `make SEED SIZE: L lines, `
abbrev pub source_text : (seed size lines : ℕ) → List ℕ
source_text seed size lines =
    codes "make " ++ (decimal seed ++ (codes " " ++ (decimal size ++ (codes ": " ++ (decimal lines
    ++ codes " lines, ")))))

-- `S statements, M missing, `
abbrev pub statements_text : Numbers → List ℕ
statements_text n =
    decimal n.statements ++ (codes " statements, " ++ (decimal n.missing ++ codes " missing, "))

-- the branches, of which so many percent with the statements were covered
abbrev pub percent_text : Numbers → ℕ → List ℕ
percent_text n covered =
    decimal n.branches ++ (codes " branches, " ++ (decimal n.partial ++ (codes " partial, "
    ++ (decimal covered ++ codes "%, "))))

-- `B branches, P partial, C%, `
abbrev pub branches_text : Numbers → List ℕ
branches_text n = percent_text n (percent n)

-- `A arcs, N steps`
abbrev pub run_text : (arcs steps : ℕ) → List ℕ
run_text arcs steps =
    decimal arcs ++ (codes " arcs, " ++ (decimal steps ++ codes " steps\n"))
