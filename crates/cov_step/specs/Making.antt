-- The command `make`: one line about a source that is made up.
--     made_path, made_module        where it runs
--     ran_if_any                    what a try of it came to
--     make_line                     the line
--     made_by, make                 the command
use Rattle.std.specs.Prelude.{ℕ, List, [], ◌∷◌, ◌++◌, length, Option, Some, None, codes, decimal}
use Rattle.std.specs.Str.{chars}
use Rattle.py_meaning.specs.Modules.{LoadedModule}
use Rattle.py_token.specs.Source.{line_count}
use Rattle.cov_analysis.specs.Analyses.{AnalysisView}
use Rattle.cov_analysis.specs.Percentage.{percent}
use Rattle.cov_config.specs.Settings.{no_cover, no_branch}
use Rattle.cov_data.specs.Rows.{arcs_of}
use Rattle.cov_make.specs.Source as made
use Rattle.cov_programs.specs.Programs.{give, ask, bind, ◌>>=◌}
use Rattle.cov_why.specs.Answers.{no_memory}
use Rattle.cov_words.specs.Values.{Word}
use Rattle.cov_step.specs.Calls.{Answered, PlainSource, Patterns, Ran, checks, tries, Step, refuse}
use Rattle.cov_step.specs.Answers.{tree_of}
use Rattle.cov_step.specs.Commands.{words_of, usual_steps}
use Rattle.cov_step.specs.Phases.{patterns_by, analysed, done, write_last}

-- the path under which a made source runs; no file of this name is read
abbrev pub made_path : Word
made_path = codes "made.py"

-- the module of a made source
abbrev pub made_module : PlainSource → LoadedModule
made_module f = record { name = chars (codes "__main__"); path = chars f.path; body = f.body }

-- what a try came to; there is none where memory was wanting
abbrev pub ran_if_any : Option Ran → Step Ran
ran_if_any None = refuse no_memory
ran_if_any (Some r) = give r

-- `make SEED SIZE: L lines, S statements, M missing, B branches, P partial, C%, A arcs, N steps`
abbrev pub make_line : (seed size lines : ℕ) → AnalysisView → (arcs steps : ℕ) → List ℕ
make_line seed size lines a arcs steps =
    codes "make " ++ (decimal seed ++ (codes " " ++ (decimal size
    ++ (codes ": " ++ (decimal lines
    ++ (codes " lines, " ++ (decimal a.numbers.statements
    ++ (codes " statements, " ++ (decimal a.numbers.missing
    ++ (codes " missing, " ++ (decimal a.numbers.branches
    ++ (codes " branches, " ++ (decimal a.numbers.partial
    ++ (codes " partial, " ++ (decimal (percent a.numbers)
    ++ (codes "%, " ++ (decimal arcs
    ++ (codes " arcs, " ++ (decimal steps ++ codes " steps\n")))))))))))))))))))

-- what a run of a made source came to, as its line
abbrev pub made_line : (seed size : ℕ) → Patterns → PlainSource → Ran → List ℕ
made_line seed size p f r =
    make_line seed size (line_count (chars f.text)) (analysed p r.rows f)
    (length (arcs_of r.rows f.path)) r.steps

-- the source runs with arcs, and then its line is written
abbrev pub made_by : (seed size : ℕ) → Patterns → PlainSource → Step Answered
made_by seed size p f = do
  tried ← ask (tries (made_module f ∷ []) (words_of f.path []) usual_steps) give
  r ← ran_if_any tried
  write_last (made_line seed size p f r) done

-- the usual patterns come first; no file and no data are touched
abbrev pub make : (seed size : ℕ) → Step Answered
make seed size = do
  p ← patterns_by (no_cover ∷ []) (no_branch ∷ [])
  reading ← ask (checks (made.source seed size)) give
  f ← tree_of made_path (made.source seed size) reading
  made_by seed size p f
