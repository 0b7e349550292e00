-- A run whose arcs are listed.
--     crossing    the run
--     listed      its lines are written
--     crossed     both
use Rattle.std.specs.Prelude.{ℕ, List}
use Rattle.py_meaning.specs.Modules.{LoadedModule}
use Rattle.py_syntax.specs.Tree.{Text}
use Rattle.cov_programs.specs.Programs.{give, ask, bind}
use Rattle.cov_step.specs.Calls.{Answered, Ran, crosses, Step}
use Rattle.cov_step.specs.Listing.{listing}
use Rattle.cov_step.specs.Phases.{write_last, answered_by}
use Rattle.cov_runs.specs.Measured.{ran_of}

-- the run
abbrev pub crossing : List LoadedModule → List Text → ℕ → Step Ran
crossing ms words budget = bind (ask (crosses ms words budget) give) ran_of

-- its lines are written
abbrev pub listed : ℕ → Ran → Step Answered
listed budget r = write_last (listing r.rows) (answered_by budget r.outcome)

-- both
abbrev pub crossed : List LoadedModule → List Text → ℕ → Step Answered
crossed ms words budget = bind (crossing ms words budget) (listed budget)
