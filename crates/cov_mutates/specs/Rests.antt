-- What is left to do of verdicts, after each of their parts.
--     judging     the tests and the verdicts
--     written     after them
use Rattle.std.specs.Prelude.{ℕ, List}
use Rattle.py_meaning.specs.Modules.{LoadedModule}
use Rattle.cov_programs.specs.Programs.{give, ask, bind}
use Rattle.cov_step.specs.Calls.{Answered, Judged, judges, Step}
use Rattle.cov_step.specs.Mutating.{mutation_lines}
use Rattle.cov_step.specs.Phases.{done, write_last}
use Rattle.cov_step.specs.Testing.{came_or}
use Rattle.cov_words.specs.Values.{Word}

-- the tests run of the modules and of their mutants
abbrev pub judging : ℕ → Word → List LoadedModule → Step (List Judged)
judging most file ms = bind (ask (judges most ms) give) (came_or file)

-- the verdicts are written
abbrev pub written : List Judged → Step Answered
written js = write_last (mutation_lines js) done
