-- The step of words: the command that they are, and what it does.
--     IsSpelled      what words are
--     doing, step    what a command does, and what words do
use Rattle.std.specs.Prelude.{ℕ, List, Result, Ok, Err}
use Rattle.cov_programs.specs.Programs.{give, ask, bind, ◌>>=◌}
use Rattle.cov_why.specs.Answers.{usage}
use Rattle.cov_words.specs.Commands.{PlainCommand, IsCommand, StopsAfter}
use Rattle.cov_words.specs.Commands as plain
use Rattle.cov_words.specs.Values.{Word}
use Rattle.cov_step.specs.Calls.{Answered, spells, Step}
use Rattle.cov_step.specs.Answers.{given_or}
use Rattle.cov_step.specs.Commands.{arcs, run, combine, report, json, lcov, annotate, erase}
use Rattle.cov_step.specs.Making.{make}
use Rattle.cov_step.specs.Mutating.{mutate}
use Rattle.cov_step.specs.Scripts.{script}
use Rattle.cov_step.specs.Selecting.{select}
use Rattle.cov_step.specs.Testing.{suite}

-- the command that words are, or how many of them begin one
abbrev pub IsSpelled : List Word → Result PlainCommand ℕ → Type 0
IsSpelled words (Ok c) = IsCommand c words
IsSpelled words (Err i) =
    ((c : PlainCommand) → IsCommand c words → ⊥) × StopsAfter words i

-- what a command does
abbrev pub doing : PlainCommand → Step Answered
doing (plain.arcs budget script args) = arcs budget script args
doing (plain.run branch append context budget hook data_file rcfile script args) =
    run branch append context budget hook data_file rcfile script args
doing (plain.combine append keep data_file rcfile names) =
    combine append keep data_file rcfile names
doing (plain.report show_missing fail_under data_file rcfile) =
    report show_missing fail_under data_file rcfile
doing (plain.json name fail_under data_file rcfile) = json name fail_under data_file rcfile
doing (plain.lcov name fail_under data_file rcfile) = lcov name fail_under data_file rcfile
doing (plain.annotate data_file rcfile file) = annotate data_file rcfile file
doing (plain.erase data_file rcfile) = erase data_file rcfile
doing (plain.script file) = script file
doing (plain.make seed size) = make seed size
doing (plain.suite branch budget data_file rcfile file) =
    suite branch budget data_file rcfile file
doing (plain.select budget old new) = select budget old new
doing (plain.mutate budget file) = mutate budget file

-- what words do
abbrev pub step : List Word → Step Answered
step words = do
  spelled ← ask (spells words) give
  c ← given_or usage spelled
  doing c
