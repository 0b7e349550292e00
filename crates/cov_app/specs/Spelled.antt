-- Parts of a step by which code goes on.
--     spelled         the command that words are
--     inside_done     a command of a script, and what is told of it
use Rattle.std.specs.Prelude.{List}
use Rattle.cov_programs.specs.Programs.{give, ask, bind}
use Rattle.cov_step.specs.Answers.{given_or}
use Rattle.cov_step.specs.Calls.{spells, Step}
use Rattle.cov_step.specs.Scripts.{inside, ended_in}
use Rattle.cov_why.specs.Answers.{usage}
use Rattle.cov_words.specs.Commands.{PlainCommand}
use Rattle.cov_words.specs.Values.{Word}

-- the command that words are, or how many of them begin one
abbrev pub spelled : List Word → Step PlainCommand
spelled words = bind (ask (spells words) give) (given_or usage)

-- a command of a script, and what is told of it
abbrev pub inside_done : PlainCommand → Step (Unit {0})
inside_done c = bind (inside c) ended_in
