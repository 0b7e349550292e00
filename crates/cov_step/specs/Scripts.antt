-- The command `script`: a file of commands, each where those before it led.
--     inside                        a command of a script
--     is_blank, words_in            the words of a line
--     status_line                   the line of a command's status
--     ended_in, line_done           a line's command, and then what is told of it
--     is_comment, words_done, line_step    a line
--     is_text, is_short             the checks of its file
--     is_script, script_text        its text
--     lines_done, script            its lines, one after another
use Rattle.std.specs.Prelude.{nat_le, ℕ, ◌==◌, ◌||◌, Bool, true, false, not, if◌then◌else◌, List, [], ◌∷◌, ◌++◌, filter, Ok, codes, decimal}
use Rattle.std.specs.List.{slice_split}
use Rattle.std.specs.Str.{chars, is_utf8}
use Rattle.std.specs.Str.Lines.{lines}
use Rattle.py_token.specs.Source.{line_count, most_lines}
use Rattle.cov_programs.specs.Programs.{give, ask, bind, ◌>>=◌, each}
use Rattle.cov_run.specs.Reading.{fault_line}
use Rattle.cov_why.specs.Answers.{usage, no_such_file, syntax, limit}
use Rattle.cov_why.specs.Messages.{message_of}
use Rattle.cov_why.specs.Statuses.{status_of}
use Rattle.cov_why.specs.declared.why.LimitKind.TheVariants as limits
use Rattle.cov_why.specs.declared.why.SyntaxKind.TheVariants as kinds
use Rattle.cov_words.specs.Commands.{PlainCommand}
use Rattle.cov_words.specs.Commands as plain
use Rattle.cov_words.specs.Values.{Word}
use Rattle.cov_step.specs.Calls.{Answered, spells, writes, says, Step, refuse}
use Rattle.cov_step.specs.Answers.{given_or, sink_refusal, on}
use Rattle.cov_step.specs.Commands.{arcs, run, combine, report, json, lcov, annotate, erase}
use Rattle.cov_step.specs.Making.{make}
use Rattle.cov_step.specs.Mutating.{mutate}
use Rattle.cov_step.specs.Phases.{file, done}
use Rattle.cov_step.specs.Selecting.{select}
use Rattle.cov_step.specs.Testing.{suite}

-- a command of a script; there a script is no command
abbrev pub inside : PlainCommand → Step Answered
inside (plain.arcs budget script args) = arcs budget script args
inside (plain.run branch append context budget hook data_file rcfile script args) =
    run branch append context budget hook data_file rcfile script args
inside (plain.combine append keep data_file rcfile names) =
    combine append keep data_file rcfile names
inside (plain.report show_missing fail_under data_file rcfile) =
    report show_missing fail_under data_file rcfile
inside (plain.json name fail_under data_file rcfile) = json name fail_under data_file rcfile
inside (plain.lcov name fail_under data_file rcfile) = lcov name fail_under data_file rcfile
inside (plain.annotate data_file rcfile file) = annotate data_file rcfile file
inside (plain.erase data_file rcfile) = erase data_file rcfile
inside (plain.script file) = refuse (usage 0)
inside (plain.make seed size) = make seed size
inside (plain.suite branch budget data_file rcfile file) =
    suite branch budget data_file rcfile file
inside (plain.select budget old new) = select budget old new
inside (plain.mutate budget file) = mutate budget file

-- ---- a line

-- a blank or a tab
abbrev pub is_blank : ℕ → Bool
is_blank b = b == 32 || b == 9

-- there is nothing in it
abbrev pub is_nothing : Word → Bool
is_nothing [] = true
is_nothing (b ∷ bs) = false

-- the words of a line, which blanks and tabs separate
abbrev pub words_in : List ℕ → List Word
words_in line = filter (λ w. not (is_nothing w)) (slice_split is_blank line)

-- `= STATUS`
abbrev pub status_line : Answered → List ℕ
status_line a = codes "= " ++ (decimal (status_of (Ok a.ended)) ++ codes "\n")

-- of a command that ended, its own text is said, and then its status is a line of the output
abbrev pub ended_in : Answered → Step (Unit {0})
ended_in a = do
  said ← ask (says (message_of (Ok a.ended) a.ending)) give
  ask (writes (status_line a)) (on sink_refusal)

-- the words of a line are a command, and it is done
abbrev pub line_done : List Word → Step (Unit {0})
line_done words = do
  spelled ← ask (spells words) give
  c ← given_or usage spelled
  a ← inside c
  ended_in a

-- whether a line begins with `#`
abbrev pub is_comment : List ℕ → Bool
is_comment [] = false
is_comment (b ∷ bs) = b == 35

-- what words are done that stand in a line, where there are some
abbrev pub words_done : List Word → Step (Unit {0})
words_done [] = give tt
words_done (w ∷ ws) = line_done (w ∷ ws)

-- a line: one that is blank and one that begins with `#` are passed over
abbrev pub line_step : List ℕ → Step (Unit {0})
line_step line = if is_comment line then give tt else words_done (words_in line)

-- ---- the file

-- the bytes of a file are a text
abbrev pub is_text : Word → List ℕ → Step (Unit {0})
is_text name bytes =
    if is_utf8 bytes then give tt
    else refuse (syntax name (fault_line bytes) kinds.BadCharacter)

-- it has no more lines than a source may have
abbrev pub is_short : ℕ → Step (Unit {0})
is_short count = if nat_le count most_lines then give tt else refuse (limit limits.Lines count)

-- a text of no more lines than a source may have
abbrev pub is_script : Word → List ℕ → Step (List ℕ)
is_script name bytes = do
  a ← is_text name bytes
  b ← is_short (line_count (chars bytes))
  give bytes

-- the text of a file of commands
abbrev pub script_text : Word → Step (List ℕ)
script_text name = do
  bytes ← file (no_such_file name) name
  is_script name bytes

-- each line where those before it led, until a command is refused
abbrev pub lines_done : List (List ℕ) → Step Answered
lines_done ls = do
  told ← each line_step ls
  give done

-- the lines of a file of commands; no settings are read for them
abbrev pub script : Word → Step Answered
script name = do
  text ← script_text name
  lines_done (lines text)
