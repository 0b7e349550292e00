-- Memory may be wanting where each command begins, and each line of a script.
use Rattle.std.proofs.Common.{ℕ, Bool, true, false, if◌then◌else◌, List, [], ◌∷◌, Some, None}
use Rattle.cov_programs.specs.Programs.{give, each}
use Rattle.cov_programs.specs.Ends.{IsOpen}
use Rattle.cov_programs.proofs.Each.{then-open, each-open}
use Rattle.cov_step.specs.Calls.{Step}
use Rattle.cov_step.specs.Phases.{done}
use Rattle.cov_words.specs.Commands.{PlainCommand, arcs, run, combine, report, json, lcov, annotate, erase, script, make, suite, select, mutate}
use Rattle.cov_step.specs.Scripts.{inside, ended_in, words_done, is_comment, words_in, line_step, lines_done}
use Rattle.cov_step.specs.Step.{doing}
use Rattle.cov_app.specs.Spelled.{inside_done}
use Rattle.cov_words.specs.Values.{Word}

pub doing-open : (c : PlainCommand) → IsOpen (doing c)
doing-open (arcs budget file args) = tt
doing-open (run branch append context budget hook data_file None file args) = tt
doing-open (run branch append context budget hook data_file (Some rcfile) file args) = tt
doing-open (combine append keep data_file None names) = tt
doing-open (combine append keep data_file (Some rcfile) names) = tt
doing-open (report show_missing fail_under data_file None) = tt
doing-open (report show_missing fail_under data_file (Some rcfile)) = tt
doing-open (json name fail_under data_file None) = tt
doing-open (json name fail_under data_file (Some rcfile)) = tt
doing-open (lcov name fail_under data_file None) = tt
doing-open (lcov name fail_under data_file (Some rcfile)) = tt
doing-open (annotate data_file None file) = tt
doing-open (annotate data_file (Some rcfile) file) = tt
doing-open (erase data_file None) = tt
doing-open (erase data_file (Some rcfile)) = tt
doing-open (script file) = tt
doing-open (make seed size) = tt
doing-open (suite branch budget data_file None file) = tt
doing-open (suite branch budget data_file (Some rcfile) file) = tt
doing-open (select budget old new) = tt
doing-open (mutate budget file) = tt

-- ---- a script

pub inside-open : (c : PlainCommand) → IsOpen (inside c)
inside-open (arcs budget file args) = tt
inside-open (run branch append context budget hook data_file None file args) = tt
inside-open (run branch append context budget hook data_file (Some rcfile) file args) = tt
inside-open (combine append keep data_file None names) = tt
inside-open (combine append keep data_file (Some rcfile) names) = tt
inside-open (report show_missing fail_under data_file None) = tt
inside-open (report show_missing fail_under data_file (Some rcfile)) = tt
inside-open (json name fail_under data_file None) = tt
inside-open (json name fail_under data_file (Some rcfile)) = tt
inside-open (lcov name fail_under data_file None) = tt
inside-open (lcov name fail_under data_file (Some rcfile)) = tt
inside-open (annotate data_file None file) = tt
inside-open (annotate data_file (Some rcfile) file) = tt
inside-open (erase data_file None) = tt
inside-open (erase data_file (Some rcfile)) = tt
inside-open (script file) = tt
inside-open (make seed size) = tt
inside-open (suite branch budget data_file None file) = tt
inside-open (suite branch budget data_file (Some rcfile) file) = tt
inside-open (select budget old new) = tt
inside-open (mutate budget file) = tt

pub inside_done-open : (c : PlainCommand) → IsOpen (inside_done c)
inside_done-open c = then-open (inside c) ended_in (inside-open c) (λ a. tt)

pub words-open : (words : List Word) → IsOpen (words_done words)
words-open [] = tt
words-open (w ∷ ws) = tt

either-open : (b : Bool) (p q : Step (Unit {0})) → IsOpen p → IsOpen q → IsOpen (if b then p else q)
either-open true p q h g = h
either-open false p q h g = g

-- a line that is a comment or not
abbrev pub if-comment : List ℕ → Bool → Step (Unit {0})
if-comment line b = if b then give tt else words_done (words_in line)

pub line-open : (line : List ℕ) → IsOpen (line_step line)
line-open line = either-open (is_comment line) (give tt) (words_done (words_in line)) tt (words-open (words_in line))

pub lines-open : (ls : List (List ℕ)) → IsOpen (lines_done ls)
lines-open ls = then-open (each line_step ls) (λ told. give done) (each-open line_step line-open ls) (λ told. tt)
