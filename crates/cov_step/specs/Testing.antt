-- The command `suite`: the tests of a file, each from the state that the import left.
--     tests_name, tests_asked      the name of the file's module, and what is asked
--     end_text, test_line          how a test ended, and its line
--     count_of, counts_line        how many ended so, and the line of these counts
--     suite_lines, suite_answered  all lines, and how the command ended
--     came_or                      what follows from the answer
--     tests_run, suite_by, suite   the command
use Rattle.std.specs.Prelude.{ℕ, ◌||◌, Bool, true, false, List, [], ◌++◌, filter, length, Option, codes, decimal, encode_utf8_all}
use Rattle.std.specs.List.{flat_map}
use Rattle.std.specs.Str.{chars}
use Rattle.py_builtins.specs.Outcomes.{uncaught}
use Rattle.py_meaning.specs.Modules.{LoadedModule}
use Rattle.py_syntax.specs.Tree.{Text}
use Rattle.cov_config.specs.Settings.{Settings}
use Rattle.cov_programs.specs.Programs.{give, ask, bind, ◌>>=◌}
use Rattle.cov_why.specs.Answers as why
use Rattle.cov_words.specs.Values.{Word}
use Rattle.cov_step.specs.Calls.{Answered, TestsAsked, TestEnd, passed, failed, cut, TestResult, AfterImport, came, not_imported, starved, tests, writes, Step, refuse}
use Rattle.cov_step.specs.Answers.{sink_refusal, on}
use Rattle.cov_step.specs.Names.{or_else}
use Rattle.cov_step.specs.Phases.{before, opened, settings, own_name, save_last}

-- the name of the file's module: `if __name__ == "__main__":` doesn't run
abbrev pub tests_name : Text
tests_name = chars (codes "__tests__")

-- what is asked: words go before settings
abbrev pub tests_asked : Settings → Bool → Option ℕ → TestsAsked
tests_asked s branch steps = record {
  arcs = branch || s.run.branch;
  context = s.run.context;
  budget = or_else steps s.run.budget;
}

-- ---- the lines

-- how a test ended: `passed`, `failed KIND: TEXT`, with KIND alone where there is no text, or `cut`
abbrev pub end_text : TestEnd → List ℕ
end_text passed = codes "passed"
end_text (failed kind text) = codes "failed " ++ encode_utf8_all (uncaught kind text)
end_text cut = codes "cut"

-- `NAME END`
abbrev pub test_line : TestResult → List ℕ
test_line t = encode_utf8_all t.name ++ (codes " " ++ (end_text t.end ++ codes "\n"))

-- whether it passed
abbrev pub is_passed : TestEnd → Bool
is_passed passed = true
is_passed (failed kind text) = false
is_passed cut = false

-- whether it failed
abbrev pub is_failed : TestEnd → Bool
is_failed passed = false
is_failed (failed kind text) = true
is_failed cut = false

-- whether it was cut
abbrev pub is_cut : TestEnd → Bool
is_cut passed = false
is_cut (failed kind text) = false
is_cut cut = true

-- how many tests ended so
abbrev pub count_of : (TestEnd → Bool) → List TestResult → ℕ
count_of ends results = length (filter (λ t. ends t.end) results)

-- `P passed, F failed, C cut`
abbrev pub counts_line : (passing failing cutting : ℕ) → List ℕ
counts_line p f c =
    decimal p ++ (codes " passed, " ++ (decimal f ++ (codes " failed, " ++ (decimal c
    ++ codes " cut\n"))))

-- a line for each test, and then that of their counts
abbrev pub suite_lines : List TestResult → List ℕ
suite_lines results =
    flat_map test_line results
    ++ counts_line (count_of is_passed results) (count_of is_failed results)
    (count_of is_cut results)

-- how the command ended: it isn't refused, whatever became of the tests
abbrev pub suite_answered : List TestResult → Answered
suite_answered results = record {
  ended =
      why.tests (count_of is_passed results) (count_of is_failed results)
      (count_of is_cut results);
  ending = [];
}

-- ---- the command

-- what came of tests, where the import of this file finished
abbrev pub came_or : {A : Type 0} → Word → AfterImport A → Step A
came_or file (came a) = give a
came_or file not_imported = refuse (why.import_failed file)
came_or file starved = refuse why.no_memory

-- the import and the tests run, then their lines are written, and then their rows are saved
abbrev pub tests_run : (own : Word) (asked : TestsAsked) (file : Word) (ms : List LoadedModule)
    → Step Answered
tests_run own asked file ms = do
  answer ← ask (tests asked ms) give
  r ← came_or file answer
  written ← ask (writes (suite_lines r.0)) (on sink_refusal)
  save_last own r.1 (suite_answered r.0)

-- the file, and what stands under the data file's name, come before the tests
abbrev pub suite_by : (own : Word) (asked : TestsAsked) (file : Word) → Step Answered
suite_by own asked file = do
  ms ← opened tests_name file
  was ← before own
  tests_run own asked file ms

-- words go before settings
abbrev pub suite : (branch : Bool) (steps : Option ℕ) (data_file rcfile : Option Word)
    (file : Word) → Step Answered
suite branch steps data_file rcfile file = do
  s ← settings rcfile
  suite_by (own_name data_file s) (tests_asked s branch steps) file
