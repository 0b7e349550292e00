-- What is left to do of tests, after each of their parts.
--     suite_set     after the settings
--     targeted      after loading
--     testing       the import and the tests
--     ended         after them
use Rattle.std.specs.Prelude.{ℕ, Bool, List, Option}
use Rattle.py_meaning.specs.Modules.{LoadedModule}
use Rattle.cov_config.specs.Settings.{Settings}
use Rattle.cov_data.specs.DataSet.{DataSet}
use Rattle.cov_programs.specs.Programs.{give, ask, bind}
use Rattle.cov_step.specs.Answers.{sink_refusal, on}
use Rattle.cov_step.specs.Calls.{Answered, TestsAsked, TestResult, tests, writes, Step}
use Rattle.cov_step.specs.Phases.{before, own_name, save_last}
use Rattle.cov_step.specs.Testing.{suite_answered, suite_by, suite_lines, came_or, tests_asked, tests_run}
use Rattle.cov_words.specs.Values.{Word}

-- after the settings
abbrev pub suite_set : (branch : Bool) (steps : Option ℕ) (data_file : Option Word) (file : Word)
    → Settings → Step Answered
suite_set branch steps data_file file s =
    suite_by (own_name data_file s) (tests_asked s branch steps) file

-- after loading
abbrev pub targeted : Word → TestsAsked → Word → List LoadedModule → Step Answered
targeted own asked file ms = bind (before own) (λ was. tests_run own asked file ms)

-- the import and the tests
abbrev pub testing : TestsAsked → Word → List LoadedModule → Step (List TestResult × DataSet)
testing asked file ms = bind (ask (tests asked ms) give) (came_or file)

-- their lines are written, and their rows are saved
abbrev pub ended : Word → List TestResult × DataSet → Step Answered
ended own r =
    bind (ask (writes (suite_lines r.0)) (on sink_refusal))
    (λ written. save_last own r.1 (suite_answered r.0))
