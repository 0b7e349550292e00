-- What `suite` answers, in words.
--     line_of, lines_of               lines with their paths
--     test_view, reached_lines        a test
--     SuiteView, plain_suite          all of it
--     plain_answer                    the same, or why there is none
use Rattle.std.specs.Prelude.{ℕ, List, map, Result, Ok, Err, String, string_bytes}
use Rattle.std.specs.Str.{chars}
use Rattle.std.specs.declared.alloc.Global.{Global}
use Rattle.cov_data.specs.DataSet.{DataSet}
use Rattle.cov_suite.specs.declared.results.SuiteError.{SuiteError}
use Rattle.cov_suite.specs.declared.results.SuiteRun.{SuiteRun}
use Rattle.cov_suite.specs.declared.results.TestResult.{TestResult}
use Rattle.cov_suite.specs.Results.{TestView}
use Rattle.cov_suite.specs.Rows.{Line}

-- the bytes of a path, and a line
abbrev pub line_of : String Global × ℕ → Line
line_of p = (string_bytes p.0, p.1)

-- the result of a test
abbrev pub test_view : TestResult → TestView
test_view t = record {
  name = chars (string_bytes t.name);
  end = t.end;
  output = t.output.items;
  steps = t.steps;
}

-- the lines that the import or a test reached
abbrev pub reached_lines : TestResult → List Line
reached_lines t = map line_of t.reached.items

-- the results of tests, the lines that each reached, those that the import reached, and the data
pub record SuiteView : Type 0 where
  pub tests : List TestView
  pub reached : List (List Line)
  pub imported : List Line
  pub rows : DataSet

-- of a run
abbrev pub plain_suite : SuiteRun → SuiteView
plain_suite s = record {
  tests = map test_view s.tests.items;
  reached = map reached_lines s.tests.items;
  imported = map line_of s.imported.items;
  rows = s.rows;
}

-- an answer, as that or a refusal
abbrev pub plain_answer : Result SuiteRun SuiteError → Result SuiteView SuiteError
plain_answer (Ok s) = Ok (plain_suite s)
plain_answer (Err e) = Err e
