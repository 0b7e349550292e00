-- What the types of the code stand for.
--     told_of                        what is told of a mutant
--     program_path, path_in          the paths of programs
--     on_path, judged_views          mutants in the words of commands
--     mutants_view, came_by          what the code answers, likewise
use Rattle.std.specs.Prelude.{ℕ, List, [], map, Option, Some, None, slice_get, string_bytes, Result, Ok, Err, Vec}
use Rattle.std.specs.Global.{Global}
use Rattle.std.specs.Str.{chars}
use Rattle.py_code.specs.declared.code.Program.{Program}
use Rattle.py_code.specs.declared.code.Programs.{Programs}
use Rattle.py_syntax.specs.Tree.{Text}
use Rattle.cov_mutate.specs.Meant.{end_of}
use Rattle.cov_mutate.specs.declared.Judged.{Judged as RawJudged}
use Rattle.cov_mutate.specs.declared.MutantEnd.{MutantEnd}
use Rattle.cov_step.specs.Calls.{AfterImport, came, not_imported, starved, Judged, Verdict}
use Rattle.cov_streams.specs.Retests.{verdict_of}
use Rattle.cov_suite.specs.declared.results.SuiteError.{SuiteError}
use Rattle.cov_suite.specs.declared.results.SuiteError.TheVariants.{NotImported, NoMemory}

-- what is told of a mutant
abbrev pub told_of : MutantEnd → Verdict
told_of end = verdict_of (end_of end)

-- the path of a program, where it is there
abbrev pub program_path : Option Program → Text
program_path None = []
program_path (Some p) = chars (string_bytes p.path)

-- the path of the program with a number
abbrev pub path_in : Programs → ℕ → Text
path_in ps m = program_path (slice_get ps.modules.items m)

-- a mutant of a module on this path
abbrev pub on_path : Text → RawJudged → Judged
on_path path j = record {
  path = path;
  line = j.line;
  old = string_bytes j.old;
  new = string_bytes j.new;
  verdict = told_of j.end;
}

-- mutants of these programs, in order
abbrev pub judged_views : Programs → List RawJudged → List Judged
judged_views ps = map (λ j. on_path (path_in ps j.«module») j)

-- the same of a list in memory
abbrev pub mutants_view : Programs → Vec RawJudged Global → List Judged
mutants_view ps js = judged_views ps js.items

-- what came of them
abbrev pub came_by : Programs → Result (Vec RawJudged Global) SuiteError
    → AfterImport (List Judged)
came_by ps (Ok js) = came (mutants_view ps js)
came_by ps (Err NotImported) = not_imported
came_by ps (Err NoMemory) = starved
