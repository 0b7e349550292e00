-- What `mutate` answers, by what the modules mean.
--     AreMutable          programs and trees whose mutants are judged
--     HasRun, RanOf       what the unchanged programs did
--     end_of, view_of     the verdict of a mutant, and a judged one
--     answer_view         an answer of the code
--     MutateOf            a call
use Rattle.std.specs.Prelude.{◌≡◌, ◌≢◌, ◌↔◌, ℕ, ◌<◌, List, All, Contains, map, string_bytes, encode_utf8_all, Result, Ok, Err, Vec}
use Rattle.std.specs.Global.{Global}
use Rattle.cov_data.specs.Rows.{lines_of}
use Rattle.cov_measure_laws.specs.Units.{HaveSamePaths}
use Rattle.cov_mutate.specs.declared.Judged.{Judged}
use Rattle.cov_mutate.specs.declared.MutantEnd.{MutantEnd}
use Rattle.cov_mutate.specs.declared.MutantEnd.TheVariants.{Killed, Survived, Unreached}
use Rattle.cov_recorder_laws.specs.Laws.{HasTextLines}
use Rattle.cov_suite.specs.Results.{import_of, suite_of}
use Rattle.cov_suite.specs.Views.{SuiteView}
use Rattle.cov_suite.specs.declared.results.SuiteError.{SuiteError}
use Rattle.cov_suite.specs.declared.results.SuiteError.TheVariants.{NotImported, NoMemory}
use Rattle.cov_verdicts.specs.Regular.{AreRegular}
use Rattle.cov_verdicts.specs.Verdicts.{Verdict, killed, survived, unreached, JudgedView, IsReached, AreJudged}
use Rattle.py_builtins.specs.Outcomes.{finished}
use Rattle.py_changes.specs.Paths.{path_of}
use Rattle.py_code.specs.Loaded.{modules_of}
use Rattle.py_code.specs.declared.code.Programs.{Programs}
use Rattle.py_compile.specs.ProgramRuns.{AreFaithful}
use Rattle.py_meaning.specs.Modules.{LoadedModule}
use Rattle.py_syntax.specs.View.{plain_module}
use Rattle.py_syntax.specs.declared.stmt.Module.{Module}
use Rattle.py_compile_laws.specs.Traces.{AreWellFormed}

-- The programs are faithful code of the modules, on the same paths, and the trees are the bodies
-- of these. The modules have no fault of scope, and their statements begin in lines that a text
-- may have.
pub record AreMutable (ps : Programs) (trees : List Module) (ms : List LoadedModule)
    : Type 0 where
  pub faithful : AreFaithful (modules_of ps) ms
  pub paths : HaveSamePaths ps.modules.items ms
  pub well_formed : AreWellFormed ms
  pub lines : All HasTextLines ms
  pub bodies : map plain_module trees ≡ map (λ m. m.body) ms

-- The import finished, and the result of each test is told. Of each module the data have exactly
-- the lines from 1 on that the import or a test reached.
pub record HasRun (budget : ℕ) (ms : List LoadedModule) (s : SuiteView) : Type 0 where
  pub imports : (import_of ms budget).outcome ≡ finished
  pub tests : s.tests ≡ map (λ t. t.0) (suite_of ms budget).tests
  pub lines : (m l : ℕ) → 0 < l → Contains (lines_of s.rows (encode_utf8_all (path_of ms m))) l
      ↔ IsReached budget ms m l

-- so it is, or the import didn't finish, or memory was wanting
abbrev pub RanOf : ℕ → List LoadedModule → Result SuiteView SuiteError → Type 0
RanOf budget ms (Ok s) = HasRun budget ms s
RanOf budget ms (Err NotImported) = (import_of ms budget).outcome ≢ finished
RanOf budget ms (Err NoMemory) = Unit {0}

-- the verdict of a mutant
abbrev pub end_of : MutantEnd → Verdict
end_of Killed = killed
end_of Survived = survived
end_of Unreached = unreached

-- a mutant that was judged
abbrev pub view_of : Judged → JudgedView
view_of j = record {
  «module» = j.«module»;
  line = j.line;
  old = string_bytes j.old;
  new = string_bytes j.new;
  verdict = end_of j.end;
}

-- an answer of the code
abbrev pub answer_view : Result (Vec Judged Global) SuiteError → Result (List Judged) SuiteError
answer_view (Ok js) = Ok js.items
answer_view (Err e) = Err e

-- Either the import finished, and where the modules are as texts spell them each mutant is judged.
-- Or it didn't finish, or memory was wanting.
abbrev pub MutateOf : ℕ → List LoadedModule → Result (List Judged) SuiteError → Type 0
MutateOf budget ms (Ok js) =
    ((import_of ms budget).outcome ≡ finished)
    × (AreRegular ms → AreJudged budget ms (map view_of js))
MutateOf budget ms (Err NotImported) = (import_of ms budget).outcome ≢ finished
MutateOf budget ms (Err NoMemory) = Unit {0}
