-- Tests of a loaded program, as a call.
use Rattle.std.proofs.Common.{◌≡◌, List, Result, Ok, ap, refl, sym, subst}
use Rattle.std.specs.List.{Contains}
use Rattle.cov_contexts.specs.declared.plugins.Plugin.{Ghosts as PluginOf}
use Rattle.py_meaning.specs.Modules.{LoadedModule}
use Rattle.py_syntax.specs.Prediction.{Arc}
use Rattle.cov_loaded_laws.specs.Loaded.{IsMeasurable}
use Rattle.cov_programs.specs.Ends.{Follows}
use Rattle.cov_programs.specs.Objects.{nobody}
use Rattle.cov_programs.proofs.Composing.{followed-so, gives}
use Rattle.cov_recorder.specs.Plan.{Named}
use Rattle.cov_run.specs.Loads.{loaded_modules}
use Rattle.cov_run.specs.declared.programs.Loaded.{Loaded}
use Rattle.cov_runs.specs.Measured.{HoldPossible}
use Rattle.cov_step.specs.Calls.{Call, Answer, IsNoMemory, TestResult, TestsAsked}
use Rattle.cov_step.specs.Testing.{came_or}
use Rattle.cov_streams.specs.Suites.{TestedAs, result_of, tested_by}
use Rattle.cov_measure_laws.proofs.Lists.{map-twice}
use Rattle.cov_suite.specs.Meant.{AreTested, SuiteOf}
use Rattle.cov_suite.specs.declared.results.SuiteError.{SuiteError}
use Rattle.cov_suite.specs.declared.results.SuiteRun.{SuiteRun}
use Rattle.cov_suite.specs.Views.{SuiteView, plain_answer, test_view}
use Rattle.cov_suites.specs.Views.{HasUnits, run_view}
use Rattle.cov_words.specs.Values.{Word}

-- the trees of a loaded program, with its units and with sets of what is possible in them
pub trees-of : (l : Loaded) → IsMeasurable l → (units : List (List Named)) → HasUnits l units → (sets : List (List Arc)) → HoldPossible (loaded_modules l) sets → AreTested l.programs units sets (loaded_modules l)
trees-of l measurable units named sets holds =
    let t = measurable.trees sets (λ m low a c. subst (λ s. Contains s a) (sym (holds m low)) c) in record {
      faithful = t.faithful;
      paths = t.paths;
      well_formed = t.well_formed;
      lines = t.lines;
      named = named;
      whole = t.whole;
    }

-- the answer to the call
pub tested-so : {P : Type 0} (plugin : PluginOf P) (asked : TestsAsked) (ms : List LoadedModule) (old : List P) (said : Result SuiteView SuiteError) (new : List P) (context : Word) → context ≡ asked.context
    → SuiteOf plugin ms asked.arcs context asked.budget old said new → TestedAs plugin asked ms old (tested_by said) new
tested-so plugin asked ms old said new context same suite = record {
  said = said;
  is = refl;
  suite = subst (λ c. SuiteOf plugin ms asked.arcs c asked.budget old said new) same suite;
}

-- what follows from it, where all tests were run
pub all-tested : (file : Word) (answer : Result SuiteRun SuiteError) (run : SuiteRun) → answer ≡ Ok run → Follows (nobody Call Answer) IsNoMemory (came_or file (tested_by (plain_answer answer))) tt (Ok (run_view run)) tt
all-tested file answer run is =
    followed-so (nobody Call Answer) (ap (λ (a : Result SuiteRun SuiteError). came_or file (tested_by (plain_answer a))) (sym is)) (ap (λ (ts : List TestResult). Ok (ts, run.rows)) (map-twice test_view result_of run.tests.items)) gives
