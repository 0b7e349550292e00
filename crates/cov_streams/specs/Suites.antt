-- Tests as a call of a command.
--     end_of, result_of, tested_by    what `suite` answers, in the words of commands
--     TestedAs                        an import and its tests
--     TestsRun                        a call of them
--     on_plugins                      plugins, where nothing else is lent
use Rattle.std.specs.Prelude.{◌≡◌, List, map, Result, Ok, Err}
use Rattle.cov_contexts.specs.declared.plugins.Plugin.{Ghosts as PluginOf}
use Rattle.py_meaning.specs.Modules.{LoadedModule}
use Rattle.cov_measure.specs.Measures.{Streams, streams}
use Rattle.cov_programs.specs.Objects.{Moves}
use Rattle.cov_step.specs.Calls.{Call, spells, checks, reads, puts, opens, lists, loads, saves, removes, makes, writes, crosses, measures, tries, tests, selects, judges, says, Answer, TestsAsked, TestEnd, passed, failed, cut, TestResult, Tested, came, not_imported, starved}
use Rattle.cov_suite.specs.declared.results.SuiteError.{SuiteError}
use Rattle.cov_suite.specs.declared.results.SuiteError.TheVariants as error
use Rattle.cov_suite.specs.declared.results.TestEnd.{TestEnd as RawEnd}
use Rattle.cov_suite.specs.declared.results.TestEnd.TheVariants as raw
use Rattle.cov_suite.specs.Meant.{SuiteOf}
use Rattle.cov_suite.specs.Results.{TestView}
use Rattle.cov_suite.specs.Views.{SuiteView}

-- how a test ended
abbrev pub end_of : RawEnd → TestEnd
end_of raw.Passed = passed
end_of (raw.Failed kind text) = failed kind text
end_of raw.Cut = cut

-- a test by its name, and how it ended
abbrev pub result_of : TestView → TestResult
result_of t = record { name = t.name; end = end_of t.end }

-- what tests came to
abbrev pub tested_by : Result SuiteView SuiteError → Tested
tested_by (Ok s) = came (map result_of s.tests, s.rows)
tested_by (Err error.NotImported) = not_imported
tested_by (Err error.NoMemory) = starved

-- The import of these modules and their tests ended so, as they mean, with the data that they mean
-- under the labels of these plugins and of the names of tests. These plugins are left.
pub record TestedAs {P : Type 0} (plugin : PluginOf P) (asked : TestsAsked)
    (ms : List LoadedModule) (old : List P) (answer : Tested) (new : List P) : Type 0 where
  pub said : Result SuiteView SuiteError
  pub is : answer ≡ tested_by said
  pub suite : SuiteOf plugin ms asked.arcs asked.context asked.budget old said new

-- a call of them: it leaves input, output and engine as they were
pub record TestsRun {I O P G : Type 0} (plugin : PluginOf P) (old : Streams I O P G)
    (asked : TestsAsked) (ms : List LoadedModule) (answer : Tested) (new : Streams I O P G)
    : Type 0 where
  pub ran : TestedAs plugin asked ms old.plugins answer new.plugins
  pub same : new ≡ streams old.input old.out new.plugins old.engine

-- plugins, which tests ask for labels
abbrev pub on_plugins : {P : Type 0} → PluginOf P → Moves Call Answer (List P)
on_plugins plugin old (spells words) answer new = ⊥
on_plugins plugin old (checks bytes) reading new = ⊥
on_plugins plugin old (reads name most) answer new = ⊥
on_plugins plugin old (puts name bytes) refusal new = ⊥
on_plugins plugin old (opens name script) answer new = ⊥
on_plugins plugin old lists answer new = ⊥
on_plugins plugin old (loads name) answer new = ⊥
on_plugins plugin old (saves name content) refusal new = ⊥
on_plugins plugin old (removes name) refusal new = ⊥
on_plugins plugin old (makes texts) refusal new = ⊥
on_plugins plugin old (writes bytes) refusal new = ⊥
on_plugins plugin old (crosses modules words budget) answer new = ⊥
on_plugins plugin old (measures asked modules hook) answer new = ⊥
on_plugins plugin old (tries modules words budget) answer new = ⊥
on_plugins plugin old (tests asked modules) answer new =
    TestedAs plugin asked modules old answer new
on_plugins plugin old (selects budget before after) answer new = ⊥
on_plugins plugin old (judges budget modules) answer new = ⊥
on_plugins plugin old (says text) answer new = ⊥
