-- What the types of the code stand for.
--     asked_view                         what tests are asked
--     named, result_view, results_view   a test by its name, and how it ended
--     run_view                           what tests came to
--     HasUnits                           the units of a loaded program
--     on_suite                           the objects that tests are lent
use Rattle.std.specs.Prelude.{◌≡◌, ℕ, List, map, string_bytes}
use Rattle.std.specs.Str.{chars}
use Rattle.cov_contexts.specs.declared.plugins.Plugin.{Ghosts as PluginOf}
use Rattle.cov_data.specs.DataSet.{DataSet}
use Rattle.cov_measure_laws.specs.Units.{program_units}
use Rattle.cov_outside.specs.declared.shelf.Shelf.{Ghosts as ShelfOf}
use Rattle.cov_outside.specs.declared.sink.Sink.{Ghosts as SinkOf}
use Rattle.cov_programs.specs.Objects.{Moves, beside}
use Rattle.cov_recorder.specs.Plan.{Named}
use Rattle.cov_run.specs.declared.programs.Loaded.{Loaded}
use Rattle.cov_step.specs.Calls.{Call, Answer, TestsAsked, TestEnd, TestResult}
use Rattle.cov_step.specs.Objects.{on_shelf, on_sink, on_vault}
use Rattle.cov_streams.specs.Suites.{end_of, on_plugins}
use Rattle.cov_suite.specs.declared.results.SuiteRun.{SuiteRun}
use Rattle.cov_suite.specs.declared.results.TestResult.{TestResult as RawResult}
use Rattle.cov_suites.specs.declared.requests.TestsRequest.{TestsRequest}
use Rattle.cov_vault.specs.declared.vault.Vault.{Ghosts as VaultOf}

-- what tests are asked
abbrev pub asked_view : TestsRequest → TestsAsked
asked_view r = record { arcs = r.arcs; context = string_bytes r.fixed; budget = r.budget }

-- a test whose name has these bytes
abbrev pub named : List ℕ → TestEnd → TestResult
named name end = record { name = chars name; end = end }

-- a test by its name, and how it ended
abbrev pub result_view : RawResult → TestResult
result_view t = named (string_bytes t.name) (end_of t.end)

-- tests in order
abbrev pub results_view : List RawResult → List TestResult
results_view = map result_view

-- what tests came to: each with how it ended, and the rows of all
abbrev pub run_view : SuiteRun → List TestResult × DataSet
run_view r = (results_view r.tests.items, r.rows)

-- these are the units of a loaded program
abbrev pub HasUnits : Loaded → List (List Named) → Type 0
HasUnits l units = units ≡ program_units l.programs.modules.items

-- a shelf, a vault, an output and plugins
abbrev pub on_suite : {H V O P : Type 0} → ShelfOf H → VaultOf V → SinkOf O → PluginOf P
    → Moves Call Answer ((H × V) × (O × List P))
on_suite shelf vault sink plugin =
    beside (beside (on_shelf shelf) (on_vault vault)) (beside (on_sink sink) (on_plugins plugin))
