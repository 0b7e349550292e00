-- The names that `select` gives are those of the tests that must run again.
--     selected_names     names that are selected
--     ChosenInSuite      they are those that must run again
use Rattle.std.specs.Prelude.{◌≡◌, ℕ, Bool, List, map, filter, length, Ok, encode_utf8_all}
use Rattle.cov_contexts.specs.declared.plugins.Plugin.{Ghosts as PluginOf}
use Rattle.cov_data.specs.DataSet.{Text as Bytes}
use Rattle.cov_suite.specs.declared.results.SuiteRun.{SuiteRun}
use Rattle.cov_suite.specs.Meant.{SuiteOf}
use Rattle.cov_suite.specs.Tests.{tests_of}
use Rattle.cov_suite.specs.Views.{plain_answer}
use Rattle.cov_verdicts.specs.Chosen.{IsChosen}
use Rattle.cov_verdicts.specs.Regular.{AreRegular}
use Rattle.py_meaning.specs.Modules.{LoadedModule}
use Rattle.py_syntax.specs.Tree.{Text}
use Rattle.cov_select.specs.Paths.{changes_by_path, plain_change}
use Rattle.cov_select.specs.Selected.{ByPath, is_changed, is_selected}

-- of names those that are selected by changed lines, after a run of tests
abbrev pub selected_names : SuiteRun → ByPath → List Text → List Text
selected_names run changed =
    filter (λ name. is_selected run.tests.items (is_changed changed) (encode_utf8_all name))

-- The suite of old modules was run, whatever its data are of, and these are the changed lines of
-- those modules. Then the tests of the new modules that are selected by them are those that must run
-- again, exactly. The old modules are as texts spell them.
abbrev pub ChosenInSuite : {P : Type 0} → PluginOf P → Type 0
ChosenInSuite {P} plugin =
    (old new : List LoadedModule) (arcs : Bool) (fixed : Bytes) (budget : ℕ) (before after : List P)
    (run : SuiteRun) (changed : ByPath)
    → AreRegular old → SuiteOf plugin old arcs fixed budget before (plain_answer (Ok run)) after
    → map plain_change changed ≡ changes_by_path old new
    → IsChosen budget old new (selected_names run changed (tests_of new)) (length (tests_of new))
