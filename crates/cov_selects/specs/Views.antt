-- What the types of the code stand for.
--     name_view, selection_view     a selection, with its names as texts
--     came_of                       what came of it, in the words of commands
--     IsSelected                    what is selected after a run of tests
use Rattle.std.specs.Prelude.{◌≡◌, List, map, length, Result, Ok, Err, String, string_bytes}
use Rattle.std.specs.Global.{Global}
use Rattle.std.specs.Str.{chars}
use Rattle.cov_select.specs.Chosen.{selected_names}
use Rattle.cov_select.specs.Paths.{changes_by_path, plain_change}
use Rattle.cov_select.specs.Selected.{ByPath}
use Rattle.cov_selects.specs.declared.choosing.Selection.{Selection as RawSelection}
use Rattle.cov_step.specs.Calls.{AfterImport, came, not_imported, starved, Selection}
use Rattle.cov_suite.specs.declared.results.SuiteError.{SuiteError}
use Rattle.cov_suite.specs.declared.results.SuiteError.TheVariants.{NotImported, NoMemory}
use Rattle.cov_suite.specs.declared.results.SuiteRun.{SuiteRun}
use Rattle.cov_suite.specs.Tests.{tests_of}
use Rattle.py_meaning.specs.Modules.{LoadedModule}
use Rattle.py_syntax.specs.Tree.{Text}

-- a name as a text
abbrev pub name_view : String Global → Text
name_view name = chars (string_bytes name)

-- the names that are selected, and how many tests there are
abbrev pub selection_view : RawSelection → Selection
selection_view s = record { names = map name_view s.names.items; count = s.count }

-- what came of it, or why there is none
abbrev pub came_of : Result RawSelection SuiteError → AfterImport Selection
came_of (Ok s) = came (selection_view s)
came_of (Err NotImported) = not_imported
came_of (Err NoMemory) = starved

-- After this run of the old modules' tests, these are the names of the new modules' tests that are
-- selected by the changed lines of the old modules, and how many tests there are.
pub record IsSelected (run : SuiteRun) (old new : List LoadedModule) (s : RawSelection)
    : Type 0 where
  pub changed : ByPath
  pub changes : map plain_change changed ≡ changes_by_path old new
  pub names : map name_view s.names.items ≡ selected_names run changed (tests_of new)
  pub counted : s.count ≡ length (tests_of new)
