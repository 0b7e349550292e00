-- What a test that need not run again does under the new modules.
--     HoldChanges         changed lines of old modules, under their paths
--     UnselectedInSuite   it has the result that it had under the old modules
use Rattle.std.specs.Prelude.{◌≡◌, ℕ, ◌<◌, Bool, true, false, List, All, Ok, encode_utf8_all}
use Rattle.std.specs.Str.{chars}
use Rattle.cov_contexts.specs.declared.plugins.Plugin.{Ghosts as PluginOf}
use Rattle.cov_data.specs.DataSet.{Text as Bytes}
use Rattle.cov_suite.specs.declared.results.SuiteRun.{SuiteRun}
use Rattle.cov_suite.specs.Meant.{SuiteOf}
use Rattle.cov_suite.specs.Views.{plain_answer}
use Rattle.cov_verdicts.specs.Chosen.{test_of}
use Rattle.py_changes.specs.Paths.{path_of}
use Rattle.py_changes.specs.Regular.{IsRegular}
use Rattle.py_changes.specs.Tests.{tested}
use Rattle.py_changes.specs.Tests as changes
use Rattle.py_meaning.specs.Modules.{LoadedModule, body_of}
use Rattle.py_syntax.specs.Marks.{statement_lines}
use Rattle.cov_select.specs.Selected.{ByPath, is_changed, is_selected}

-- each changed line of an old module is among those of its path, which is in UTF-8
abbrev pub HoldChanges : List LoadedModule → List LoadedModule → ByPath → Type 0
HoldChanges old new changed =
    (m l : ℕ) → changes.is_changed old new m l ≡ true
    → is_changed changed (encode_utf8_all (path_of old m), l) ≡ true

-- The suite of old modules was run, whatever its data are of, and a name isn't selected by their
-- changed lines. Then the test of this name has the same result under the new modules, called after
-- their import: the value or exception, the output, the steps, what happened, and the world. The
-- old modules are as texts spell them.
abbrev pub UnselectedInSuite : {P : Type 0} → PluginOf P → Type 0
UnselectedInSuite {P} plugin =
    (old new : List LoadedModule) (arcs : Bool) (fixed : Bytes) (budget : ℕ) (before after : List P)
    (run : SuiteRun) (changed : ByPath) (name : Bytes)
    → IsRegular old → ((m : ℕ) → All (λ l. 0 < l) (statement_lines (body_of old m)))
    → SuiteOf plugin old arcs fixed budget before (plain_answer (Ok run)) after
    → HoldChanges old new changed
    → is_selected run.tests.items (is_changed changed) name ≡ false
    → tested new (test_of budget (chars name)) ≡ tested old (test_of budget (chars name))
