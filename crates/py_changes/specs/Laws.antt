-- What no change alters: the same import, the same result of a test, and tests that still pass. Old
-- and new modules run with the same words, no input and the same budgets.
--     UnchangedImport, UnchangedTest      what reached no changed line
--     UnselectedTest                      what isn't selected
--     UnreachedChange                     a change of lines that nothing reached
use Rattle.std.specs.Prelude.{◌≡◌, ◌≢◌, true, false, List}
use Rattle.py_builtins.specs.Outcomes.{finished}
use Rattle.py_builtins.specs.Outcomes as outcomes
use Rattle.py_builtins.specs.Returns as returns
use Rattle.py_meaning.specs.Modules.{LoadedModule}
use Rattle.py_changes.specs.Tests.{Test, imported, tested, reaches, is_changed, has_passed, is_selected}
use Rattle.py_changes.specs.Regular.{IsRegular}

-- An import that wasn't cut and reached no changed line does the same under the new modules.
abbrev pub UnchangedImport : Type 0
UnchangedImport =
    (old new : List LoadedModule) (t : Test) → IsRegular old
    → (imported old t).outcome ≢ outcomes.cut
    → reaches (is_changed old new) 0 (imported old t).items ≡ false
    → imported new t ≡ imported old t

-- A test has the same result, where neither it nor the import was cut or reached a changed line:
-- the value or exception, the output, the input left, the steps, what happened, and the world.
abbrev pub UnchangedTest : Type 0
UnchangedTest =
    (old new : List LoadedModule) (t : Test) → IsRegular old
    → (imported old t).outcome ≢ outcomes.cut
    → reaches (is_changed old new) 0 (imported old t).items ≡ false
    → (tested old t).returned ≢ returns.cut
    → reaches (is_changed old new) 0 (tested old t).items ≡ false
    → tested new t ≡ tested old t

-- A test that isn't selected has the same result, where the import wasn't cut.
abbrev pub UnselectedTest : Type 0
UnselectedTest =
    (old new : List LoadedModule) (t : Test) → IsRegular old
    → (imported old t).outcome ≢ outcomes.cut → is_selected old new t ≡ false
    → tested new t ≡ tested old t

-- Of a change of lines that neither the import nor a test reached: the import finishes as it did,
-- and the test passes where it passed.
abbrev pub UnreachedChange : Type 0
UnreachedChange =
    (old new : List LoadedModule) (t : Test) → IsRegular old
    → (imported old t).outcome ≡ finished
    → reaches (is_changed old new) 0 (imported old t).items ≡ false
    → reaches (is_changed old new) 0 (tested old t).items ≡ false
    → ((imported new t).outcome ≡ finished)
    × (has_passed (tested old t).returned ≡ true → has_passed (tested new t).returned ≡ true)
