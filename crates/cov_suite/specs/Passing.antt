-- Whether tests pass, after an import that finishes.
--     has_passed                  whether a test passed
--     passes_in_code, passes      whether a test passes on a world, by code and by trees
--     all_pass_in_code, all_pass  whether the import finishes, and then each of some tests passes
use Rattle.std.specs.Prelude.{ℕ, Bool, true, false, ◌&&◌, List}
use Rattle.std.specs.List.{list_all}
use Rattle.py_builtins.specs.World.{World}
use Rattle.py_code.specs.Units.{Module}
use Rattle.py_meaning.specs.Modules.{LoadedModule}
use Rattle.py_syntax.specs.Tree.{Text}
use Rattle.cov_suite.specs.declared.results.TestEnd.{TestEnd}
use Rattle.cov_suite.specs.declared.results.TestEnd.TheVariants.{Passed, Failed, Cut}
use Rattle.cov_suite.specs.Recorded.{is_finished}
use Rattle.cov_suite.specs.Results.{import_of_code, result_of_code, import_of, result_of_tree}

-- whether a test that ended so passed
abbrev pub has_passed : TestEnd → Bool
has_passed Passed = true
has_passed (Failed kind text) = false
has_passed Cut = false

-- whether the test of a name passes on a world, by code
abbrev pub passes_in_code : List Module → World → ℕ → Text → Bool
passes_in_code ms w budget name = has_passed (result_of_code ms w budget name).0.end

-- the same by trees
abbrev pub passes : List LoadedModule → World → ℕ → Text → Bool
passes ms w budget name = has_passed (result_of_tree ms w budget name).0.end

-- whether the import finishes, and then each of these tests passes, by code
abbrev pub all_pass_in_code : List Module → ℕ → List Text → Bool
all_pass_in_code ms budget names =
    let run = import_of_code ms budget in
    is_finished run.outcome && list_all (passes_in_code ms run.world budget) names

-- the same by trees
abbrev pub all_pass : List LoadedModule → ℕ → List Text → Bool
all_pass ms budget names =
    let run = import_of ms budget in
    is_finished run.outcome && list_all (passes ms run.world budget) names
