-- The tests of a new version that must run again.
--     ByPath, is_changed       changed lines, under the paths of modules
--     was_cut, has_reached     what makes a test run again
--     is_selected              whether the test of a name must run again
--     has_line, has_name       what sets of lines and of names have
use Rattle.std.specs.Prelude.{ℕ, nat_eq, Bool, true, false, not, ◌&&◌, ◌||◌, List, String, Vec, bytes_eq, string_bytes}
use Rattle.std.specs.Borrow.{Bor}
use Rattle.std.specs.Global.{Global}
use Rattle.std.specs.HashSet.{HashSet, contains_by}
use Rattle.std.specs.List.{list_all, list_any}
use Rattle.cov_suite.specs.declared.results.TestEnd.{TestEnd}
use Rattle.cov_suite.specs.declared.results.TestEnd.TheVariants.{Passed, Failed, Cut}
use Rattle.cov_suite.specs.declared.results.TestResult.{TestResult}
use Rattle.cov_suite.specs.Rows.{Line}
use Rattle.cov_suite.specs.Views.{reached_lines}

-- changed lines, under the paths of modules
abbrev pub ByPath : Type 0
ByPath = List (String Global × Vec ℕ Global)

-- whether a line of a path is changed
abbrev pub is_changed : ByPath → Line → Bool
is_changed changed line =
    list_any (λ c. bytes_eq line.0 (string_bytes c.0) && list_any (nat_eq line.1) c.1.items) changed

-- whether a test was cut
abbrev pub was_cut : TestEnd → Bool
was_cut Passed = false
was_cut (Failed kind text) = false
was_cut Cut = true

-- whether a test, or the import in front of it, reached one of some lines
abbrev pub has_reached : (Line → Bool) → TestResult → Bool
has_reached which t = list_any which (reached_lines t)

-- Whether the test of a name must run again: no test of the old version has this name, or that one
-- was cut, or it reached one of some lines, as the changed ones. The tests of a suite have names
-- that differ.
abbrev pub is_selected : List TestResult → (Line → Bool) → List ℕ → Bool
is_selected tests which name = list_all
    (λ t. not (bytes_eq name (string_bytes t.name)) || (was_cut t.end || has_reached which t)) tests

-- whether a set has a line
abbrev pub has_line : {S : Type 0} → HashSet (Bor (List ℕ) × ℕ) S → Line → Bool
has_line set line = contains_by (λ k. bytes_eq line.0 k.0.now && nat_eq line.1 k.1) set

-- whether a set has a name
abbrev pub has_name : {S : Type 0} → HashSet (Bor (List ℕ)) S → List ℕ → Bool
has_name set name = contains_by (λ k. bytes_eq name k.now) set
