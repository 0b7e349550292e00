-- Which tests of a new version must run again, by what the modules mean.
--     test_of         the test of a name, as a suite calls it
--     AnyReached      a line that a test, or the import in front of it, reached
--     MustRun         a test that must run again
--     AreThose        those of a list of which something holds
--     IsChosen        the tests that must run again, and what of the others holds
use Rattle.std.specs.Prelude.{◌≡◌, ◌⊎◌, ℕ, true, List, [], ◌∷◌, length, Contains}
use Rattle.py_builtins.specs.Outcomes.{finished}
use Rattle.py_changes.specs.Paths.{path_of, HasReached}
use Rattle.py_changes.specs.Tests.{Test, imported, tested, is_changed, was_cut}
use Rattle.py_meaning.specs.Modules.{LoadedModule}
use Rattle.py_syntax.specs.Tree.{Text}
use Rattle.cov_suite.specs.Results.{words, import_of}
use Rattle.cov_suite.specs.Tests.{tests_of}

-- the test of a name, as a suite calls it: within the budget that the import has too
abbrev pub test_of : ℕ → Text → Test
test_of budget name =
    record { words = words; import_budget = budget; name = name; budget = budget }

-- a test, or the import in front of it, reached this line of a module of this path
abbrev pub AnyReached : List LoadedModule → Test → Text → ℕ → Type 0
AnyReached ms t path l =
    HasReached ms (imported ms t).items path l ⊎ HasReached ms (tested ms t).items path l

-- A test must run again that is no test of the old modules, that was cut there, or that reached a
-- changed line of them.
abbrev pub MustRun : ℕ → List LoadedModule → List LoadedModule → Text → Type 0
MustRun budget old new name =
    (Contains (tests_of old) name → ⊥)
    ⊎ ((was_cut (tested old (test_of budget name)).returned ≡ true)
    ⊎ ((m : ℕ) × (l : ℕ) × (is_changed old new m l ≡ true)
    × AnyReached old (test_of budget name) (path_of old m) l))

-- these are those of a list of which something holds, in order
pub data AreThose {A : Type 0} (Holds : A → Type 0) : List A → List A → Type 0 where
  none : AreThose Holds [] []
  this : (x : A) (xs ys : List A) → Holds x → AreThose Holds xs ys
      → AreThose Holds (x ∷ xs) (x ∷ ys)
  other : (x : A) (xs ys : List A) → (Holds x → ⊥) → AreThose Holds xs ys
      → AreThose Holds (x ∷ xs) ys

-- The old import finished. These are the tests of the new modules that must run again, and so many
-- it has in all. Each other one has under the new modules the result that it had: its value or
-- exception, its output, its steps, what happened, and the world after it.
pub record IsChosen (budget : ℕ) (old new : List LoadedModule) (names : List Text) (count : ℕ)
    : Type 0 where
  pub imports : (import_of old budget).outcome ≡ finished
  pub chosen : AreThose (MustRun budget old new) (tests_of new) names
  pub counted : count ≡ length (tests_of new)
  pub others : (name : Text) → Contains (tests_of new) name
      → (MustRun budget old new name → ⊥)
      → tested new (test_of budget name) ≡ tested old (test_of budget name)
