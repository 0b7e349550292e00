-- The results of tests: what importing the modules does, and then one call on the world that the
-- import left.
--     Test, imported, tested        a test, the import in front of it, and its result
--     reaches, reaches_item         whether what happened reached a line of some kind
--     is_changed                    the changed lines as such a kind
--     was_cut, has_passed           how a test ended
--     is_selected                   whether a test of the old modules must run again
use Rattle.std.specs.Prelude.{ℕ, Bool, true, false, ◌||◌, List, []}
use Rattle.py_syntax.specs.Tree.{Text}
use Rattle.py_builtins.specs.Returns.{Returned, gave, raised, cut}
use Rattle.py_meaning.specs.Activations.{Item, mark, again, throw, sub, Activation, activation, Items, no_items, more}
use Rattle.py_meaning.specs.Modules.{LoadedModule}
use Rattle.py_meaning.specs.Program.{Run, run_modules, Request, Answer, called}
use Rattle.py_changes.specs.Changes.{changed_lines, is_one_of}

-- a test by the name of its function, with the words of the program and the budgets of the import
-- and of the call
pub record Test : Type 0 where
  pub words : List Text
  pub import_budget : ℕ
  pub name : Text
  pub budget : ℕ

-- the import of the modules, with no input
abbrev pub imported : List LoadedModule → Test → Run
imported ms t = run_modules ms t.words [] t.import_budget

-- the function of the script that is called, without values
abbrev pub request_of : Test → Request
request_of t = record { number = 0; name = t.name; values = [] }

-- the result of a test: the call on the world that the import left, with no input
abbrev pub tested : List LoadedModule → Test → Answer
tested ms t = called ms (imported ms t).world [] (request_of t) t.budget

-- ---- what was reached. `which` says of which modules, by their numbers, which lines

abbrev mutual
  -- in an activation of the module with a number, and in all that were entered in it
  pub reaches : (ℕ → ℕ → Bool) → ℕ → Items → Bool
  reaches which m no_items = false
  reaches which m (more before i) = reaches_item which m i || reaches which m before

  -- by one item
  pub reaches_item : (ℕ → ℕ → Bool) → ℕ → Item → Bool
  reaches_item which m (mark l) = which m l
  reaches_item which m (again l) = which m l
  reaches_item which m (throw kind) = false
  reaches_item which m (sub a) = reaches_in which a

  -- in an activation of its own module
  pub reaches_in : (ℕ → ℕ → Bool) → Activation → Bool
  reaches_in which (activation code items ended) = reaches which code.module items

-- the changed lines of the old modules
abbrev pub is_changed : List LoadedModule → List LoadedModule → ℕ → ℕ → Bool
is_changed old new m l = is_one_of l (changed_lines old new m)

-- ---- tests of the old modules

-- whether a call was cut
abbrev pub was_cut : Returned → Bool
was_cut cut = true
was_cut r = false

-- whether a test passed: its call gave a value
abbrev pub has_passed : Returned → Bool
has_passed (gave v) = true
has_passed (raised kind text) = false
has_passed cut = false

-- whether a test was cut, or it or the import reached a changed line
abbrev pub is_selected : List LoadedModule → List LoadedModule → Test → Bool
is_selected old new t =
    was_cut (tested old t).returned
    || (reaches (is_changed old new) 0 (imported old t).items
    || reaches (is_changed old new) 0 (tested old t).items)
