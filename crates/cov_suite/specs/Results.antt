-- What the import of a script comes to, and what each of its tests comes to. A test is called
-- without arguments on the world that the import leaves, so no test changes another's result.
--     words                               `sys.argv`
--     TestView, end_of, result_of         the result of a test
--     Suite                               an import and its tests, with what happened in each
--     import_of_code, test_of_code, result_of_code, suite_of_code    by code
--     import_of, test_of, result_of_tree, suite_of                   by trees
use Rattle.std.specs.Prelude.{ℕ, List, [], ◌∷◌, map, codes}
use Rattle.cov_event.specs.declared.event.Event.{Event}
use Rattle.py_builtins.specs.Outcomes.{Outcome}
use Rattle.py_builtins.specs.Returns.{Returned, gave, raised, cut}
use Rattle.py_builtins.specs.World.{World}
use Rattle.py_code.specs.Programs as machine
use Rattle.py_code.specs.Slots.{by_slots}
use Rattle.py_code.specs.Units.{Module}
use Rattle.py_machine.specs.Runs.{request}
use Rattle.py_meaning.specs.Activations.{Items}
use Rattle.py_meaning.specs.Modules.{LoadedModule}
use Rattle.py_meaning.specs.Program as meant
use Rattle.py_syntax.specs.Tree.{Text}
use Rattle.cov_suite.specs.declared.results.TestEnd.{TestEnd}
use Rattle.cov_suite.specs.declared.results.TestEnd.TheVariants.{Passed, Failed, Cut}
use Rattle.cov_suite.specs.Tests.{tests_of_code, tests_of}

-- the list of words is that of the one text `__tests__`
abbrev pub words : List Text
words = codes "__tests__" ∷ []

-- the result of a test: its name, how it ended, the bytes that it wrote and the steps that it took
pub record TestView : Type 0 where
  pub name : Text
  pub end : TestEnd
  pub output : List ℕ
  pub steps : ℕ

-- a test passed where its call gave a value, and failed where it raised
abbrev pub end_of : Returned → TestEnd
end_of (gave v) = Passed
end_of (raised kind text) = Failed kind text
end_of cut = Cut

-- the result of a test of this name, by what its call gave, wrote and took
abbrev pub result_of : Text → Returned → List ℕ → ℕ → TestView
result_of name returned out steps =
    record { name = name; end = end_of returned; output = out; steps = steps }

-- How an import ended, what happened in it, and each test with its result and what happened in it.
pub record Suite (E : Type 0) : Type 0 where
  pub outcome : Outcome
  pub at_import : E
  pub tests : List (TestView × E)

-- ---- by code

-- the body of the script is run on a new world, with empty input
abbrev pub import_of_code : List Module → ℕ → machine.Run
import_of_code ms budget =
    machine.run (by_slots ms) ms (machine.first_world ms words) [] budget

-- a test is called on a world without arguments, with empty input and the whole budget
abbrev pub test_of_code : List Module → World → ℕ → Text → machine.Reply
test_of_code ms w budget name =
    machine.called (by_slots ms) ms w [] (request 0 name []) budget

-- its result, and its events
abbrev pub result_of_code : List Module → World → ℕ → Text → TestView × List Event
result_of_code ms w budget name =
    let reply = test_of_code ms w budget name in
    (result_of name reply.returned reply.out reply.steps, reply.events)

-- the import, and all tests on the world after it
abbrev pub suite_of_code : List Module → ℕ → Suite (List Event)
suite_of_code ms budget =
    let run = import_of_code ms budget in
    record {
      outcome = run.outcome;
      at_import = run.events;
      tests = map (result_of_code ms run.world budget) (tests_of_code ms);
    }

-- ---- by trees

-- what the script means, with empty input
abbrev pub import_of : List LoadedModule → ℕ → meant.Run
import_of ms budget = meant.run_modules ms words [] budget

-- what the call of a test on a world means
abbrev pub test_of : List LoadedModule → World → ℕ → Text → meant.Answer
test_of ms w budget name =
    meant.called ms w [] (record { number = 0; name = name; values = [] }) budget

-- its result, and what happened in it
abbrev pub result_of_tree : List LoadedModule → World → ℕ → Text → TestView × Items
result_of_tree ms w budget name =
    let answer = test_of ms w budget name in
    (result_of name answer.returned answer.out answer.steps, answer.items)

-- the import, and all tests on the world after it
abbrev pub suite_of : List LoadedModule → ℕ → Suite Items
suite_of ms budget =
    let run = import_of ms budget in
    record {
      outcome = run.outcome;
      at_import = run.items;
      tests = map (result_of_tree ms run.world budget) (tests_of ms);
    }
