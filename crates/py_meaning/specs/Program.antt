-- What a program does within a budget of steps, and what one call does (Python Language Reference,
-- 10.1, "Complete Python programs").
--     Run, run_modules, meaning       a program
--     Request, Answer, called         a call of a function
use Rattle.std.specs.Prelude.{ℕ, suc, ◌-◌, List, [], ◌∷◌, map}
use Rattle.py_value.specs.Plain.{PlainValue, str_value, list_object}
use Rattle.py_syntax.specs.Tree.{Text}
use Rattle.py_builtins.specs.World.{World, Names, global_of}
use Rattle.py_meaning.specs.Activations.{Items, no_items}
use Rattle.py_builtins.specs.Attributes.{or_raise}
use Rattle.py_meaning.specs.Calls.{call_value, enter}
use Rattle.py_meaning.specs.Computations.{Setting, State, Res, done, cut, Ans, M, value, ask}
use Rattle.py_meaning.specs.Frames.{calls}
use Rattle.py_meaning.specs.Loading.{Program, loaded}
use Rattle.py_meaning.specs.Modules.{LoadedModule}
use Rattle.py_builtins.specs.Outcomes.{Outcome, outcome_of}
use Rattle.py_builtins.specs.Outcomes as outcomes
use Rattle.py_builtins.specs.Returns.{Returned, returned_of}
use Rattle.py_builtins.specs.Returns as returns
use Rattle.py_builtins.specs.Faults.{name_unknown}

-- What a program does: how it ends, the bytes that it wrote, those of its input that are left, the
-- steps that it took, what happened, and the world at the end.
pub record Run : Type 0 where
  pub outcome : Outcome
  pub out : List ℕ
  pub input : List ℕ
  pub steps : ℕ
  pub items : Items
  pub world : World

-- a run by its parts
abbrev pub run_with : Outcome → State → ℕ → Run
run_with o s steps = record {
  outcome = o;
  out = s.out;
  input = s.now.input;
  steps = steps;
  items = s.items;
  world = s.now.world;
}

-- the run that a result of a budget makes
abbrev pub run_of : ℕ → Res (Ans PlainValue) → Run
run_of budget (done a s left) = run_with (outcome_of s.now.world.heap a) s (budget - left)
run_of budget (cut s) = run_with outcomes.cut s budget

-- ---- the first state

-- a module with no name set
abbrev pub no_names : LoadedModule → Names
no_names m = []

-- The words stand in a list. No module is begun, and no name is set.
abbrev pub first_world : List LoadedModule → List Text → World
first_world ms words = record {
  globals = map no_names ms;
  begun = [];
  heap = list_object (map str_value words) ∷ [];
  words = 0;
}

-- no frame and no item yet
abbrev pub at_rest : World → List ℕ → State
at_rest w input = record {
  now = record { world = w; locals = []; frames = 0; input = input };
  out = [];
  items = no_items;
}

-- the body of the script, entered as that of any module
abbrev pub script_body : List LoadedModule → ℕ → M (Ans PlainValue)
script_body ms budget = enter (calls ms (suc budget) 0 0 [])

-- What modules do with these words and this input, within a budget. The first of them is the
-- script.
unfoldable pub run_modules : List LoadedModule → List Text → (input : List ℕ) → (budget : ℕ) → Run
run_modules ms words input budget =
    run_of budget (script_body ms budget (at_rest (first_world ms words) input) budget)

-- What a program does: its files are loaded, and run.
unfoldable pub meaning : Program → List Text → (input : List ℕ) → (budget : ℕ) → Run
meaning program words input budget = run_modules (loaded program) words input budget

-- ---- one call

-- the function that a global of a module holds, called with these values
pub record Request : Type 0 where
  pub number : ℕ
  pub name : Text
  pub values : List PlainValue

-- what a call does
pub record Answer : Type 0 where
  pub returned : Returned
  pub out : List ℕ
  pub input : List ℕ
  pub steps : ℕ
  pub items : Items
  pub world : World

-- an answer by its parts
abbrev pub answer_with : Returned → State → ℕ → Answer
answer_with r s steps = record {
  returned = r;
  out = s.out;
  input = s.now.input;
  steps = steps;
  items = s.items;
  world = s.now.world;
}

-- the answer that a result of a budget makes
abbrev pub answer_in : ℕ → Res (Ans PlainValue) → Answer
answer_in budget (done a s left) = answer_with (returned_of s.now.world.heap a) s (budget - left)
answer_in budget (cut s) = answer_with returns.cut s budget

-- the value of a name of a module
abbrev pub global_named : ℕ → Text → Setting → Ans PlainValue
global_named m x w = or_raise (name_unknown x) (global_of m x w.world)

-- a name of a module is called
abbrev pub call_global : List LoadedModule → Request → ℕ → M (Ans PlainValue)
call_global ms r budget =
    value (ask (global_named r.number r.name)) (λ f.
    call_value (calls ms (suc budget)) ms f r.values)

-- What a call does on a given world with this input, within a budget.
unfoldable pub called : List LoadedModule → World → (input : List ℕ) → Request → (budget : ℕ)
    → Answer
called ms w input r budget = answer_in budget (call_global ms r budget (at_rest w input) budget)
