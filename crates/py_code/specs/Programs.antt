-- What a machine does with a program, and with one call (Python Language Reference, 10.1, "Complete
-- Python programs").
--     Run, run                       a program
--     Request, Reply, called         a call of a function
use Rattle.std.specs.Prelude.{ℕ, ◌-◌, List, [], ◌∷◌, map, Result, Ok, Err}
use Rattle.cov_event.specs.declared.event.CodeId.{CodeId}
use Rattle.cov_event.specs.declared.event.Event.{Event}
use Rattle.py_value.specs.Plain.{PlainValue, str_value, list_object, PlainHeap, PlainRaised}
use Rattle.py_builtins.specs.Attributes.{or_raise}
use Rattle.py_builtins.specs.Outcomes.{Outcome, outcome_of}
use Rattle.py_builtins.specs.Outcomes as outcomes
use Rattle.py_builtins.specs.Returns.{Returned, returned_of}
use Rattle.py_builtins.specs.Returns as returns
use Rattle.py_builtins.specs.World.{World, Names, global_of}
use Rattle.py_code.specs.Configurations.{Locals, Effects, Ended, gave, failed, spent, stuck, End}
use Rattle.py_code.specs.Machine.{Reach, raises_at_once, reach, outermost, outer_call, follows}
use Rattle.py_code.specs.Units.{Module}
use Rattle.py_builtins.specs.Faults.{name_unknown}

-- How a program ends, the bytes that it wrote, those of its input that are left, the steps that it
-- took, its events, and the world at the end.
pub record Run : Type 0 where
  pub outcome : Outcome
  pub out : List ℕ
  pub input : List ℕ
  pub steps : ℕ
  pub events : List Event
  pub world : World

-- a code that misses something counts as cut; none does
abbrev pub outcome_by : PlainHeap → Ended → Outcome
outcome_by h (gave v) = outcome_of h (Ok v)
outcome_by h (failed e) = outcome_of h (Err e)
outcome_by h spent = outcomes.cut
outcome_by h stuck = outcomes.cut

-- a run within a budget, by its end
abbrev pub run_by : ℕ → End → Run
run_by budget r = record {
  outcome = outcome_by r.effects.world.heap r.how;
  out = r.effects.out;
  input = r.effects.input;
  steps = budget - r.steps;
  events = r.effects.events;
  world = r.effects.world;
}

-- no global of a module is set
abbrev pub no_names : Module → Names
no_names m = []

-- The words stand in a list. No module is begun, and no name is set.
abbrev pub first_world : List Module → List (List ℕ) → World
first_world ms words =
    record {
      globals = map no_names ms;
      begun = [];
      heap = list_object
          (map str_value words) ∷ [];
      words = 0;
    }

-- nothing is written, and nothing happened
abbrev pub at_rest : World → List ℕ → Effects
at_rest w input = record { world = w; input = input; out = []; events = [] }

-- the body of the script
abbrev pub script : CodeId
script = record { «module» = 0; unit = 0 }

-- the function that a global of a module holds, called with these values
pub record Request : Type 0 where
  pub number : ℕ
  pub name : List ℕ
  pub values : List PlainValue

-- what became of a call, its output, the input left, its steps and events, and the world after it
pub record Reply : Type 0 where
  pub returned : Returned
  pub out : List ℕ
  pub input : List ℕ
  pub steps : ℕ
  pub events : List Event
  pub world : World

-- what became of a call, by its end
abbrev pub returned_by : PlainHeap → Ended → Returned
returned_by h (gave v) = returned_of h (Ok v)
returned_by h (failed e) = returned_of h (Err e)
returned_by h spent = returns.cut
returned_by h stuck = returns.cut

-- a call within a budget, by its end
abbrev pub reply_by : ℕ → End → Reply
reply_by budget r = record {
  returned = returned_by r.effects.world.heap r.how;
  out = r.effects.out;
  input = r.effects.input;
  steps = budget - r.steps;
  events = r.effects.events;
  world = r.effects.world;
}

-- a call of what a global holds, if it is set
abbrev pub reach_global : List Module → Result PlainValue PlainRaised → List PlainValue
    → Effects → Reach
reach_global ms (Ok f) vs e = reach ms f vs e
reach_global ms (Err raised) vs e = raises_at_once raised e

module _ {L : Type 0} (locals : Locals L) (ms : List Module) where
  -- what the script does on a world with this input, within a budget
  unfoldable pub end_of_run : World → (input : List ℕ) → (budget : ℕ) → End
  end_of_run w input budget =
      follows locals ms (outermost locals ms script [] budget (at_rest w input))

  -- a run of the script on a world, with an input and a budget of steps
  unfoldable pub run : World → (input : List ℕ) → (budget : ℕ) → Run
  run w input budget = run_by budget (end_of_run w input budget)

  -- what a call does on a world with this input, within a budget
  unfoldable pub end_of_call : World → (input : List ℕ) → Request → (budget : ℕ) → End
  end_of_call w input r budget =
      let first = at_rest w input in
      follows locals ms
      (outer_call locals ms
      (reach_global ms
      (or_raise (name_unknown r.name)
      (global_of r.number r.name w)) r.values first) budget first)

  -- a call on a world, with an input and a budget of steps
  unfoldable pub called : World → (input : List ℕ) → Request → (budget : ℕ) → Reply
  called w input r budget = reply_by budget (end_of_call w input r budget)
