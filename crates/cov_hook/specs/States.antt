-- The state of a hook, and how it begins.
use Rattle.std.specs.Prelude.{ℕ, List, [], ◌∷◌, Option, Some, None}
use Rattle.py_builtins.specs.Outcomes.{Outcome, finished, exited, raised, cut}
use Rattle.py_builtins.specs.World.{World}
use Rattle.py_code.specs.Programs.{Run, run, first_world}
use Rattle.py_code.specs.Slots.{by_slots}
use Rattle.py_code.specs.Units.{Module}

-- The modules of the hook's program, the name of its function, and the world on which that function
-- is called. A hook that is off has no world.
pub record HookState : Type 0 where
  pub modules : List Module
  pub function : List ℕ
  pub world : Option World

-- the hook on this world, or off
abbrev pub with_world : Option World → HookState → HookState
with_world world h = record { modules = h.modules; function = h.function; world = world }

-- the hook off
abbrev pub off : HookState → HookState
off h = with_world None h

-- the steps of the body of the script, and of each call
abbrev pub most_steps : ℕ
most_steps = 10000

-- the body of the script runs with empty input, and its path is the one word in `sys.argv`
abbrev pub opening : List Module → List ℕ → Run
opening ms path = run (by_slots ms) ms (first_world ms (path ∷ [])) [] most_steps

-- a body that ended leaves its world; one that raised, exited or was cut leaves none
abbrev pub world_after_body : Outcome → World → Option World
world_after_body finished w = Some w
world_after_body (exited status text) w = None
world_after_body (raised kind text) w = None
world_after_body cut w = None

-- a hook that was opened: on the world after the body of its script, or off
abbrev pub opened : List Module → List ℕ → List ℕ → HookState
opened ms path function = record {
  modules = ms;
  function = function;
  world = world_after_body (opening ms path).outcome (opening ms path).world;
}
