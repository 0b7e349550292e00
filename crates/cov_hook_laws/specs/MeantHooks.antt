-- What a hook means, where its script and the modules that this imports are trees. The texts of a
-- question, its label, the steps and when a hook is off are those of `cov_hook`.
--     MeantHook, with_world            the state of a hook
--     meant_opening, meant_opened      how it begins
--     meant_call                       the call that a question is
--     MeansAnswerOn, MeansAnswer       an answer
--     LeavesOff                        a question that is refused for memory
--     def_names, HasDef                the functions of the script
use Rattle.std.specs.Prelude.{◌≡◌, ℕ, List, [], ◌∷◌, map, Option, Some, None, IsSome, Contains}
use Rattle.py_builtins.specs.World.{World}
use Rattle.py_meaning.specs.Modules.{LoadedModule}
use Rattle.py_meaning.specs.Program.{Run, run_modules, Answer, called}
use Rattle.py_syntax.specs.Functions.{Function, functions}
use Rattle.py_syntax.specs.Tree.{Text}
use Rattle.cov_hook.specs.Questions.{texts, label_of, world_after_call}
use Rattle.cov_hook.specs.States.{most_steps, world_after_body}

-- The modules of the hook's program, the name of its function, and the world on which that function
-- is called. A hook that is off has no world.
pub record MeantHook : Type 0 where
  pub modules : List LoadedModule
  pub function : Text
  pub world : Option World

-- the hook on this world, or off
abbrev pub with_world : Option World → MeantHook → MeantHook
with_world world h = record { modules = h.modules; function = h.function; world = world }

-- what the script means with empty input, where its path is the one word in `sys.argv`
abbrev pub meant_opening : List LoadedModule → Text → Run
meant_opening ms path = run_modules ms (path ∷ []) [] most_steps

-- a hook that was opened: on the world after the body of its script, or off
abbrev pub meant_opened : List LoadedModule → Text → Text → MeantHook
meant_opened ms path function = record {
  modules = ms;
  function = function;
  world = world_after_body (meant_opening ms path).outcome (meant_opening ms path).world;
}

-- what a call of the script's global of this name with the names of a module and of a function
-- means, on a world and with empty input
abbrev pub meant_call : List LoadedModule → Text → List ℕ → List ℕ → World → Answer
meant_call ms name «module» function w =
    called ms w []
    (record { number = 0; name = name; values = texts «module» function }) most_steps

-- A hook that is off gives no label, and stays off. From a hook that is on a world, the label and
-- the state after it are those of the call.
abbrev pub MeansAnswerOn : Option World → MeantHook → List ℕ → List ℕ → Option Text → MeantHook
    → Type 0
MeansAnswerOn None old «module» function label new = (label ≡ None) × (new ≡ old)
MeansAnswerOn (Some w) old «module» function label new =
    let answer = meant_call old.modules old.function «module» function w in
    (label ≡ label_of answer.returned)
    × (new ≡ with_world (world_after_call answer.returned answer.world) old)

-- a question for the label of a call of this function of this module, the answer that it means, and
-- the state after it
abbrev pub MeansAnswer : MeantHook → List ℕ → List ℕ → Option Text → MeantHook → Type 0
MeansAnswer old «module» function label new =
    MeansAnswerOn old.world old «module» function label new

-- a question that is refused for memory: the hook was on, and is left off
abbrev pub LeavesOff : MeantHook → MeantHook → Type 0
LeavesOff old new = IsSome old.world × (new ≡ with_world None old)

-- the name of a function
abbrev pub name_of : Function → Text
name_of f = f.name

-- the names of the `def`s in the body of the script, in the order of the text (Python Language
-- Reference, 8.7, "Function definitions")
abbrev pub def_names : List LoadedModule → List Text
def_names [] = []
def_names (script ∷ others) = map name_of (functions script.body)

-- a `def` of this name stands in the body of the script
abbrev pub HasDef : List LoadedModule → Text → Type 0
HasDef ms name = Contains (def_names ms) name
