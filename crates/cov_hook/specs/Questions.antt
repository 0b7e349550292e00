-- What a hook answers, and what becomes of it.
--     texts, asking              the call that a question is
--     label_in, label_of         the label that it gives
--     world_after_call           the world that it leaves
--     AnswersOn, Answers         an answer
--     GivesUp                    a question that is refused for memory
use Rattle.std.specs.Prelude.{◌≡◌, ℕ, List, [], ◌∷◌, Option, Some, None, IsSome}
use Rattle.std.specs.Str.{chars}
use Rattle.py_value.specs.Plain.{PlainValue, none_value, bool_value, int_value, str_value, tuple_value, list_at, dict_at, func_value, module_value, kind_value, exc_value, builtin_value}
use Rattle.py_builtins.specs.Returns.{Returned, gave, raised, cut}
use Rattle.py_builtins.specs.World.{World}
use Rattle.py_code.specs.Programs.{Reply, called}
use Rattle.py_code.specs.Slots.{by_slots}
use Rattle.py_code.specs.Units.{Module}
use Rattle.py_machine.specs.Runs.{request}
use Rattle.cov_hook.specs.States.{HookState, with_world, off, most_steps}

-- two names, given in UTF-8, as texts of the language
abbrev pub texts : List ℕ → List ℕ → List PlainValue
texts x y = str_value (chars x) ∷ str_value (chars y) ∷ []

-- the script's function of this name is called with the names of a module and of a function, on a
-- world and with empty input
abbrev pub asking : List Module → List ℕ → List ℕ → List ℕ → World → Reply
asking ms name «module» function w =
    called (by_slots ms) ms w [] (request 0 name (texts «module» function)) most_steps

-- a text is a label, and no other value is one
abbrev pub label_in : PlainValue → Option (List ℕ)
label_in none_value = None
label_in (bool_value b) = None
label_in (int_value n) = None
label_in (str_value x) = Some x
label_in (tuple_value vs) = None
label_in (list_at a) = None
label_in (dict_at a) = None
label_in (func_value f a) = None
label_in (module_value m) = None
label_in (kind_value kind) = None
label_in (exc_value kind arg) = None
label_in (builtin_value which) = None

-- a call that gives a text gives a label
abbrev pub label_of : Returned → Option (List ℕ)
label_of (gave v) = label_in v
label_of (raised kind text) = None
label_of cut = None

-- a call that gives a value leaves its world; one that raised or was cut leaves none
abbrev pub world_after_call : Returned → World → Option World
world_after_call (gave v) w = Some w
world_after_call (raised kind text) w = None
world_after_call cut w = None

-- A hook that is off gives no label, and stays off. From a hook that is on a world, the label and
-- the state after it are those of the call.
abbrev pub AnswersOn : Option World → HookState → List ℕ → List ℕ → Option (List ℕ) → HookState
    → Type 0
AnswersOn None old «module» function label new = (label ≡ None) × (new ≡ old)
AnswersOn (Some w) old «module» function label new =
    let reply = asking old.modules old.function «module» function w in
    (label ≡ label_of reply.returned)
    × (new ≡ with_world (world_after_call reply.returned reply.world) old)

-- a question for the label of a call of this function of this module, its answer, and the state
-- after it
abbrev pub Answers : HookState → List ℕ → List ℕ → Option (List ℕ) → HookState → Type 0
Answers old «module» function label new = AnswersOn old.world old «module» function label new

-- a question that is refused for memory: the hook was on, and is left off
abbrev pub GivesUp : HookState → HookState → Type 0
GivesUp old new = IsSome old.world × (new ≡ off old)
