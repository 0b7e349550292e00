-- Worlds fit programs at first, and runs and calls keep it so.
--     values_given                       what a call gives
--     FirstFits, RunsKeep, CallsKeep     the laws
--     FewerFit                           fewer values fit
use Rattle.std.specs.Prelude.{ℕ, List, [], ◌∷◌, ◌++◌}
use Rattle.py_value.specs.Plain.{PlainValue}
use Rattle.py_builtins.specs.Returns.{Returned, gave, raised, cut}
use Rattle.py_builtins.specs.World.{World}
use Rattle.py_code.specs.Programs.{first_world, Request, run, called}
use Rattle.py_code.specs.Slots.{by_slots}
use Rattle.py_code.specs.Units.{Module}
use Rattle.py_code.specs.Valid.{AreCodes}
use Rattle.py_world_laws.specs.Fits.{Fits}
use Rattle.py_world_laws.specs.Making.{AreMakers}

-- the value that a call gave, if it gave one
abbrev pub values_given : Returned → List PlainValue
values_given (gave v) = v ∷ []
values_given (raised kind text) = []
values_given cut = []

-- The world with which a program begins fits it, with any words.
abbrev pub FirstFits : Type 0
FirstFits = (ms : List Module) (words : List (List ℕ)) → Fits ms (first_world ms words) []

-- A run leaves a world that fits, where it began with one: with any input, and within any budget.
abbrev pub RunsKeep : Type 0
RunsKeep =
    (ms : List Module) → AreCodes ms → AreMakers ms → (w : World) → Fits ms w []
    → (input : List ℕ) (budget : ℕ) → Fits ms (run (by_slots ms) ms w input budget).world []

-- So does a call, where its values fit with the world. What it gives fits with the world that it
-- leaves.
abbrev pub CallsKeep : Type 0
CallsKeep =
    (ms : List Module) → AreCodes ms → AreMakers ms → (w : World) (r : Request)
    → Fits ms w r.values → (input : List ℕ) (budget : ℕ)
    → Fits ms (called (by_slots ms) ms w input r budget).world
    (values_given (called (by_slots ms) ms w input r budget).returned)

-- Where a world fits with some values, it fits with the first of them alone, and with none.
abbrev pub FewerFit : Type 0
FewerFit =
    (ms : List Module) (w : World) (some others : List PlainValue) → Fits ms w (some ++ others)
    → Fits ms w some
