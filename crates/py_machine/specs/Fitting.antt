-- Runs and calls keep it so that a world fits its programs, where code makes functions as its units
-- ask.
--     RunFits, CallFits      a run, and a call
--     NewStoreFits           the store of programs before they run
use Rattle.std.specs.Prelude.{◌≡◌, ℕ, List, []}
use Rattle.py_value.specs.Plain.{PlainValue}
use Rattle.py_builtins.specs.World.{World}
use Rattle.py_code.specs.Programs.{first_world}
use Rattle.py_code.specs.Units.{Module}
use Rattle.py_world_laws.specs.Fits.{Fits}
use Rattle.py_world_laws.specs.Laws.{values_given}
use Rattle.py_world_laws.specs.Making.{AreMakers}
use Rattle.py_machine.specs.declared.outcome.Called.{Called}
use Rattle.py_machine.specs.Outcomes.{plain_called}
use Rattle.py_world.specs.declared.store.Store.{Store}
use Rattle.py_world.specs.Stores.{world_of}

-- a world that fits is left as one that fits
abbrev pub RunFits : List Module → World → World → Type 0
RunFits ms before after = AreMakers ms → Fits ms before [] → Fits ms after []

-- where the values of a call fit with the world, what it gives fits with the world that it leaves
abbrev pub CallFits : List Module → World → List PlainValue → Called → World → Type 0
CallFits ms before values called after =
    AreMakers ms → Fits ms before values → Fits ms after (values_given (plain_called called))

-- a store whose world is the first one fits, with any words
abbrev pub NewStoreFits : Type 0
NewStoreFits =
    (ms : List Module) (words : List (List ℕ)) (s : Store) → world_of s ≡ first_world ms words
    → Fits ms (world_of s) []
