-- What a prediction promises of every run: each arc of each activation is possible in its module,
-- and each that isn't predicted was thrown, at each of its places. (coverage.py documentation,
-- "Branch coverage measurement"; the promise is this project's own)
--     IsProper                             what is asked of a module
--     IsForeseen, AreForeseen              arcs that are as promised
--     ProgramSoundness, ModulesSoundness   those of a program, and of a list of modules
--     CallSoundness                        those of one call
use Rattle.std.specs.Prelude.{ℕ, ◌<◌, List, IsTrue, All, Contains, ◌⊎◌}
use Rattle.py_syntax.specs.Marks.{statement_lines}
use Rattle.py_syntax.specs.Prediction.{predicted, possible}
use Rattle.py_syntax.specs.Tree.{Text, Stmts}
use Rattle.py_scope.specs.Faults.{IsWellFormed}
use Rattle.py_builtins.specs.World.{World}
use Rattle.py_meaning.specs.Activations.{Items}
use Rattle.py_meaning.specs.Crossings.{Crossing, ends, crossings}
use Rattle.py_meaning.specs.Loading.{Program, loaded}
use Rattle.py_meaning.specs.Modules.{LoadedModule, body_of}
use Rattle.py_meaning.specs.Program.{run_modules, meaning, Request, called}

-- a module without a fault of scope, whose lines are from 1 on, as those of every text are
pub record IsProper (m : LoadedModule) : Type 0 where
  pub well_formed : IsWellFormed m.body
  pub numbered : All (λ l. 0 < l) (statement_lines m.body)

-- an arc at one place: possible, and predicted or thrown there
abbrev pub IsForeseen : Stmts → Crossing → Type 0
IsForeseen body c =
    Contains (possible body) (ends c) × (Contains (predicted body) (ends c) ⊎ IsTrue c.thrown)

-- all arcs of all activations among these items, those that enter and leave a body included
abbrev pub AreForeseen : List LoadedModule → Items → Type 0
AreForeseen ms items = (m : ℕ) → All (IsForeseen (body_of ms m)) (crossings ms m items)

-- Within any budget: of a program,
abbrev pub ProgramSoundness : Type 0
ProgramSoundness =
    (program : Program) → All IsProper (loaded program)
    → (words : List Text) (input : List ℕ) (budget : ℕ) →
    AreForeseen (loaded program) (meaning program words input budget).items

-- of a list of modules, whatever they were loaded from,
abbrev pub ModulesSoundness : Type 0
ModulesSoundness =
    (ms : List LoadedModule) → All IsProper ms → (words : List Text) (input : List ℕ) (budget : ℕ) →
    AreForeseen ms (run_modules ms words input budget).items

-- and of one call, on any world.
abbrev pub CallSoundness : Type 0
CallSoundness =
    (ms : List LoadedModule) → All IsProper ms
    → (w : World) (input : List ℕ) (r : Request) (budget : ℕ) →
    AreForeseen ms (called ms w input r budget).items
