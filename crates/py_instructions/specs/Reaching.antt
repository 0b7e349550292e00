-- What calls lead to, as the definition has it.
use Rattle.std.specs.Prelude.{◌≡◌, List, Ok, Err, Some}
use Rattle.cov_event.specs.declared.event.CodeId.{CodeId}
use Rattle.py_value.specs.View.{plain, plains, plain_raised}
use Rattle.py_builtins.specs.Builtins.{builtin_of}
use Rattle.py_code.specs.Configurations.{Effects}
use Rattle.py_code.specs.Machine.{Reach, at_once, in_frame, by_done}
use Rattle.py_code.specs.Units.{Code, Module, unit_at}
use Rattle.py_instructions.specs.declared.reach.Reach.{Reach as RawReach}
use Rattle.py_instructions.specs.declared.reach.Reach.TheVariants.{Gives, Raises, Begins, Asks}

-- an answer at once, with these effects, or a frame
abbrev pub plain_reach : RawReach → Effects → Reach
plain_reach (Gives v) e = at_once (Ok (plain v)) e
plain_reach (Raises raised) e = at_once (Err (plain_raised raised)) e
plain_reach (Begins code vs) e = in_frame code (plains vs.items)
plain_reach (Asks which vs) e = by_done (builtin_of which (plains vs.items) e.world.heap e.input) e

-- a code that has a unit
abbrev pub HasUnit : List Module → CodeId → Type 0
HasUnit ms code = (u : Code) × (unit_at ms code ≡ Some u)

-- a frame is one of a unit
abbrev pub BeginsUnit : List Module → RawReach → Type 0
BeginsUnit ms (Gives v) = Unit {0}
BeginsUnit ms (Raises raised) = Unit {0}
BeginsUnit ms (Begins code vs) = HasUnit ms code
BeginsUnit ms (Asks which vs) = Unit {0}
