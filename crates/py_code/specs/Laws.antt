-- What holds of every code.
use Rattle.std.specs.Prelude.{◌≡◌, ℕ, ◌<◌, List, length}
use Rattle.py_builtins.specs.World.{World}
use Rattle.py_code.specs.Configurations.{Locals, Ended, gave, failed, spent, stuck}
use Rattle.py_code.specs.Programs.{Request, end_of_run, end_of_call}
use Rattle.py_code.specs.Slots.{by_names, by_slots, AreNamed}
use Rattle.py_code.specs.Units.{Module}
use Rattle.py_code.specs.Valid.{AreCodes}

-- by a value, by an exception, or for want of steps, and not by an instruction that missed
-- something
abbrev pub IsOver : Ended → Type 0
IsOver (gave v) = Unit {0}
IsOver (failed e) = Unit {0}
IsOver spent = Unit {0}
IsOver stuck = ⊥

-- No program and no call misses an operand, a slot, a unit or a place to go to, whatever keeps its
-- local names.
pub record NeverMisses (L : Type 0) : Type 0 where
  pub run : (locals : Locals L) (ms : List Module) → 0 < length ms → AreCodes ms
      → (w : World) (input : List ℕ) (budget : ℕ) → IsOver (end_of_run locals ms w input budget).how
  pub call : (locals : Locals L) (ms : List Module) → 0 < length ms → AreCodes ms
      → (w : World) (input : List ℕ) (r : Request) (budget : ℕ)
      → IsOver (end_of_call locals ms w input r budget).how

-- A machine that keeps local names by slots ends as one that keeps them by names.
pub record OneMachine : Type 0 where
  pub run : (ms : List Module) → AreNamed ms → (w : World) (input : List ℕ) (budget : ℕ)
      → end_of_run (by_slots ms) ms w input budget ≡ end_of_run (by_names ms) ms w input budget
  pub call : (ms : List Module) → AreNamed ms
      → (w : World) (input : List ℕ) (r : Request) (budget : ℕ)
      → end_of_call (by_slots ms) ms w input r budget
      ≡ end_of_call (by_names ms) ms w input r budget
