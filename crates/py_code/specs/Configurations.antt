-- What a machine holds as it runs.
--     Way                    how a suite is left
--     Operand                what stands on the operands of a frame
--     Locals                 how local names are kept
--     Frame, Effects         a frame, and what the program has changed
--     Configuration          all of it
--     Ended, End             how it stops
use Rattle.std.specs.Prelude.{ℕ, Bool, List, Option}
use Rattle.cov_event.specs.declared.event.CodeId.{CodeId}
use Rattle.cov_event.specs.declared.event.Event.{Event}
use Rattle.py_value.specs.declared.builtin.Method.{Method}
use Rattle.py_value.specs.Plain.{PlainValue, PlainRaised}
use Rattle.py_builtins.specs.World.{World}
use Rattle.py_code.specs.Run.{Move}

-- the way in which a suite is left; of an exception it is told whether it was thrown there
pub data Way : Type 0 where
  on : Way
  by_break : Way
  by_continue : Way
  by_return : (v : PlainValue) → Way
  by_raise : (e : PlainRaised) (is_thrown : Bool) → Way

-- A value; a method with the value that it is called on; the walk of a `for` over a value, with its
-- number of items at the start and the place of the next one; or the way in which a suite is left.
pub data Operand : Type 0 where
  of_value : (v : PlainValue) → Operand
  of_method : (m : Method) (v : PlainValue) → Operand
  of_walk : (v : PlainValue) (length place : ℕ) → Operand
  of_way : (w : Way) → Operand

-- Local names of the units: in a new frame, by the values of its parameters; and the value in a
-- slot, looked up, set and unset.
pub record Locals (L : Type 0) : Type 0 where
  pub fresh : CodeId → List PlainValue → L
  pub look : CodeId → L → ℕ → Option PlainValue
  pub set : CodeId → L → ℕ → PlainValue → L
  pub unset : CodeId → L → ℕ → L

-- A frame: its code, the place of its instruction, its operands, the top one first, its local
-- names, the line that is kept, and how many frames stand on each other up to this one.
pub record Frame (L : Type 0) : Type 0 where
  pub code : CodeId
  pub place : ℕ
  pub operands : List Operand
  pub locals : L
  pub line : ℕ
  pub depth : ℕ

-- The world, the bytes of the input that are left, those that were written, and the events.
pub record Effects : Type 0 where
  pub world : World
  pub input : List ℕ
  pub out : List ℕ
  pub events : List Event

-- The frame that runs, those that wait for it, the innermost first, the steps that are left, and
-- what was changed.
pub record Configuration (L : Type 0) : Type 0 where
  pub top : Frame L
  pub callers : List (Frame L)
  pub steps : ℕ
  pub effects : Effects

-- The outermost frame gave a value or failed by an exception, no step was left, or an instruction
-- missed something.
pub data Ended : Type 0 where
  gave : (v : PlainValue) → Ended
  failed : (e : PlainRaised) → Ended
  spent : Ended
  stuck : Ended

-- how a run ended, with the steps that were left then and what was changed
pub record End : Type 0 where
  pub how : Ended
  pub steps : ℕ
  pub effects : Effects

-- what follows an instruction: another configuration, or the end
abbrev pub Next : Type 0 → Type 0
Next L = Move (Configuration L) End
