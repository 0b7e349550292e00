-- Which units a machine runs without missing an operand, a slot or a place.
--     most_units                      how many units a module has at most
--     HasNumbers                      numbers of constants, names, slots, lines and units
--     Leads, Lands                    jumps, and handlers
--     IsTable                         the handler table
--     IsValid, AreValid               a unit, and those of all modules
--     IsCode, AreCodes                the units of a module, and of several
use Rattle.std.specs.Prelude.{◌≡◌, ℕ, suc, ◌+◌, ◌-◌, ◌<◌, ◌≤◌, ◌⊎◌, Bool, true, false, List, [], ◌∷◌, length, Option, Some, None, slice_get}
use Rattle.py_code.specs.declared.instr.Instr.{Instr}
use Rattle.py_code.specs.declared.instr.Instr.TheVariants.{Constant, Pop, Copy, Sink, Roll, LoadLocal, StoreLocal, UnsetLocal, LoadGlobal, StoreGlobal, UnsetGlobal, Text, Extend, Tuple, List as MakeList, Dict, AddPair, Not, Binary, InPlace, Compare, Index, Slice, Attribute, StoreIndex, Unpack}
use Rattle.py_code.specs.declared.instr.Instr.TheVariants.{Goto, IfFalse, IfTrue, And, Or, Link, Unless, Sequence, Mark, Again, Walk, Next as NextItem, Method, Call, Return, Function, FunctionWith, Import, Module as LoadModule, Take}
use Rattle.py_code.specs.declared.instr.Instr.TheVariants.{Raise, Reraise, Assertion, AssertionWith, Catches, Caught, Uncaught, Leave, Ending, Breaking, Continuing, Returning, Settle, Release}
use Rattle.py_code.specs.declared.unit.Handler.{Handler}
use Rattle.py_code.specs.Footprints.{Exit, footprint, is_mark}
use Rattle.cov_event.specs.declared.event.CodeId.{CodeId}
use Rattle.py_code.specs.Units.{Code, Module, units_of, unit_at, handler_of}

-- how many units a module has at most
abbrev pub most_units : ℕ
most_units = 4294967295

-- the numbers of an instruction lie in the lists of its unit, and units in those of its module
abbrev pub HasNumbers : Code → ℕ → Instr → Type 0
HasNumbers u units (Constant n) = n < length u.constants
HasNumbers u units Pop = Unit {0}
HasNumbers u units (Copy n) = Unit {0}
HasNumbers u units (Sink n) = Unit {0}
HasNumbers u units (Roll n) = Unit {0}
HasNumbers u units (LoadLocal n) = n < length u.locals
HasNumbers u units (StoreLocal n) = n < length u.locals
HasNumbers u units (UnsetLocal n) = n < length u.locals
HasNumbers u units (LoadGlobal n) = n < length u.names
HasNumbers u units (StoreGlobal n) = n < length u.names
HasNumbers u units (UnsetGlobal n) = n < length u.names
HasNumbers u units Text = Unit {0}
HasNumbers u units Extend = Unit {0}
HasNumbers u units (Tuple n) = Unit {0}
HasNumbers u units (MakeList n) = Unit {0}
HasNumbers u units Dict = Unit {0}
HasNumbers u units AddPair = Unit {0}
HasNumbers u units Not = Unit {0}
HasNumbers u units (Binary op) = Unit {0}
HasNumbers u units (InPlace op) = Unit {0}
HasNumbers u units (Compare q) = Unit {0}
HasNumbers u units Index = Unit {0}
HasNumbers u units (Slice bounds) = Unit {0}
HasNumbers u units (Attribute n) = n < length u.names
HasNumbers u units StoreIndex = Unit {0}
HasNumbers u units (Unpack n) = Unit {0}
HasNumbers u units (Goto to) = Unit {0}
HasNumbers u units (IfFalse to) = Unit {0}
HasNumbers u units (IfTrue to) = Unit {0}
HasNumbers u units (And to) = Unit {0}
HasNumbers u units (Or to) = Unit {0}
HasNumbers u units (Link q to) = Unit {0}
HasNumbers u units (Unless n to) = Unit {0}
HasNumbers u units (Sequence k n to) = Unit {0}
HasNumbers u units (Mark n) = n < length u.lines
HasNumbers u units (Again n) = n < length u.lines
HasNumbers u units Walk = Unit {0}
HasNumbers u units (NextItem to) = Unit {0}
HasNumbers u units (Method n) = n < length u.names
HasNumbers u units (Call n) = Unit {0}
HasNumbers u units Return = Unit {0}
HasNumbers u units (Function k) = (0 < k) × (k < units)
HasNumbers u units (FunctionWith k) = (0 < k) × (k < units)
HasNumbers u units (Import n) = n < length u.names
HasNumbers u units (LoadModule n) = n < length u.names
HasNumbers u units (Take m n) = (m < length u.names) × (n < length u.names)
HasNumbers u units Raise = Unit {0}
HasNumbers u units (Reraise n) = Unit {0}
HasNumbers u units Assertion = Unit {0}
HasNumbers u units AssertionWith = Unit {0}
HasNumbers u units Catches = Unit {0}
HasNumbers u units Caught = Unit {0}
HasNumbers u units Uncaught = Unit {0}
HasNumbers u units (Leave n to) = Unit {0}
HasNumbers u units Ending = Unit {0}
HasNumbers u units (Breaking n to) = Unit {0}
HasNumbers u units (Continuing n to) = Unit {0}
HasNumbers u units (Returning n to) = Unit {0}
HasNumbers u units Settle = Unit {0}
HasNumbers u units Release = Unit {0}

-- whether an instruction marks a line, if there is one
abbrev pub marks_at : Option Instr → Bool
marks_at None = false
marks_at (Some i) = is_mark i

-- From a place to another one, where so many operands stand: ahead, or back to what marks a line.
pub record Leads (u : Code) (depths : List ℕ) (p to depth : ℕ) : Type 0 where
  pub stands : slice_get depths to ≡ Some depth
  pub ahead : (p < to) ⊎ (marks_at (slice_get u.instrs to) ≡ true)

-- each of these exits leads to a place where the operands stand that it leaves
abbrev pub LeadAll : Code → List ℕ → ℕ → ℕ → List Exit → Type 0
LeadAll u depths p rest [] = Unit {0}
LeadAll u depths p rest (e ∷ es) =
    Leads u depths p e.to (e.leaves + rest) × LeadAll u depths p rest es

-- From a place to its handler, where at least so many operands are left: these are cut to its
-- depth, and the exception is put on top.
pub record Lands (depths : List ℕ) (p rest : ℕ) (h : Handler) : Type 0 where
  pub enough : h.depth ≤ rest
  pub stands : slice_get depths h.target ≡ Some (suc h.depth)
  pub ahead : p < h.target

-- the same, if there is a handler
abbrev pub LandsAt : List ℕ → ℕ → ℕ → Option Handler → Type 0
LandsAt depths p rest None = Unit {0}
LandsAt depths p rest (Some h) = Lands depths p rest h

-- the same, of an instruction that may raise an exception
abbrev pub LandsIf : Bool → Code → List ℕ → ℕ → ℕ → Type 0
LandsIf false u depths p rest = Unit {0}
LandsIf true u depths p rest = LandsAt depths p rest (handler_of p u.handlers)

-- an instruction at a place where so many operands stand
pub record FitsAt (u : Code) (units : ℕ) (depths : List ℕ) (p depth : ℕ) (i : Instr) : Type 0 where
  pub numbers : HasNumbers u units i
  pub enough : (footprint p i).needs ≤ depth
  pub leads : LeadAll u depths p (depth - (footprint p i).takes) (footprint p i).exits
  pub lands : LandsIf (footprint p i).raises u depths p (depth - (footprint p i).takes)

-- an entry of the handler table: its range lies inside, and its target after that, where one
-- operand more than its depth stands
pub record IsHandler (u : Code) (depths : List ℕ) (h : Handler) : Type 0 where
  pub ordered : h.from ≤ h.to
  pub inside : h.to ≤ length u.instrs
  pub after : h.to ≤ h.target
  pub stands : slice_get depths h.target ≡ Some (suc h.depth)

-- a range lies in another
abbrev pub IsWithin : Handler → Handler → Type 0
IsWithin h k = (k.from ≤ h.from) × (h.to ≤ k.to)

-- of two ranges one contains the other, or they have no place in common
abbrev pub AreNested : Handler → Handler → Type 0
AreNested h k = (h.to ≤ k.from) ⊎ ((k.to ≤ h.from) ⊎ (IsWithin h k ⊎ IsWithin k h))

-- Each entry of the handler table is well formed, and any two ranges are nested.
pub record IsTable (u : Code) (depths : List ℕ) : Type 0 where
  pub each : (n : ℕ) (h : Handler) → slice_get u.handlers n ≡ Some h → IsHandler u depths h
  pub nested : (m n : ℕ) (h k : Handler) → slice_get u.handlers m ≡ Some h
      → slice_get u.handlers n ≡ Some k → AreNested h k

-- A unit in a module of so many units. Each place has one number of operands, which stand there
-- whenever the machine comes to it.
pub record IsValid (u : Code) (units : ℕ) (depths : List ℕ) : Type 0 where
  pub table : IsTable u depths
  pub begins : slice_get depths 0 ≡ Some 0
  pub long : length depths ≡ length u.instrs
  pub fits : (p depth : ℕ) (i : Instr) → slice_get depths p ≡ Some depth → slice_get u.instrs p
      ≡ Some i → FitsAt u units depths p depth i

-- The units of all modules, each with its numbers of operands. There is a script, and each module
-- has a body.
pub record AreValid (ms : List Module) (depths : CodeId → List ℕ) : Type 0 where
  pub units : (code : CodeId) (u : Code) → unit_at ms code ≡ Some u
      → IsValid u (length (units_of (slice_get ms code.module))) (depths code)
  pub bodies : (n : ℕ) (m : Module) → slice_get ms n ≡ Some m → 0 < length m.units
  pub script : 0 < length ms

-- The units of one module, by their numbers: at least that of its body, and at most `most_units`.
pub record UnitsAreValid (us : List Code) (depths : ℕ → List ℕ) : Type 0 where
  pub units : (k : ℕ) (u : Code) → slice_get us k ≡ Some u → IsValid u (length us) (depths k)
  pub body : 0 < length us
  pub few : length us ≤ most_units

-- with some numbers of operands at their places
abbrev pub IsCode : List Code → Type 0
IsCode us = (depths : ℕ → List ℕ) × UnitsAreValid us depths

-- the units of each module
abbrev pub AreCodes : List Module → Type 0
AreCodes [] = Unit {0}
AreCodes (m ∷ ms) = IsCode m.units × AreCodes ms
