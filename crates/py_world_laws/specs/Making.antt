-- Which code makes functions as their units ask for them.
--     made_with           the unit of which an instruction makes a function with a list of defaults
--     MakesAt             an instruction at a place
--     MakesFunctions      a unit of a module
--     AreMakers           the units of all modules
use Rattle.std.specs.Prelude.{◌≡◌, ℕ, suc, ◌<◌, List, [], ◌∷◌, length, Option, Some, None, slice_get}
use Rattle.cov_event.specs.declared.event.CodeId.{CodeId}
use Rattle.py_code.specs.declared.instr.Instr.{Instr}
use Rattle.py_code.specs.declared.instr.Instr.TheVariants.{List as MakeList, Function, FunctionWith}
use Rattle.py_code.specs.declared.unit.Handler.{Handler}
use Rattle.py_code.specs.Footprints.{Exit, footprint}
use Rattle.py_code.specs.Units.{Code, Module, units_of, unit_at, handler_of}

-- the unit of which the instruction makes a function, with the list on top of the operands as its
-- defaults
abbrev pub made_with : Option Instr → Option ℕ
made_with (Some (FunctionWith k)) = Some k
made_with other = None

-- how many defaults a unit has
abbrev pub defaults_in : Option Code → ℕ
defaults_in None = 0
defaults_in (Some u) = u.defaults

-- nothing leads to where such a function is made
abbrev pub LeadElsewhere : Code → List Exit → Type 0
LeadElsewhere u [] = Unit {0}
LeadElsewhere u (e ∷ es) = (made_with (slice_get u.instrs e.to) ≡ None) × LeadElsewhere u es

-- a new list of so many items, where such a function may be made next: it holds as many as the unit
-- has defaults, and at least one
abbrev pub IsHanded : List Code → ℕ → Option ℕ → Type 0
IsHanded us n None = Unit {0}
IsHanded us n (Some k) = (0 < n) × (n ≡ defaults_in (slice_get us k))

-- an instruction at a place of a unit: only that which makes the list of defaults leads to where
-- the function is made
abbrev pub MakesAt : List Code → Code → ℕ → Instr → Type 0
MakesAt us u p (MakeList n) = IsHanded us n (made_with (slice_get u.instrs (suc p)))
MakesAt us u p (Function k) =
    (defaults_in (slice_get us k) ≡ 0) × LeadElsewhere u (footprint p (Function k)).exits
MakesAt us u p i = LeadElsewhere u (footprint p i).exits

-- A unit of a module of these units. A function without defaults is made of a unit without any. A
-- function with defaults is made right after their list, of as many values as its unit has
-- defaults. In no other way does a run come there, and by no handler.
pub record MakesFunctions (us : List Code) (u : Code) : Type 0 where
  pub each : (p : ℕ) (i : Instr) → slice_get u.instrs p ≡ Some i → MakesAt us u p i
  pub handlers : (p : ℕ) (h : Handler) → p < length u.instrs → handler_of p u.handlers ≡ Some h
      → made_with (slice_get u.instrs h.target) ≡ None

-- the units of all modules
pub record AreMakers (ms : List Module) : Type 0 where
  pub units : (code : CodeId) (u : Code) → unit_at ms code ≡ Some u
      → MakesFunctions (units_of (slice_get ms code.module)) u
