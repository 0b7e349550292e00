-- What is checked of units that are written down by their instructions.
--     Flows                     where an instruction goes on, and how many operands stand there
--     FitsIn, AllFit            a place, and those up to a number
--     IsHandlerIn, IsNested     an entry of the handler table, and a pair of them
--     AllNested, StandsIn       an entry with all others
--     AllStand                  the entries up to a number
--     HasDepths, AllHaveDepths  a unit, and those up to a number
use Rattle.std.specs.Prelude.{◌≡◌, ℕ, ◌-◌, ◌<◌, ◌≤◌, List, length, Some, slice_get}
use Rattle.py_code.specs.declared.instr.Instr.{Instr}
use Rattle.py_code.specs.declared.unit.Handler.{Handler}
use Rattle.py_code.specs.Footprints.{Footprint}
use Rattle.py_code.specs.Units.{Code}
use Rattle.py_code.specs.Valid.{LeadAll, LandsIf, FitsAt, IsHandler, AreNested, IsValid}

-- an instruction with this footprint goes on where so many operands stand
pub record Flows (u : Code) (depths : List ℕ) (p depth : ℕ) (f : Footprint) : Type 0 where
  pub enough : f.needs ≤ depth
  pub leads : LeadAll u depths p (depth - f.takes) f.exits
  pub lands : LandsIf f.raises u depths p (depth - f.takes)

-- the instruction at a place, if there is one, goes on so
abbrev pub FitsIn : Code → ℕ → List ℕ → ℕ → Type 0
FitsIn u units depths p =
    (depth : ℕ) (i : Instr) → slice_get depths p ≡ Some depth → slice_get u.instrs p ≡ Some i
    → FitsAt u units depths p depth i

-- each one before a place
abbrev pub AllFit : Code → ℕ → List ℕ → ℕ → Type 0
AllFit u units depths n = (p : ℕ) → p < n → FitsIn u units depths p

-- the entry of a number, if there is one, is well formed
abbrev pub IsHandlerIn : Code → List ℕ → ℕ → Type 0
IsHandlerIn u depths n = (h : Handler) → slice_get u.handlers n ≡ Some h → IsHandler u depths h

-- its range and that of a handler are nested
abbrev pub IsNested : List Handler → Handler → ℕ → Type 0
IsNested hs h n = (k : Handler) → slice_get hs n ≡ Some k → AreNested h k

-- those of each entry before a number
abbrev pub AllNested : List Handler → Handler → ℕ → Type 0
AllNested hs h n = (m : ℕ) → m < n → IsNested hs h m

-- the entry of a number stands well in its table, if there is one
abbrev pub StandsIn : Code → List ℕ → ℕ → Type 0
StandsIn u depths n =
    IsHandlerIn u depths n
    × ((h : Handler) → slice_get u.handlers n ≡ Some h
    → AllNested u.handlers h (length u.handlers))

-- each entry before a number
abbrev pub AllStand : Code → List ℕ → ℕ → Type 0
AllStand u depths n = (m : ℕ) → m < n → StandsIn u depths m

-- the unit of a number, if there is one, is valid with some numbers of operands
abbrev pub HasDepths : List Code → ℕ → Type 0
HasDepths us n =
    (u : Code) → slice_get us n ≡ Some u → (depths : List ℕ) × IsValid u (length us) depths

-- each unit before a number
abbrev pub AllHaveDepths : List Code → ℕ → Type 0
AllHaveDepths us n = (m : ℕ) → m < n → HasDepths us m
