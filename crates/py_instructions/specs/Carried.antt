-- Whole numbers that are on top for the definition, and don't stand on the operands in memory yet.
--     whole, truth            a whole number and a bool as operands
--     placed                  a configuration at another place, with other operands
--     PutsWhole               an instruction puts a whole number on top
--     Leads, LeadsTo          moves that go on in a unit
--     GoneOn                  they were made, or nothing was done
--     IsStored                a whole number was stored, or nothing was done
--     IsOperatorAt            an operator at a place
--     KeepsCopy               a copy of what is on top is made, and what is on top goes
use Rattle.std.specs.Prelude.{◌≡◌, ◌⊎◌, ℕ, suc, ◌+◌, ℤ, Bool, true, false, List, ◌∷◌, ◌++◌, Some, slice_get}
use Rattle.py_operator.specs.declared.operator.BinOp.{BinOp}
use Rattle.py_value.specs.Plain.{int_value, bool_value}
use Rattle.py_code.specs.declared.instr.Instr.{Instr}
use Rattle.py_code.specs.declared.instr.Instr.TheVariants.{Pop, Copy, Binary, InPlace}
use Rattle.py_code.specs.declared.unit.Unit.{Unit as RawUnit}
use Rattle.py_code.specs.Configurations.{Operand, of_value, Configuration}
use Rattle.py_code.specs.Machine.{act}
use Rattle.py_code.specs.Run.{Goes}
use Rattle.py_code.specs.Slots.{by_slots}
use Rattle.py_code.specs.Units.{Module, plain_unit, unit_at}
use Rattle.py_instructions.specs.declared.frame.State.{State}
use Rattle.py_instructions.specs.AtOnce.{HasGoneOn}
use Rattle.py_instructions.specs.View.{Slots, Outside, plain_operands, seen}
use Rattle.py_world.specs.declared.store.Store.{Store}

-- a whole number as an operand
abbrev pub whole : ℤ → Operand
whole n = of_value (int_value n)

-- a bool as an operand
abbrev pub truth : Bool → Operand
truth b = of_value (bool_value b)

-- the same configuration at a place, with these operands
abbrev pub placed : ℕ → List Operand → Configuration Slots → Configuration Slots
placed p xs c = record c { top = record c.top { place = p; operands = xs } }

-- an instruction puts a whole number on top, and goes on, wherever it stands
abbrev pub PutsWhole : RawUnit → Instr → State → Store → ℤ → Type 0
PutsWhole u i m s n =
    (ms : List Module) (o : Outside) (p : ℕ) (xs : List Operand)
    → act (by_slots ms) ms (plain_unit u) i xs (placed p xs (seen m s o))
    ≡ Goes (placed (suc p) (whole n ∷ xs) (seen m s o))

-- moves lead from one configuration to another in whatever modules have this unit there
abbrev pub Leads : RawUnit → Configuration Slots → Configuration Slots → Type 0
Leads u c d =
    (ms : List Module) → unit_at ms c.top.code ≡ Some (plain_unit u) → HasGoneOn ms c d

-- from a place they lead to another, with operands in place of those on top
abbrev pub LeadsTo : RawUnit → State → Store → ℕ → List Operand → ℕ → List Operand → Type 0
LeadsTo u m s p xs q ys =
    (o : Outside) (zs : List Operand)
    → Leads u (placed p (xs ++ zs) (seen m s o)) (placed q (ys ++ zs) (seen m s o))

-- from a place and with these operands more, moves were made in the same code; or nothing was done
abbrev pub GoneOn : Bool → RawUnit → ℕ → List Operand → State → Store → State → Store → Type 0
GoneOn true u p xs m s m2 s2 =
    (m2.top.code ≡ m.top.code)
    × ((o : Outside)
    → Leads u (placed p (xs ++ plain_operands m.top.operands) (seen m s o)) (seen m2 s2 o))
GoneOn false u p xs m s m2 s2 = (m2 ≡ m) × (s2 ≡ s)

-- an operator is at a place
abbrev pub IsOperatorAt : RawUnit → ℕ → BinOp → Type 0
IsOperatorAt u p op =
    (slice_get u.instrs.items p ≡ Some (Binary op))
    ⊎ (slice_get u.instrs.items p ≡ Some (InPlace op))

-- a copy of what is on top is made at a place, and what is on top is taken away two places further
abbrev pub KeepsCopy : RawUnit → ℕ → Type 0
KeepsCopy u p =
    (slice_get u.instrs.items p ≡ Some (Copy 0)) × (slice_get u.instrs.items (p + 2) ≡ Some Pop)

-- a whole number that was on top at a place was stored; or nothing was done
abbrev pub IsStored : Bool → RawUnit → ℕ → ℤ → State → Store → State → Store → Type 0
IsStored true u p n m s m2 s2 =
    (m2.top.code ≡ m.top.code) × (m2.top.operands ≡ m.top.operands)
    × ((o : Outside) (zs : List Operand)
    → Leads u (placed p (whole n ∷ zs) (seen m s o)) (placed (suc p) zs (seen m2 s2 o)))
IsStored false u p n m s m2 s2 = (m2 ≡ m) × (s2 ≡ s)
