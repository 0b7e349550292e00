-- Modules of units, and what stands in them.
--     Code, plain_unit                units
--     Module                          a program's module
--     unit_at, places_of              its units, and their instructions
--     constant_value                  constants
--     handler_at                      handlers
--     imported_number                 modules by names
use Rattle.std.specs.Prelude.{ℕ, suc, ◌-◌, nat_le, nat_lt, Bool, ◌&&◌, if◌then◌else◌, List, [], ◌∷◌, Option, Some, None, slice_get}
use Rattle.cov_event.specs.declared.event.CodeId.{CodeId}
use Rattle.py_text.specs.Comparison.{is_same_text}
use Rattle.py_value.specs.Plain.{PlainValue, none_value, bool_value, int_value, str_value}
use Rattle.py_code.specs.declared.instr.Instr.{Instr}
use Rattle.py_code.specs.declared.unit.Unit.{Unit as RawUnit}
use Rattle.py_code.specs.declared.unit.Constant.{Constant}
use Rattle.py_code.specs.declared.unit.Constant.TheVariants.{None as NoneConstant, Bool as BoolConstant, Int as IntConstant, Str as StrConstant}
use Rattle.py_code.specs.declared.unit.Handler.{Handler}

-- A unit: the name of the function, empty for the body of a module, its first line, its parameters,
-- how many of the last of them have defaults, the names of its local slots, the parameters first,
-- and its lists and tables.
pub record Code : Type 0 where
  pub name : List ℕ
  pub first : ℕ
  pub params : List (List ℕ)
  pub defaults : ℕ
  pub locals : List (List ℕ)
  pub names : List (List ℕ)
  pub constants : List Constant
  pub instrs : List Instr
  pub lines : List ℕ
  pub handlers : List Handler

-- a unit in memory as such
abbrev pub plain_unit : RawUnit → Code
plain_unit u = record {
  name = u.name;
  first = u.first;
  params = u.params.items;
  defaults = u.defaults;
  locals = u.locals.items;
  names = u.names.items;
  constants = u.constants.items;
  instrs = u.instrs.items;
  lines = u.lines.items;
  handlers = u.handlers.items;
}

-- a module: its name, and its units. Unit 0 is the body
pub record Module : Type 0 where
  pub name : List ℕ
  pub units : List Code

-- the units of a module, if there is one
abbrev pub units_of : Option Module → List Code
units_of None = []
units_of (Some m) = m.units

-- the unit of a code, if there is one
abbrev pub unit_at : List Module → CodeId → Option Code
unit_at ms code = slice_get (units_of (slice_get ms code.module)) code.unit

-- the instructions of a unit, if there is one
abbrev pub places_in : Option Code → List Instr
places_in None = []
places_in (Some u) = u.instrs

-- the instructions of a unit
abbrev pub places_of : List Module → CodeId → List Instr
places_of ms code = places_in (unit_at ms code)

-- the value of a constant
abbrev pub constant_value : Constant → PlainValue
constant_value NoneConstant = none_value
constant_value (BoolConstant b) = bool_value b
constant_value (IntConstant n) = int_value n
constant_value (StrConstant x) = str_value x

-- the range of a handler holds a place
abbrev pub guards : ℕ → Handler → Bool
guards p h = nat_le h.from p && nat_lt p h.to

-- of two ranges that hold a place the smaller one is the inner, and the earlier of equal ones
abbrev pub inner : Handler → Option Handler → Handler
inner h None = h
inner h (Some k) = if nat_lt (k.to - k.from) (h.to - h.from) then k else h

-- the innermost handler of a place
abbrev pub handler_of : ℕ → List Handler → Option Handler
handler_of p [] = None
handler_of p (h ∷ hs) = if guards p h then Some (inner h (handler_of p hs)) else handler_of p hs

-- the handlers of a unit, if there is one
abbrev pub handlers_in : Option Code → List Handler
handlers_in None = []
handlers_in (Some u) = u.handlers

-- the innermost handler of a place of a code, if there is one
abbrev pub handler_at : List Module → CodeId → ℕ → Option Handler
handler_at ms code p = handler_of p (handlers_in (unit_at ms code))

-- the number of the first module that has the name, from a number on
unfoldable pub number_from : ℕ → List Module → List ℕ → Option ℕ
number_from n [] x = None
number_from n (m ∷ ms) x = if is_same_text x m.name then Some n else number_from (suc n) ms x

-- the module that an import names: never the script
abbrev pub imported_number : List Module → List ℕ → Option ℕ
imported_number [] x = None
imported_number (script ∷ ms) x = number_from 1 ms x
