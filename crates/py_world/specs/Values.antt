-- What is found in a store and in values, seen plainly.
--     plain_option                                 a value, if there is one
--     plain_callee                                 what is called
--     found_items                                  items that were found
--     plain_list_answer, plain_item_answer         answers
--     plain_callee_answer
use Rattle.std.specs.Prelude.{List, Option, Some, None, Result, Ok, Err, Vec}
use Rattle.std.specs.declared.alloc.Global.{Global}
use Rattle.py_value.specs.declared.builtin.Method.{Method}
use Rattle.py_value.specs.declared.value.Raised.{Raised}
use Rattle.py_value.specs.declared.value.Value.{Value}
use Rattle.py_value.specs.Plain.{PlainValue, PlainRaised}
use Rattle.py_value.specs.View.{plain, plains, plain_raised}
use Rattle.py_builtins.specs.Callees.{Callee, a_value, a_method}
use Rattle.py_world.specs.declared.attributes.Callee.{Callee as RawCallee}

-- a value, if there is one
abbrev pub plain_option : Option Value → Option PlainValue
plain_option None = None
plain_option (Some v) = Some (plain v)

-- a value, or a method that is called on it
abbrev pub callee_by : Option Method → PlainValue → Callee
callee_by None v = a_value v
callee_by (Some m) v = a_method m v

-- what is called
abbrev pub plain_callee : RawCallee → Callee
plain_callee f = callee_by f.method (plain f.value)

-- the items that were found, if some were
abbrev pub found_items : Option (Vec Value Global) → Option (List PlainValue)
found_items None = None
found_items (Some vs) = Some (plains vs.items)

-- an answer of values
abbrev pub plain_list_answer : Result (Vec Value Global) Raised
    → Result (List PlainValue) PlainRaised
plain_list_answer (Ok vs) = Ok (plains vs.items)
plain_list_answer (Err e) = Err (plain_raised e)

-- an answer of the next item, if there is one
abbrev pub plain_item_answer : Result (Option Value) Raised → Result (Option PlainValue) PlainRaised
plain_item_answer (Ok o) = Ok (plain_option o)
plain_item_answer (Err e) = Err (plain_raised e)

-- an answer of what is called
abbrev pub plain_callee_answer : Result RawCallee Raised → Result Callee PlainRaised
plain_callee_answer (Ok f) = Ok (plain_callee f)
plain_callee_answer (Err e) = Err (plain_raised e)
