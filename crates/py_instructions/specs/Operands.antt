-- Operands in memory, as the definition has them.
--     plain_way, plain_operand         a way out, and an operand
--     plain_walk                       a walk
--     is_builtin                       whether a value is a built-in function
--     borrows_values, borrows_if_any   whether a call of an operand only borrows its values
use Rattle.std.specs.Prelude.{ℕ, Bool, true, false, Option, Some, None}
use Rattle.py_value.specs.View.{plain, plain_raised}
use Rattle.py_value.specs.Plain.{PlainValue, none_value, bool_value, int_value, str_value, tuple_value, list_at, dict_at, func_value, module_value, kind_value, exc_value, builtin_value}
use Rattle.py_code.specs.Configurations.{Way, on, by_break, by_continue, by_return, by_raise, Operand, of_value, of_method, of_walk, of_way}
use Rattle.py_instructions.specs.declared.operand.Walk.{Walk}
use Rattle.py_instructions.specs.declared.operand.Way.{Way as RawWay}
use Rattle.py_instructions.specs.declared.operand.Way.TheVariants.{On, Break, Continue, Return, Raise}
use Rattle.py_instructions.specs.declared.operand.Operand.{Operand as RawOperand}
use Rattle.py_instructions.specs.declared.operand.Operand.TheVariants.{Value as OfValue, Method as OfMethod, Walk as OfWalk, Way as OfWay}

-- a way out of a suite
abbrev pub plain_way : RawWay → Way
plain_way On = on
plain_way Break = by_break
plain_way Continue = by_continue
plain_way (Return v) = by_return (plain v)
plain_way (Raise e is_thrown) = by_raise (plain_raised e) is_thrown

-- what stands on the operands
abbrev pub plain_operand : RawOperand → Operand
plain_operand (OfValue v) = of_value (plain v)
plain_operand (OfMethod m v) = of_method m (plain v)
plain_operand (OfWalk v n i) = of_walk (plain v) n i
plain_operand (OfWay w) = of_way (plain_way w)

-- the value that is walked over, its number of items at the start, and the place of the next one
abbrev pub plain_walk : Walk → PlainValue × ℕ × ℕ
plain_walk w = (plain w.value, w.count, w.place)

-- whether a value is a built-in function
abbrev pub is_builtin : PlainValue → Bool
is_builtin none_value = false
is_builtin (bool_value b) = false
is_builtin (int_value n) = false
is_builtin (str_value cs) = false
is_builtin (tuple_value vs) = false
is_builtin (list_at a) = false
is_builtin (dict_at a) = false
is_builtin (func_value f defaults) = false
is_builtin (module_value m) = false
is_builtin (kind_value k) = false
is_builtin (exc_value k arg) = false
is_builtin (builtin_value f) = true

-- whether a call of an operand only borrows its values: a frame and an exception keep them
abbrev pub borrows_values : Operand → Bool
borrows_values (of_value v) = is_builtin v
borrows_values (of_method m v) = true
borrows_values (of_walk v n i) = false
borrows_values (of_way w) = false

-- the same of an operand, if there is one
abbrev pub borrows_if_any : Option Operand → Bool
borrows_if_any None = false
borrows_if_any (Some x) = borrows_values x
