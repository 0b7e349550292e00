-- Operands as what they are taken for. Each is taken for anything: what it isn't is None, or empty.
--     value_in, callee_in, walk_in, way_in     a value, what is called, a walk, and a way out
--     exception_in, text_in                    the exception of a way out, and the text of a value
--     asked                                    what a comparison asks
use Rattle.std.specs.Prelude.{ℕ, List, []}
use Rattle.py_value.specs.declared.exception.ExcKind.TheVariants.{BaseException}
use Rattle.py_operator.specs.declared.operator.CmpOp.TheVariants.{Eq as OpEq, Ne as OpNe, Lt as OpLt, Le as OpLe, Gt as OpGt, Ge as OpGe, In as OpIn, NotIn as OpNotIn}
use Rattle.py_value.specs.Compared.{Comparison, relates, is_it, is_not_it}
use Rattle.py_value.specs.Plain.{PlainValue, none_value, bool_value, int_value, str_value, tuple_value, list_at, dict_at, func_value, module_value, kind_value, exc_value, builtin_value, no_argument, PlainRaised}
use Rattle.py_builtins.specs.Callees.{Callee, a_value, a_method}
use Rattle.py_code.specs.declared.instr.Question.{Question}
use Rattle.py_code.specs.declared.instr.Question.TheVariants.{Eq, Ne, Lt, Le, Gt, Ge, In, NotIn, Is, IsNot}
use Rattle.py_code.specs.Configurations.{Way, on, by_break, by_continue, by_return, by_raise, Operand, of_value, of_method, of_walk, of_way}

-- the value that an operand is taken for
abbrev pub value_in : Operand → PlainValue
value_in (of_value v) = v
value_in (of_method m v) = v
value_in (of_walk v n i) = v
value_in (of_way w) = none_value

-- what is called, that an operand is taken for
abbrev pub callee_in : Operand → Callee
callee_in (of_value v) = a_value v
callee_in (of_method m v) = a_method m v
callee_in (of_walk v n i) = a_value v
callee_in (of_way w) = a_value none_value

-- what is called, as an operand
abbrev pub operand_of : Callee → Operand
operand_of (a_value v) = of_value v
operand_of (a_method m v) = of_method m v

-- the value that is walked, its number of items at the start, and the place of the next one
abbrev pub walk_in : Operand → PlainValue × ℕ × ℕ
walk_in (of_value v) = (v, 0, 0)
walk_in (of_method m v) = (v, 0, 0)
walk_in (of_walk v n i) = (v, n, i)
walk_in (of_way w) = (none_value, 0, 0)

-- the way out that an operand is taken for
abbrev pub way_in : Operand → Way
way_in (of_value v) = on
way_in (of_method m v) = on
way_in (of_walk v n i) = on
way_in (of_way w) = w

-- the exception of a way out
abbrev pub exception_of_way : Way → PlainRaised
exception_of_way on = record { kind = BaseException; arg = no_argument }
exception_of_way by_break = record { kind = BaseException; arg = no_argument }
exception_of_way by_continue = record { kind = BaseException; arg = no_argument }
exception_of_way (by_return v) = record { kind = BaseException; arg = no_argument }
exception_of_way (by_raise e t) = e

-- the exception that an operand is taken for
abbrev pub exception_in : Operand → PlainRaised
exception_in x = exception_of_way (way_in x)

-- the text that a value is taken for
abbrev pub text_in_value : PlainValue → List ℕ
text_in_value none_value = []
text_in_value (bool_value b) = []
text_in_value (int_value n) = []
text_in_value (str_value x) = x
text_in_value (tuple_value items) = []
text_in_value (list_at a) = []
text_in_value (dict_at a) = []
text_in_value (func_value f a) = []
text_in_value (module_value m) = []
text_in_value (kind_value kind) = []
text_in_value (exc_value kind arg) = []
text_in_value (builtin_value which) = []

-- the text that an operand is taken for
abbrev pub text_in : Operand → List ℕ
text_in x = text_in_value (value_in x)

-- what a comparison asks
abbrev pub asked : Question → Comparison
asked Eq = relates OpEq
asked Ne = relates OpNe
asked Lt = relates OpLt
asked Le = relates OpLe
asked Gt = relates OpGt
asked Ge = relates OpGe
asked In = relates OpIn
asked NotIn = relates OpNotIn
asked Is = is_it
asked IsNot = is_not_it
