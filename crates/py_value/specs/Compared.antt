-- What one comparison of a chain answers (Python Language Reference, 6.10).
use Rattle.std.specs.Prelude.{Bool, not, Result, Ok, Err}
use Rattle.py_operator.specs.declared.operator.CmpOp.{CmpOp}
use Rattle.py_value.specs.declared.cause.Cause.TheVariants.{UnsupportedOperand}
use Rattle.py_value.specs.Answers.{◌>>=◌}
use Rattle.py_value.specs.Causes.{raised_by}
use Rattle.py_value.specs.Operators.{compare_of, is_none_value, is_bool_value}
use Rattle.py_value.specs.Plain.{PlainValue, none_value, bool_value, PlainHeap, PlainRaised}

-- an operator on the values, or whether the left one is the right one, or is not
pub data Comparison : Type 0 where
  relates : (op : CmpOp) → Comparison
  is_it : Comparison
  is_not_it : Comparison

-- `v is w`: only None, True and False stand on the right
abbrev pub is_answer : PlainValue → PlainValue → Result Bool PlainRaised
is_answer v none_value = Ok (is_none_value v)
is_answer v (bool_value b) = Ok (is_bool_value b v)
is_answer v w = Err (raised_by UnsupportedOperand)

-- a comparison of two values
abbrev pub compared : Comparison → PlainValue → PlainValue → PlainHeap → Result Bool PlainRaised
compared (relates op) v w h = compare_of op v w h
compared is_it v w h = is_answer v w
compared is_not_it v w h = is_answer v w >>= λ b. Ok (not b)
