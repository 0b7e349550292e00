-- Values by the words of a text: neighbouring strings and signs (Python Language Reference, 2.4.2
-- and 6.6).
use Rattle.std.specs.Prelude.{List, [], ◌∷◌, ◌++◌, pos, Result}
use Rattle.py_operator.specs.declared.operator.BinOp.{BinOp}
use Rattle.py_operator.specs.declared.operator.BinOp.TheVariants.{Add, Sub}
use Rattle.py_value.specs.Operators.{binary_of}
use Rattle.py_value.specs.Plain.{PlainValue, int_value, PlainHeap, PlainRaised}
use Rattle.py_syntax.specs.declared.expr.Sign.{Sign}
use Rattle.py_syntax.specs.declared.expr.Sign.TheVariants.{Minus, Plus}
use Rattle.py_syntax.specs.Tree.{Text}

-- neighbouring strings as one
abbrev pub run_together : List Text → Text
run_together [] = []
run_together (x ∷ xs) = x ++ run_together xs

-- `-v` is `0 - v`, and `+v` is `0 + v`
abbrev pub sign_operator : Sign → BinOp
sign_operator Minus = Sub
sign_operator Plus = Add

-- a signed value is 0 and the value, subtracted or added
abbrev pub signed : Sign → PlainValue → PlainHeap → Result (PlainValue × PlainHeap) PlainRaised
signed s v h = binary_of (sign_operator s) (int_value (pos 0)) v h
