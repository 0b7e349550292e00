-- Why an operation raises: the kind and the text of the exception.
use Rattle.std.specs.Prelude.{ℕ, List, codes, if◌then◌else◌}
use Rattle.py_value.specs.declared.cause.Cause.{Cause}
use Rattle.py_value.specs.declared.cause.Cause.TheVariants.{UnsupportedOperand, NotCallable, WrongArgumentCount, UnhashableKey, NotIterable, NotSubscriptable, BadArgument, NotException, NotExceptionKind, WrongValueCount, InvalidLiteral, EmptySeparator, ZeroStep, InputNotUtf8, ListIndex, TupleIndex, StringIndex, ListAssignmentIndex, PopIndex, DivisionByZero, IntegerTooLarge, DictChangedSize, TooDeep, NoInput, TooManyItems}
use Rattle.py_value.specs.declared.exception.ExcKind.{ExcKind}
use Rattle.py_value.specs.declared.exception.ExcKind.TheVariants.{ValueError, ZeroDivisionError, KeyError, EOFError, MemoryError, IndexError, RuntimeError, RecursionError, TypeError, OverflowError}
use Rattle.py_value.specs.Plain.{PlainValue, str_value, no_argument, argument, PlainRaised, may_nest}

-- the kind of exception of a cause
abbrev pub kind_of : Cause → ExcKind
kind_of UnsupportedOperand = TypeError
kind_of NotCallable = TypeError
kind_of WrongArgumentCount = TypeError
kind_of UnhashableKey = TypeError
kind_of NotIterable = TypeError
kind_of NotSubscriptable = TypeError
kind_of BadArgument = TypeError
kind_of NotException = TypeError
kind_of NotExceptionKind = TypeError
kind_of WrongValueCount = ValueError
kind_of InvalidLiteral = ValueError
kind_of EmptySeparator = ValueError
kind_of ZeroStep = ValueError
kind_of InputNotUtf8 = ValueError
kind_of ListIndex = IndexError
kind_of TupleIndex = IndexError
kind_of StringIndex = IndexError
kind_of ListAssignmentIndex = IndexError
kind_of PopIndex = IndexError
kind_of DivisionByZero = ZeroDivisionError
kind_of IntegerTooLarge = OverflowError
kind_of DictChangedSize = RuntimeError
kind_of TooDeep = RecursionError
kind_of NoInput = EOFError
kind_of TooManyItems = MemoryError

-- the text of the exception of a cause; that of a `MemoryError` is empty
abbrev pub text_of : Cause → List ℕ
text_of UnsupportedOperand = codes "unsupported operand"
text_of NotCallable = codes "not callable"
text_of WrongArgumentCount = codes "wrong number of arguments"
text_of UnhashableKey = codes "unhashable key"
text_of NotIterable = codes "not iterable"
text_of NotSubscriptable = codes "not subscriptable"
text_of BadArgument = codes "bad argument"
text_of NotException = codes "not an exception"
text_of NotExceptionKind = codes "not an exception kind"
text_of WrongValueCount = codes "wrong number of values"
text_of InvalidLiteral = codes "invalid literal for int"
text_of EmptySeparator = codes "empty separator"
text_of ZeroStep = codes "range step is zero"
text_of InputNotUtf8 = codes "input is not UTF-8"
text_of ListIndex = codes "list index out of range"
text_of TupleIndex = codes "tuple index out of range"
text_of StringIndex = codes "string index out of range"
text_of ListAssignmentIndex = codes "list assignment index out of range"
text_of PopIndex = codes "pop index out of range"
text_of DivisionByZero = codes "division by zero"
text_of IntegerTooLarge = codes "integer too large"
text_of DictChangedSize = codes "dictionary changed size during iteration"
text_of TooDeep = codes "maximum recursion depth exceeded"
text_of NoInput = codes "no input"
text_of TooManyItems = codes ""

-- the exception; a `MemoryError` has no argument
abbrev pub raised_by : Cause → PlainRaised
raised_by TooManyItems = record { kind = MemoryError; arg = no_argument }
raised_by cause = record { kind = kind_of cause; arg = argument (str_value (text_of cause)) }

-- a `KeyError` with the key as its argument, where that may be an argument
abbrev pub key_error : PlainValue → PlainRaised
key_error key =
    if may_nest key then record { kind = KeyError; arg = argument key } else raised_by TooDeep
