-- Exceptions that clauses catch and that assertions raise (Python Language Reference, 8.4.1 and
-- 7.3).
use Rattle.std.specs.Prelude.{Bool, false, ◌||◌, if◌then◌else◌, Result, Ok, Err}
use Rattle.py_value.specs.declared.cause.Cause.TheVariants.{NotExceptionKind, TooDeep}
use Rattle.py_value.specs.declared.exception.ExcKind.{ExcKind}
use Rattle.py_value.specs.declared.exception.ExcKind.TheVariants.{AssertionError}
use Rattle.py_value.specs.Answers.{◌>>=◌}
use Rattle.py_value.specs.Causes.{raised_by}
use Rattle.py_value.specs.ExcKind.{is_or_under}
use Rattle.py_value.specs.Plain.{PlainValue, tuple_value, kind_value, PlainValues, no_values, value_then, argument, may_nest, PlainRaised}

-- whether the kinds in a Tuple catch a kind of exceptions; each item must be a kind
abbrev pub some_catches : PlainValues → ExcKind → Result Bool PlainRaised
some_catches no_values kind = Ok false
some_catches (value_then (kind_value k) vs) kind =
    some_catches vs kind >>= λ b. Ok (is_or_under kind k || b)
some_catches (value_then v vs) kind = Err (raised_by NotExceptionKind)

-- whether the value of a clause's expression does
abbrev pub catches : PlainValue → ExcKind → Result Bool PlainRaised
catches (kind_value k) kind = Ok (is_or_under kind k)
catches (tuple_value vs) kind = some_catches vs kind
catches v kind = Err (raised_by NotExceptionKind)

-- the exception of an assertion with this value
abbrev pub assertion_error : PlainValue → Result PlainRaised PlainRaised
assertion_error v =
    if may_nest v then Ok (record { kind = AssertionError; arg = argument v }) else
    Err (raised_by TooDeep)
