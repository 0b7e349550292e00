-- Whether a built-in function found that no input was left.
use Rattle.std.specs.Prelude.{Bool, false, Ok, Err}
use Rattle.py_value.specs.declared.builtin.Builtin.{Builtin}
use Rattle.py_value.specs.declared.builtin.Builtin.TheVariants.{Print, Len, Range, Str, Repr, Int, Input, Exit}
use Rattle.py_value.specs.declared.exception.ExcKind.TheVariants.{EOFError}
use Rattle.py_value.specs.ExcKind.{is_same_kind}
use Rattle.py_builtins.specs.Arguments.{Answer}

-- the answer of a read that found no byte
abbrev pub is_end : Answer → Bool
is_end (Ok p) = false
is_end (Err raised) = is_same_kind raised.kind EOFError

-- `input` alone reads, and raises EOFError where no byte is left (Library Reference, "Built-in
-- Functions")
abbrev pub finds_end : Builtin → Answer → Bool
finds_end Print answer = false
finds_end Len answer = false
finds_end Range answer = false
finds_end Str answer = false
finds_end Repr answer = false
finds_end Int answer = false
finds_end Input answer = is_end answer
finds_end Exit answer = false
