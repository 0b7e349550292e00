-- How programs and calls end: outcomes, their statuses, and their texts on `err`.
--     Outcome, outcome_of       of a program
--     status_of, err_of         its status, and what it writes to `err`
use Rattle.std.specs.Prelude.{ℕ, ◌-◌, ◌%◌, if◌then◌else◌, List, [], ◌∷◌, ◌++◌, ℤ, pos, negsuc, Option, Some, None, Result, Ok, Err, codes, encode_utf8_all}
use Rattle.py_value.specs.declared.exception.ExcKind.{ExcKind}
use Rattle.py_value.specs.declared.exception.ExcKind.TheVariants.{SystemExit}
use Rattle.py_value.specs.ExcKind.{is_same_kind}
use Rattle.py_value.specs.Numbers.{number_of}
use Rattle.py_value.specs.Plain.{PlainValue, none_value, exc_value, PlainArgument, no_argument, argument, PlainHeap, PlainRaised}
use Rattle.py_builtins.specs.Displays.{kind_name}
use Rattle.py_builtins.specs.Texts.{str_text}

-- how a program ends; where its budget is spent it is cut
pub data Outcome : Type 0 where
  finished : Outcome
  exited : (status : ℕ) (text : Option (List ℕ)) → Outcome
  raised : (kind : ExcKind) (text : List ℕ) → Outcome
  cut : Outcome

-- a text that raises counts as empty
abbrev pub text_or_empty : Result (List ℕ) PlainRaised → List ℕ
text_or_empty (Ok x) = x
text_or_empty (Err e) = []

-- the text of a value as an outcome has it
abbrev pub shown : PlainHeap → PlainValue → List ℕ
shown h v = text_or_empty (str_text v h)

-- the text of an exception
abbrev pub shown_raised : PlainHeap → PlainRaised → List ℕ
shown_raised h e = shown h (exc_value e.kind e.arg)

-- the low eight bits of a number
abbrev pub low_bits : ℤ → ℕ
low_bits (pos n) = n % 256
low_bits (negsuc n) = 255 - n % 256

-- an exit by this value: the low bits of a number, and else 1 with the text
abbrev pub exit_by : PlainHeap → PlainValue → Option ℤ → Outcome
exit_by h v None = exited 1 (Some (shown h v))
exit_by h v (Some n) = exited (low_bits n) None

-- `SystemExit` with this argument: none and None give 0, a number its low eight bits, and anything
-- else 1 with its text
abbrev pub exit_of : PlainHeap → PlainArgument → Outcome
exit_of h no_argument = exited 0 None
exit_of h (argument none_value) = exited 0 None
exit_of h (argument v) = exit_by h v (number_of v)

-- how a program ends whose body gave this
abbrev pub outcome_of : PlainHeap → Result PlainValue PlainRaised → Outcome
outcome_of h (Ok v) = finished
outcome_of h (Err e) =
    if is_same_kind e.kind SystemExit then exit_of h e.arg else raised e.kind (shown_raised h e)

-- the status of an ending
abbrev pub status_of : Outcome → ℕ
status_of finished = 0
status_of (exited status text) = status
status_of (raised kind text) = 1
status_of cut = 75

-- the bytes of a line
abbrev pub text_line : List ℕ → List ℕ
text_line x = encode_utf8_all x ++ 10 ∷ []

-- the line of an exception that nothing caught: its kind, and its text where it has one
abbrev pub uncaught : ExcKind → List ℕ → List ℕ
uncaught kind [] = kind_name kind
uncaught kind (c ∷ cs) = kind_name kind ++ codes ": " ++ (c ∷ cs)

-- the bytes that an ending writes to `err`: the exception, or the text of an exit
abbrev pub err_of : Outcome → List ℕ
err_of finished = []
err_of (exited status None) = []
err_of (exited status (Some text)) = text_line text
err_of (raised kind text) = text_line (uncaught kind text)
err_of cut = []
