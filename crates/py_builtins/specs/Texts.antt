-- The texts of values, by `str` and by `repr`.
use Rattle.std.specs.Prelude.{ℕ, zero, suc, if◌then◌else◌, List, [], Result}
use Rattle.py_value.specs.declared.exception.ExcKind.{ExcKind}
use Rattle.py_value.specs.declared.exception.ExcKind.TheVariants.{KeyError}
use Rattle.py_value.specs.ExcKind.{is_same_kind}
use Rattle.py_value.specs.Answers.{in_words}
use Rattle.py_value.specs.Causes.{raised_by}
use Rattle.py_value.specs.Comparison.{most_levels}
use Rattle.py_value.specs.Plain.{PlainValue, str_value, exc_value, PlainArgument, no_argument, argument, PlainHeap, PlainRaised}
use Rattle.py_builtins.specs.Writing.{Writing, whole, broken, answer_of}
use Rattle.py_builtins.specs.Displays.{display_step}

-- the display of a value, going through at most so many values inside each other
unfoldable pub display_within : ℕ → PlainHeap → List ℕ → PlainValue → Writing
display_within zero h inside v = broken []
display_within (suc n) h inside v = display_step (display_within n h) h inside v

-- the display of a value, going through at most so many values inside it
abbrev pub display_around : ℕ → PlainHeap → List ℕ → PlainValue → Writing
display_around levels h inside v = display_step (display_within levels h) h inside v

-- the text of an exception: empty without an argument, the display of the argument of a `KeyError`,
-- and else the argument's text
abbrev pub exception_text : (PlainValue → Writing) → (PlainValue → Writing) → ExcKind
    → PlainArgument → Writing
exception_text text show kind no_argument = whole []
exception_text text show kind (argument v) = if is_same_kind kind KeyError then show v else text v

-- the text of a value, where `text` and `show` write the values inside it; that of any other value
-- but a text is its display
abbrev pub text_step : (PlainValue → Writing) → (List ℕ → PlainValue → Writing) → PlainHeap
    → PlainValue → Writing
text_step text show h (str_value s) = whole s
text_step text show h (exc_value kind a) = exception_text text (show []) kind a
text_step text show h v = display_step show h [] v

-- the text of a value, going through at most so many values inside each other
unfoldable pub text_within : ℕ → PlainHeap → PlainValue → Writing
text_within zero h v = broken []
text_within (suc n) h v = text_step (text_within n h) (display_within n h) h v

-- `str(v)`
unfoldable pub str_text : PlainValue → PlainHeap → Result (List ℕ) PlainRaised
str_text v h = in_words raised_by (answer_of (text_within most_levels h v))

-- `repr(v)`
unfoldable pub repr_text : PlainValue → PlainHeap → Result (List ℕ) PlainRaised
repr_text v h = in_words raised_by (answer_of (display_within most_levels h [] v))
