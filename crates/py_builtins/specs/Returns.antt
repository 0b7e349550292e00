-- How one call ends.
use Rattle.std.specs.Prelude.{ℕ, List, Result, Ok, Err}
use Rattle.py_value.specs.declared.exception.ExcKind.{ExcKind}
use Rattle.py_value.specs.Plain.{PlainValue, PlainHeap, PlainRaised}
use Rattle.py_builtins.specs.Outcomes.{shown_raised}

-- what a call gave: a value, an exception with its text, or it was cut
pub data Returned : Type 0 where
  gave : PlainValue → Returned
  raised : (kind : ExcKind) (text : List ℕ) → Returned
  cut : Returned

-- how a call ends that gave this
abbrev pub returned_of : PlainHeap → Result PlainValue PlainRaised → Returned
returned_of h (Ok v) = gave v
returned_of h (Err e) = raised e.kind (shown_raised h e)
