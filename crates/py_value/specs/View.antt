-- The plain view of values.
use Rattle.std.specs.Prelude.{◌≡◌, ℤ, List, Vec, Result, Ok, Err}
use Rattle.std.specs.declared.alloc.Global.{Global}
use Rattle.py_value.specs.declared.value.Value.{Value}
use Rattle.py_value.specs.declared.cause.Cause.{Cause}
use Rattle.py_value.specs.declared.value.Raised.{Raised}
use Rattle.py_value.specs.Plain.{PlainValue, int_value, PlainRaised, PlainHeap}
pub use Rattle.py_value.specs.Shared.{place_of, plain, plains}

-- the kind and the argument of an exception
abbrev pub plain_raised : Raised → PlainRaised
plain_raised r = record { kind = r.kind; arg = r.arg }

-- what an operation answers
abbrev pub plain_answer : {A : Type 0} → Result A Raised → Result A PlainRaised
plain_answer (Ok x) = Ok x
plain_answer (Err r) = Err (plain_raised r)

-- what an operation answers that gives a value
abbrev pub plain_value_answer : Result Value Raised → Result PlainValue PlainRaised
plain_value_answer (Ok v) = Ok (plain v)
plain_value_answer (Err r) = Err (plain_raised r)

-- a value with the heap after it, or what is raised
abbrev pub plain_outcome : Result Value Raised → PlainHeap
    → Result (PlainValue × PlainHeap) PlainRaised
plain_outcome (Ok v) h = Ok (plain v, h)
plain_outcome (Err r) h = Err (plain_raised r)

-- the heap after a change, or what is raised
abbrev pub plain_stored : Result (Unit {0}) Raised → PlainHeap → Result PlainHeap PlainRaised
plain_stored (Ok u) h = Ok h
plain_stored (Err r) h = Err (plain_raised r)

-- what an operation makes of its target, and the heap after it, or what is raised
abbrev pub plain_update : Result (Unit {0}) Raised → PlainValue → PlainHeap
    → Result (PlainValue × PlainHeap) PlainRaised
plain_update (Ok u) v h = Ok (v, h)
plain_update (Err r) v h = Err (plain_raised r)

-- what a change leaves, or the cause of what it raises
abbrev pub after_change : {A : Type 0} → Result (Unit {0}) Cause → A → Result A Cause
after_change (Ok u) x = Ok x
after_change (Err cause) x = Err cause

-- a value with the heap after it, or the cause of what is raised
abbrev pub after_step : Result Value Cause → PlainHeap → Result (PlainValue × PlainHeap) Cause
after_step (Ok v) h = Ok (plain v, h)
after_step (Err cause) h = Err cause

-- the items that were made, or the cause of what is raised
abbrev pub plain_items : Result (Vec Value Global) Cause → Result (List PlainValue) Cause
plain_items (Ok vs) = Ok (plains vs.items)
plain_items (Err cause) = Err cause

-- that the value is this number, or that both have the same cause
abbrev pub IsNumberOf : Result Value Cause → Result ℤ Cause → Type 0
IsNumberOf (Ok v) number = (n : ℤ) × (number ≡ Ok n) × (plain v ≡ int_value n)
IsNumberOf (Err cause) number = number ≡ Err cause
