-- The arguments of a call: one or two of them, and what a call answers that is given another
-- number.
use Rattle.std.specs.Prelude.{Bool, true, false, List, [], ◌∷◌, Option, Some, None, Result, Err}
use Rattle.py_value.specs.declared.cause.Cause.{Cause}
use Rattle.py_value.specs.declared.cause.Cause.TheVariants.{WrongArgumentCount}
use Rattle.py_value.specs.Causes.{raised_by}
use Rattle.py_value.specs.Plain.{PlainValue, PlainHeap, PlainRaised}

-- What a call answers: the value and the heap after it, or the exception.
abbrev pub Answer : Type 0
Answer = Result (PlainValue × PlainHeap) PlainRaised

-- what raises by this cause
abbrev pub raises : Cause → Answer
raises cause = Err (raised_by cause)

-- whether there is no argument
abbrev pub are_none : List PlainValue → Bool
are_none [] = true
are_none (x ∷ xs) = false

-- the argument, where there is just one
abbrev pub only : List PlainValue → Option PlainValue
only (x ∷ []) = Some x
only _ = None

-- the two arguments, where there are just two
abbrev pub pair : List PlainValue → Option (PlainValue × PlainValue)
pair (x ∷ y ∷ []) = Some (x, y)
pair _ = None

-- an answer for no argument
abbrev pub for_none : Bool → Answer → Answer
for_none true answer = answer
for_none false answer = raises WrongArgumentCount

-- an answer for one argument
abbrev pub for_one : Option PlainValue → (PlainValue → Answer) → Answer
for_one (Some x) f = f x
for_one None f = raises WrongArgumentCount

-- an answer for no argument or one
abbrev pub for_none_or_one : Option PlainValue → Bool → Answer → (PlainValue → Answer) → Answer
for_none_or_one (Some x) none answer f = f x
for_none_or_one None none answer f = for_none none answer

-- an answer for two arguments
abbrev pub for_two : Option (PlainValue × PlainValue) → (PlainValue → PlainValue → Answer) → Answer
for_two (Some p) f = f p.0 p.1
for_two None f = raises WrongArgumentCount

-- an answer for one argument or two
abbrev pub for_one_or_two : Option PlainValue → Option (PlainValue × PlainValue)
    → (PlainValue → Answer) → (PlainValue → PlainValue → Answer) → Answer
for_one_or_two (Some x) p f g = f x
for_one_or_two None p f g = for_two p g
