-- Values that expressions and statements make (Python Language Reference, 6.2.5 to 6.2.7, 6.3.3,
-- 6.10, 2.4.3).
--     extended                a text with another after it
--     new_tuple, new_dict     displays
--     stored                  `of[at] = v`
--     sliced                  slices
use Rattle.std.specs.Prelude.{Bool, true, ◌&&◌, if◌then◌else◌, List, [], ◌∷◌, length, ℕ, ℤ, Option, Some, None, Result, Ok, Err}
use Rattle.py_value.specs.declared.cause.Cause.{Cause}
use Rattle.py_value.specs.declared.cause.Cause.TheVariants.{NotSubscriptable, TooDeep}
use Rattle.py_value.specs.Answers.{◌>>=◌, in_words}
use Rattle.py_value.specs.Causes.{raised_by}
use Rattle.py_value.specs.Heaps.{with_object}
use Rattle.py_value.specs.Numbers.{number_of}
use Rattle.py_value.specs.Operators.{slice_of, store_of}
use Rattle.py_value.specs.Plain.{PlainValue, dict_at, tuple_of, dict_object, may_nest, PlainHeap, PlainRaised}
use Rattle.py_value.specs.Sequences.{joined, within_limit}

-- a text with another after it
abbrev pub extended : List ℕ → List ℕ → Result (List ℕ) PlainRaised
extended x y = in_words raised_by (joined x y)

-- whether each value may stand in a tuple
abbrev pub may_all_nest : List PlainValue → Bool
may_all_nest [] = true
may_all_nest (v ∷ vs) = may_nest v && may_all_nest vs

-- the tuple of these values
abbrev pub new_tuple : List PlainValue → Result PlainValue PlainRaised
new_tuple vs =
    if may_all_nest vs then in_words raised_by (within_limit vs >>= λ ws. Ok (tuple_of ws)) else
    Err (raised_by TooDeep)

-- a new dict without keys
abbrev pub new_dict : PlainHeap → Result (PlainValue × PlainHeap) PlainRaised
new_dict h = Ok (dict_at (length h), with_object h (dict_object []))

-- a heap beside no answer
abbrev pub with_unit : PlainHeap → Unit {0} × PlainHeap
with_unit h = (tt, h)

-- `of[at] = v`
abbrev pub stored : PlainValue → PlainValue → PlainValue → PlainHeap
    → Result (Unit {0} × PlainHeap) PlainRaised
stored of at v h = store_of of at v h >>= λ k. Ok (with_unit k)

-- a number, or else the exception of this cause
abbrev pub number_or : Cause → Option ℤ → Result (Option ℤ) PlainRaised
number_or cause None = Err (raised_by cause)
number_or cause (Some n) = Ok (Some n)

-- a bound of a slice as a value: left out, or a number
abbrev pub slice_bound : Option PlainValue → Result (Option ℤ) PlainRaised
slice_bound None = Ok None
slice_bound (Some v) = number_or NotSubscriptable (number_of v)

-- `v[from:to]`
abbrev pub sliced : PlainValue → Option PlainValue → Option PlainValue → PlainHeap
    → Result (PlainValue × PlainHeap) PlainRaised
sliced v from to h = slice_bound from >>= λ a. slice_bound to >>= λ b. slice_of v a b h
