-- The items of values, as assignments to several targets and loops take them (Python Language
-- Reference, 7.2 and 8.3), and patterns (8.6.4).
--     items_in                   the items of a value that has some
--     unpacked                   exactly so many of them
--     walk_length, item_of       what a loop over a value begins with, and what each turn takes
--     sequence_items, of_length  what a sequence pattern looks at
use Rattle.std.specs.Prelude.{ℕ, Bool, true, false, if◌then◌else◌, List, length, nat_eq, slice_get, Option, Some, None, Result, Ok, Err}
use Rattle.py_value.specs.declared.cause.Cause.TheVariants.{NotIterable, WrongValueCount, DictChangedSize}
use Rattle.py_value.specs.Answers.{◌>>=◌}
use Rattle.py_value.specs.Causes.{raised_by}
use Rattle.py_value.specs.Heaps.{dict_pairs, list_items}
use Rattle.py_value.specs.Operators.{items_to_append}
use Rattle.py_value.specs.Plain.{PlainValue, dict_at, PlainHeap, PlainRaised, list_at, tuple_value, listed}

-- the items, where a value has some
abbrev pub items_or : Option (List PlainValue) → Result (List PlainValue) PlainRaised
items_or None = Err (raised_by NotIterable)
items_or (Some vs) = Ok vs

-- the items of a List, Tuple, Str or Dict
abbrev pub items_in : PlainValue → PlainHeap → Result (List PlainValue) PlainRaised
items_in v h = items_or (items_to_append h v)

-- exactly so many items
abbrev pub unpacked : ℕ → PlainValue → PlainHeap → Result (List PlainValue) PlainRaised
unpacked n v h =
    items_in v h >>= λ vs. if nat_eq (length vs) n then Ok vs else Err (raised_by WrongValueCount)

-- the number of items at the start; what has no items can't be walked
abbrev pub walk_length : PlainValue → PlainHeap → Result ℕ PlainRaised
walk_length v h = items_in v h >>= λ vs. Ok (length vs)

-- a Dict keeps its length while it is walked
abbrev pub has_changed : PlainValue → ℕ → PlainHeap → Bool
has_changed (dict_at a) n h = if nat_eq (length (dict_pairs h a)) n then false else true
has_changed v n h = false

-- the item of a turn, as the value is then, where it had so many at the start; none at the end
abbrev pub item_of : PlainValue → ℕ → ℕ → PlainHeap → Result (Option PlainValue) PlainRaised
item_of v n i h =
    if has_changed v n h then Err (raised_by DictChangedSize) else
    items_in v h >>= λ vs. Ok (slice_get vs i)

-- the items that a sequence pattern looks at: those of a List or Tuple
abbrev pub sequence_items : PlainValue → PlainHeap → Option (List PlainValue)
sequence_items (list_at a) h = Some (list_items h a)
sequence_items (tuple_value vs) h = Some (listed vs)
sequence_items v h = None

-- of the length of the pattern
abbrev pub of_length : ℕ → Option (List PlainValue) → Option (List PlainValue)
of_length n None = None
of_length n (Some vs) = if nat_eq (length vs) n then Some vs else None
