-- The table of operators (Python Language Reference, 6.7 to 6.10, 7.2.1 and 3.3), with bool
-- counting as 0 or 1. Each operation gives a value and the heap after it, or raises and leaves the
-- heap as it was.
--     binary_answer, in_place_answer      `left op right`, `left op= right`
--     contains_answer, compare_answer     `in`, and the comparisons
--     item_answer, value_answer           `of[at]` of a sequence and of a dict
--     store_answer                        `of[at] = v`
--     binary_of, in_place_of, compare_of, index_of, slice_of, store_of
--                                         the same with the exception in place of its cause
--     is_none_value, is_bool_value        `is`
--     truth_of                            the truth of a value
use Rattle.std.specs.Prelude.{ℕ, ◌+◌, nat_le, nat_lt, ℤ, Bool, true, false, not, ◌||◌, if◌then◌else◌, List, [], ◌∷◌, ◌++◌, length, map, is_some, slice_get, slice_set, Option, Some, None, Result, Ok, Err}
use Rattle.std.specs.Ordering.{is_lt, is_gt}
use Rattle.py_operator.specs.declared.operator.BinOp.{BinOp}
use Rattle.py_operator.specs.declared.operator.BinOp.TheVariants.{Add, Mul}
use Rattle.py_operator.specs.declared.operator.CmpOp.{CmpOp}
use Rattle.py_operator.specs.declared.operator.CmpOp.TheVariants.{Eq, Ne, Lt, Le, Gt, Ge, In, NotIn}
use Rattle.py_value.specs.declared.cause.Cause.{Cause}
use Rattle.py_value.specs.declared.cause.Cause.TheVariants.{UnsupportedOperand, UnhashableKey, NotSubscriptable, ListIndex, TupleIndex, StringIndex, ListAssignmentIndex, TooManyItems}
use Rattle.py_value.specs.Answers.{◌>>=◌, in_words}
use Rattle.py_value.specs.Causes.{raised_by, key_error}
use Rattle.py_value.specs.Plain.{PlainValue, none_value, bool_value, int_value, str_value, tuple_value, list_at, dict_at, listed, tuple_of, list_object, PlainHeap, PlainRaised}
use Rattle.py_value.specs.Heaps.{list_items, dict_pairs, dict_keys, change_list, change_dict, with_object}
use Rattle.py_value.specs.Numbers.{number_of, arithmetic, is_zero}
use Rattle.py_value.specs.Sequences.{most_items, joined, repeated, place_among, part, is_part}
use Rattle.py_value.specs.Keys.{is_key, value_at, with_value}
use Rattle.py_value.specs.Comparison.{equal_within, order_within, most_levels, is_item}

-- what an operation answers: a value and the heap after it, or what it raises
abbrev pub Answer : Type 0
Answer = Result (PlainValue × PlainHeap) Cause

-- a value, with the heap as it was
abbrev pub gives : PlainHeap → PlainValue → Answer
gives h v = Ok (v, h)

-- a new list
abbrev pub gives_list : PlainHeap → List PlainValue → Answer
gives_list h vs = Ok (list_at (length h), with_object h (list_object vs))

-- `+ - * // %` where both operands count as numbers
abbrev pub number_result : BinOp → Option ℤ → Option ℤ → Result ℤ Cause
number_result op (Some x) (Some y) = arithmetic op x y
number_result op _ _ = Err UnsupportedOperand

-- `*` of a sequence with a number
abbrev pub repeated_sequence : PlainHeap → PlainValue → Option ℤ → Answer
repeated_sequence h (str_value s) (Some n) = repeated n s >>= λ t. gives h (str_value t)
repeated_sequence h (tuple_value vs) (Some n) =
    repeated n (listed vs) >>= λ ws. gives h (tuple_of ws)
repeated_sequence h (list_at a) (Some n) = repeated n (list_items h a) >>= λ ws. gives_list h ws
repeated_sequence h _ _ = Err UnsupportedOperand

-- `+ - * // %`
abbrev pub binary_answer : BinOp → PlainValue → PlainValue → PlainHeap → Answer
binary_answer Add (str_value s) (str_value t) h = joined s t >>= λ u. gives h (str_value u)
binary_answer Add (tuple_value vs) (tuple_value ws) h =
    joined (listed vs) (listed ws) >>= λ us. gives h (tuple_of us)
binary_answer Add (list_at a) (list_at b) h =
    joined (list_items h a) (list_items h b) >>= λ us. gives_list h us
binary_answer Mul (str_value s) b h = repeated_sequence h (str_value s) (number_of b)
binary_answer Mul (tuple_value vs) b h = repeated_sequence h (tuple_value vs) (number_of b)
binary_answer Mul (list_at a) b h = repeated_sequence h (list_at a) (number_of b)
binary_answer Mul a (str_value s) h = repeated_sequence h (str_value s) (number_of a)
binary_answer Mul a (tuple_value vs) h = repeated_sequence h (tuple_value vs) (number_of a)
binary_answer Mul a (list_at b) h = repeated_sequence h (list_at b) (number_of a)
binary_answer op a b h = number_result op (number_of a) (number_of b) >>= λ n. gives h (int_value n)

-- the characters of a text as texts of one character
abbrev pub characters : List ℕ → List PlainValue
characters s = map (λ c. str_value (c ∷ [])) s

-- what `+=` appends to a list: the items of a List, Tuple, Str or Dict
abbrev pub items_to_append : PlainHeap → PlainValue → Option (List PlainValue)
items_to_append h (list_at a) = Some (list_items h a)
items_to_append h (tuple_value vs) = Some (listed vs)
items_to_append h (str_value s) = Some (characters s)
items_to_append h (dict_at a) = Some (dict_keys h a)
items_to_append h _ = None

-- items appended to a list
abbrev pub appended : ℕ → PlainHeap → Option (List PlainValue) → Answer
appended a h None = Err UnsupportedOperand
appended a h (Some vs) =
    if nat_le (length (list_items h a) + length vs) most_items
    then Ok (list_at a, change_list h a (λ us. us ++ vs)) else Err TooManyItems

-- a list whose items are repeated where it stands
abbrev pub repeated_in_place : ℕ → PlainHeap → Option ℤ → Answer
repeated_in_place a h None = Err UnsupportedOperand
repeated_in_place a h (Some n) =
    repeated n (list_items h a) >>= λ vs. Ok (list_at a, change_list h a (λ _. vs))

-- `+= -= *= //= %=`
abbrev pub in_place_answer : BinOp → PlainValue → PlainValue → PlainHeap → Answer
in_place_answer Add (list_at a) b h = appended a h (items_to_append h b)
in_place_answer Mul (list_at a) b h = repeated_in_place a h (number_of b)
in_place_answer op a b h = binary_answer op a b h

-- `in`
abbrev pub contains_answer : PlainValue → PlainValue → PlainHeap → Result Bool Cause
contains_answer v (list_at a) h = is_item (equal_within most_levels h) v (list_items h a)
contains_answer v (tuple_value vs) h = is_item (equal_within most_levels h) v (listed vs)
contains_answer (str_value s) (str_value t) h = Ok (is_part s t)
contains_answer key (dict_at a) h =
    if is_key key then Ok (is_some (value_at key (dict_pairs h a))) else Err UnhashableKey
contains_answer _ _ h = Err UnsupportedOperand

-- the comparisons
abbrev pub compare_answer : CmpOp → PlainValue → PlainValue → PlainHeap → Result Bool Cause
compare_answer Eq a b h = equal_within most_levels h a b
compare_answer Ne a b h = equal_within most_levels h a b >>= λ same. Ok (not same)
compare_answer Lt a b h = order_within most_levels h a b >>= λ order. Ok (is_lt order)
compare_answer Le a b h = order_within most_levels h a b >>= λ order. Ok (not (is_gt order))
compare_answer Gt a b h = order_within most_levels h a b >>= λ order. Ok (is_gt order)
compare_answer Ge a b h = order_within most_levels h a b >>= λ order. Ok (not (is_lt order))
compare_answer In a b h = contains_answer a b h
compare_answer NotIn a b h = contains_answer a b h >>= λ found. Ok (not found)

-- the item that an index names, from the end where it is negative
abbrev pub item_at : {A : Type 0} → List A → Option ℕ → Option A
item_at xs None = None
item_at xs (Some k) = slice_get xs k

-- an item, or the cause where it is outside
abbrev pub found : {A : Type 0} → Cause → Option A → Result A Cause
found outside None = Err outside
found outside (Some x) = Ok x

-- the item that an index names
abbrev pub item_answer : {A : Type 0} → Cause → List A → Option ℤ → Result A Cause
item_answer outside xs None = Err NotSubscriptable
item_answer outside xs (Some i) = found outside (item_at xs (place_among (length xs) i))

-- a character of a text, as a text
abbrev pub character_answer : List ℕ → Option ℤ → Result PlainValue Cause
character_answer s at = item_answer StringIndex s at >>= λ c. Ok (str_value (c ∷ []))

-- the value of a dict's key
abbrev pub value_found : PlainValue → Option PlainValue → Result PlainValue PlainRaised
value_found key None = Err (key_error key)
value_found key (Some v) = Ok v

-- the value of a key, where it may be one
abbrev pub value_answer : PlainValue → List (PlainValue × PlainValue)
    → Result PlainValue PlainRaised
value_answer key ps =
    if is_key key then value_found key (value_at key ps) else Err (raised_by UnhashableKey)

-- the item replaced
abbrev pub stored_at : ℕ → PlainValue → PlainHeap → Option ℕ → Result PlainHeap Cause
stored_at a v h None = Err ListAssignmentIndex
stored_at a v h (Some k) = Ok (change_list h a (λ vs. slice_set vs k v))

-- the item that an index names, replaced
abbrev pub stored_item : ℕ → PlainValue → PlainHeap → Option ℤ → Result PlainHeap Cause
stored_item a v h None = Err NotSubscriptable
stored_item a v h (Some i) = stored_at a v h (place_among (length (list_items h a)) i)

-- the value of a key set, where a new key doesn't make the dict too large
abbrev pub stored_value : ℕ → PlainValue → PlainValue → PlainHeap → Result PlainHeap Cause
stored_value a key v h =
    if is_key key then
    (if is_some (value_at key (dict_pairs h a)) || nat_lt (length (dict_pairs h a)) most_items
    then Ok (change_dict h a (with_value key v)) else Err TooManyItems)
    else Err UnhashableKey

-- an item or a value of a key replaced
abbrev pub store_answer : PlainValue → PlainValue → PlainValue → PlainHeap → Result PlainHeap Cause
store_answer (list_at a) at v h = stored_item a v h (number_of at)
store_answer (dict_at a) key v h = stored_value a key v h
store_answer _ _ v h = Err NotSubscriptable

-- What an operation gives, seen by those who call it.

-- `left op right`
abbrev pub binary_of : BinOp → PlainValue → PlainValue → PlainHeap
    → Result (PlainValue × PlainHeap) PlainRaised
binary_of op a b h = in_words raised_by (binary_answer op a b h)

-- `left op= right`
abbrev pub in_place_of : BinOp → PlainValue → PlainValue → PlainHeap
    → Result (PlainValue × PlainHeap) PlainRaised
in_place_of op a b h = in_words raised_by (in_place_answer op a b h)

-- `left op right` of a comparison
abbrev pub compare_of : CmpOp → PlainValue → PlainValue → PlainHeap → Result Bool PlainRaised
compare_of op a b h = in_words raised_by (compare_answer op a b h)

-- `is` with None, True or False
abbrev pub is_none_value : PlainValue → Bool
is_none_value none_value = true
is_none_value _ = false

-- whether a value is this truth
abbrev pub is_bool_value : Bool → PlainValue → Bool
is_bool_value true (bool_value b) = b
is_bool_value false (bool_value b) = not b
is_bool_value _ _ = false

-- the truth of a value
abbrev pub truth_of : PlainValue → PlainHeap → Bool
truth_of none_value h = false
truth_of (bool_value b) h = b
truth_of (int_value n) h = not (is_zero n)
truth_of (str_value s) h = nat_lt 0 (length s)
truth_of (tuple_value vs) h = nat_lt 0 (length (listed vs))
truth_of (list_at a) h = nat_lt 0 (length (list_items h a))
truth_of (dict_at a) h = nat_lt 0 (length (dict_pairs h a))
truth_of _ h = true

-- `of[at]`
abbrev pub index_of : PlainValue → PlainValue → PlainHeap → Result PlainValue PlainRaised
index_of (list_at a) at h =
    in_words raised_by (item_answer ListIndex (list_items h a) (number_of at))
index_of (tuple_value vs) at h =
    in_words raised_by (item_answer TupleIndex (listed vs) (number_of at))
index_of (str_value s) at h = in_words raised_by (character_answer s (number_of at))
index_of (dict_at a) key h = value_answer key (dict_pairs h a)
index_of _ _ h = Err (raised_by NotSubscriptable)

-- `of[from:to]`
abbrev pub slice_of : PlainValue → Option ℤ → Option ℤ → PlainHeap
    → Result (PlainValue × PlainHeap) PlainRaised
slice_of (list_at a) from to h =
    Ok (list_at (length h), with_object h (list_object (part from to (list_items h a))))
slice_of (tuple_value vs) from to h = Ok (tuple_of (part from to (listed vs)), h)
slice_of (str_value s) from to h = Ok (str_value (part from to s), h)
slice_of _ from to h = Err (raised_by NotSubscriptable)

-- `of[at] = v`
abbrev pub store_of : PlainValue → PlainValue → PlainValue → PlainHeap
    → Result PlainHeap PlainRaised
store_of of at v h = in_words raised_by (store_answer of at v h)
