-- What a method gives: the value and the heap after it, or the exception. In the order of the table
-- of calls (Python Library Reference, "Built-in Types").
--     new_list                           a list that a method makes
--     append_of, pop_of_list             `l.append(x)`, `l.pop()`
--     pop_of_dict, get_of, keys_of       `d.pop(k)`, `d.get(k)`, `d.keys()`
--     starts_with_of                     `s.startswith(t)`
--     each_after .. join_of              `s.join(l)`
--     is_white .. split_of               `s.split()`
--     method_name .. no_attribute        what is raised where a value has no such method
--     list_method .. method_of           a method, called
--     is_list_method .. has_method       whether a value has it
use Rattle.std.specs.Prelude.{ℕ, zero, suc, ◌+◌, ◌-◌, ◌||◌, ◌&&◌, nat_eq, nat_le, nat_lt, Bool, true, false, if◌then◌else◌, ℤ, negsuc, List, [], ◌∷◌, ◌++◌, length, map, remove, Option, Some, None, Result, Ok, Err, codes}
use Rattle.py_value.specs.declared.builtin.Method.{Method}
use Rattle.py_value.specs.declared.builtin.Method.TheVariants.{Append, Pop, Get, Keys, StartsWith, Join, Split}
use Rattle.py_value.specs.declared.cause.Cause.{Cause}
use Rattle.py_value.specs.declared.cause.Cause.TheVariants.{UnhashableKey, BadArgument, EmptySeparator, PopIndex, TooManyItems}
use Rattle.py_value.specs.declared.exception.ExcKind.TheVariants.{AttributeError}
use Rattle.py_value.specs.Answers.{◌>>=◌, in_words}
use Rattle.py_value.specs.Causes.{raised_by, key_error}
use Rattle.py_value.specs.Heaps.{list_items, dict_pairs, dict_keys, change_list, change_dict, with_object}
use Rattle.py_value.specs.Keys.{is_key, is_same_key, value_at}
use Rattle.py_value.specs.Numbers.{number_of}
use Rattle.py_value.specs.Operators.{item_at}
use Rattle.py_value.specs.Plain.{PlainValue, none_value, bool_value, str_value, tuple_value, list_at, dict_at, listed, argument, list_object, PlainHeap, PlainRaised}
use Rattle.py_builtins.specs.Arguments.{Answer, raises, only, pair, are_none, for_none, for_one, for_none_or_one, for_one_or_two}
use Rattle.py_value.specs.Sequences.{most_items, within_limit, place_among, begins}

-- a new list of these items, where there are not too many of them
abbrev pub new_list : List PlainValue → PlainHeap → Answer
new_list vs h =
    in_words raised_by
    (within_limit vs >>= λ items. Ok (list_at (length h), with_object h (list_object items)))

-- `l.append(x)`: adds x last
abbrev pub append_value : ℕ → PlainValue → PlainHeap → Answer
append_value a x h =
    if nat_lt (length (list_items h a)) most_items
    then Ok (none_value, change_list h a (λ vs. vs ++ x ∷ [])) else raises TooManyItems

-- `l.append(..)` as a call
abbrev pub append_of : ℕ → List PlainValue → PlainHeap → Answer
append_of a args h = for_one (only args) (λ x. append_value a x h)

-- the item at a place, taken out of a list
abbrev pub taken : ℕ → PlainHeap → Option ℕ → Option PlainValue → Answer
taken a h (Some k) (Some v) = Ok (v, change_list h a (λ vs. remove vs k))
taken a h _ _ = raises PopIndex

-- the item that an index names, taken out of a list
abbrev pub take_item : ℕ → PlainHeap → Option ℤ → Answer
take_item a h (Some i) =
    let place = place_among (length (list_items h a)) i in
    taken a h place (item_at (list_items h a) place)
take_item a h None = raises BadArgument

-- `l.pop()`, `l.pop(i)`: takes the last item, or item i
abbrev pub pop_of_list : ℕ → List PlainValue → PlainHeap → Answer
pop_of_list a args h =
    for_none_or_one (only args) (are_none args) (take_item a h (Some (negsuc 0)))
    (λ i. take_item a h (number_of i))

-- the pairs without that of a key
abbrev pub without_key : PlainValue → List (PlainValue × PlainValue)
    → List (PlainValue × PlainValue)
without_key key [] = []
without_key key (p ∷ ps) = if is_same_key key p.0 then ps else p ∷ without_key key ps

-- the value that was found at a key, taken out of a dict, or the answer for an absent key
abbrev pub take_value : ℕ → PlainHeap → PlainValue → Option PlainValue → Answer → Answer
take_value a h key (Some v) absent = Ok (v, change_dict h a (without_key key))
take_value a h key None absent = absent

-- only a key is looked for
abbrev pub with_key : PlainValue → Answer → Answer
with_key key answer = if is_key key then answer else raises UnhashableKey

-- the value of a key, taken out; an absent key raises
abbrev pub pop_key : ℕ → PlainValue → PlainHeap → Answer
pop_key a key h =
    with_key key (take_value a h key (value_at key (dict_pairs h a)) (Err (key_error key)))

-- the value of a key, taken out, or another one where the key is absent
abbrev pub pop_key_or : ℕ → PlainValue → PlainValue → PlainHeap → Answer
pop_key_or a key x h = with_key key (take_value a h key (value_at key (dict_pairs h a)) (Ok (x, h)))

-- `d.pop(k)`, `d.pop(k, x)`: takes k's value and closes up; absent: `KeyError`, or x
abbrev pub pop_of_dict : ℕ → List PlainValue → PlainHeap → Answer
pop_of_dict a args h =
    for_one_or_two (only args) (pair args) (λ key. pop_key a key h) (λ key x. pop_key_or a key x h)

-- the value that was found, or another one
abbrev pub value_or : PlainValue → Option PlainValue → PlainValue
value_or x None = x
value_or x (Some v) = v

-- the value of a key, or another one where the key is absent
abbrev pub get_or : ℕ → PlainValue → PlainValue → PlainHeap → Answer
get_or a key x h = with_key key (Ok (value_or x (value_at key (dict_pairs h a)), h))

-- `d.get(k)`, `d.get(k, x)`: the value, else None or x
abbrev pub get_of : ℕ → List PlainValue → PlainHeap → Answer
get_of a args h =
    for_one_or_two (only args) (pair args) (λ key. get_or a key none_value h)
    (λ key x. get_or a key x h)

-- `d.keys()`: a new list of the keys
abbrev pub keys_of : ℕ → List PlainValue → PlainHeap → Answer
keys_of a args h =
    for_none (are_none args) (Ok (list_at (length h), with_object h (list_object (dict_keys h a))))

-- `s.startswith(t)`
abbrev pub starts_with : List ℕ → PlainValue → PlainHeap → Answer
starts_with s (str_value t) h = Ok (bool_value (begins t s), h)
starts_with s x h = raises BadArgument

-- `s.startswith(..)` as a call
abbrev pub starts_with_of : List ℕ → List PlainValue → PlainHeap → Answer
starts_with_of s args h = for_one (only args) (λ x. starts_with s x h)

-- texts, each with another one before it
abbrev pub each_after : List ℕ → List (List ℕ) → List ℕ
each_after between [] = []
each_after between (t ∷ ts) = between ++ (t ++ each_after between ts)

-- how many characters these are, with a text of so many characters
abbrev pub each_length : ℕ → List (List ℕ) → ℕ
each_length between [] = 0
each_length between (t ∷ ts) = between + (length t + each_length between ts)

-- texts with another between each two of them
abbrev pub joined_by : List ℕ → List (List ℕ) → List ℕ
joined_by between [] = []
joined_by between (t ∷ ts) = t ++ each_after between ts

-- whether a value is a text
abbrev pub is_text : PlainValue → Bool
is_text (str_value s) = true
is_text v = false

-- whether all values are texts
abbrev pub are_texts : List PlainValue → Bool
are_texts [] = true
are_texts (v ∷ vs) = is_text v && are_texts vs

-- the characters of a text; of another value none
abbrev pub characters_in : PlainValue → List ℕ
characters_in (str_value s) = s
characters_in v = []

-- texts joined, where that is no text too long
abbrev pub joined_texts : List ℕ → List PlainValue → Result (List ℕ) Cause
joined_texts s vs =
    if are_texts vs then within_limit (joined_by s (map characters_in vs)) else Err BadArgument

-- the text joined of these items
abbrev pub join_items : List ℕ → List PlainValue → PlainHeap → Answer
join_items s vs h = in_words raised_by (joined_texts s vs >>= λ text. Ok (str_value text, h))

-- `s.join(l)`: joins a list or tuple of texts
abbrev pub join : List ℕ → PlainValue → PlainHeap → Answer
join s (list_at a) h = join_items s (list_items h a) h
join s (tuple_value vs) h = join_items s (listed vs) h
join s x h = raises BadArgument

-- `s.join(..)` as a call
abbrev pub join_of : List ℕ → List PlainValue → PlainHeap → Answer
join_of s args h = for_one (only args) (λ x. join s x h)

-- ASCII white space: tab, line feed, vertical tab, form feed, carriage return and the blank
abbrev pub is_white : ℕ → Bool
is_white c = (nat_le 9 c && nat_le c 13) || nat_eq c 32

-- a character put before the first part
abbrev pub before_first : ℕ → List (List ℕ) → List (List ℕ)
before_first c [] = (c ∷ []) ∷ []
before_first c (p ∷ ps) = (c ∷ p) ∷ ps

-- the parts between each character of white space
abbrev pub white_parts : List ℕ → List (List ℕ)
white_parts [] = [] ∷ []
white_parts (c ∷ cs) = if is_white c then [] ∷ white_parts cs else before_first c (white_parts cs)

-- those that aren't empty
abbrev pub nonempty : List (List ℕ) → List (List ℕ)
nonempty [] = []
nonempty ([] ∷ ps) = nonempty ps
nonempty ((c ∷ cs) ∷ ps) = (c ∷ cs) ∷ nonempty ps

-- the parts between each separator, the leftmost one first; so many characters of a separator are
-- still to be passed over
abbrev pub parts_between : List ℕ → ℕ → List ℕ → List (List ℕ)
parts_between t passed [] = [] ∷ []
parts_between t (suc k) (c ∷ cs) = parts_between t k cs
parts_between t zero (c ∷ cs) =
    if begins t (c ∷ cs) then [] ∷ parts_between t (length t - 1) cs else
    before_first c (parts_between t zero cs)

-- texts as values
abbrev pub texts : List (List ℕ) → List PlainValue
texts ts = map (λ t. str_value t) ts

-- `s.split()`, `s.split(t)`: parts without white space, none empty; parts between each t
abbrev pub split_at : List ℕ → PlainValue → PlainHeap → Answer
split_at s (str_value []) h = raises EmptySeparator
split_at s (str_value (c ∷ cs)) h = new_list (texts (parts_between (c ∷ cs) 0 s)) h
split_at s x h = raises BadArgument

-- `s.split(..)` as a call
abbrev pub split_of : List ℕ → List PlainValue → PlainHeap → Answer
split_of s args h =
    for_none_or_one (only args) (are_none args) (new_list (texts (nonempty (white_parts s))) h)
    (λ t. split_at s t h)

-- the name of a method
abbrev pub method_name : Method → List ℕ
method_name Append = codes "append"
method_name Pop = codes "pop"
method_name Get = codes "get"
method_name Keys = codes "keys"
method_name StartsWith = codes "startswith"
method_name Join = codes "join"
method_name Split = codes "split"

-- the exception where a value has no attribute of this name
abbrev pub absent_text : List ℕ → List ℕ
absent_text name = codes "no attribute '" ++ (name ++ codes "'")

-- the exception with this text
abbrev pub no_attribute : List ℕ → PlainRaised
no_attribute name = record { kind = AttributeError; arg = argument (str_value (absent_text name)) }

-- a method of a list
abbrev pub list_method : Method → ℕ → List PlainValue → PlainHeap → Answer
list_method Append a args h = append_of a args h
list_method Pop a args h = pop_of_list a args h
list_method which a args h = Err (no_attribute (method_name which))

-- a method of a dict
abbrev pub dict_method : Method → ℕ → List PlainValue → PlainHeap → Answer
dict_method Pop a args h = pop_of_dict a args h
dict_method Get a args h = get_of a args h
dict_method Keys a args h = keys_of a args h
dict_method which a args h = Err (no_attribute (method_name which))

-- a method of a text
abbrev pub text_method : Method → List ℕ → List PlainValue → PlainHeap → Answer
text_method StartsWith s args h = starts_with_of s args h
text_method Join s args h = join_of s args h
text_method Split s args h = split_of s args h
text_method which s args h = Err (no_attribute (method_name which))

-- the method of a list, a dict or a text; other values have none
abbrev pub method_of : Method → PlainValue → List PlainValue → PlainHeap → Answer
method_of which (list_at a) args h = list_method which a args h
method_of which (dict_at a) args h = dict_method which a args h
method_of which (str_value s) args h = text_method which s args h
method_of which on args h = Err (no_attribute (method_name which))

-- whether lists have a method
abbrev pub is_list_method : Method → Bool
is_list_method Append = true
is_list_method Pop = true
is_list_method _ = false

-- whether dicts have a method
abbrev pub is_dict_method : Method → Bool
is_dict_method Pop = true
is_dict_method Get = true
is_dict_method Keys = true
is_dict_method _ = false

-- whether texts have a method
abbrev pub is_text_method : Method → Bool
is_text_method StartsWith = true
is_text_method Join = true
is_text_method Split = true
is_text_method _ = false

-- whether a value has a method: what is asked before the arguments are evaluated
abbrev pub has_method : Method → PlainValue → Bool
has_method which (list_at a) = is_list_method which
has_method which (dict_at a) = is_dict_method which
has_method which (str_value s) = is_text_method which
has_method which on = false
