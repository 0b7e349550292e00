-- Rows of the table of calls, computed. The expected values are those of the Python Standard Library Reference.
use Rattle.std.proofs.Common.{◌≡◌, ℕ, refl, pos, negsuc, Ok, Err, [], ◌∷◌, List, true, false, codes}
use Rattle.py_value.specs.declared.builtin.Builtin.TheVariants.{Len, Range, Input, Exit}
use Rattle.py_value.specs.declared.builtin.Method.TheVariants.{Append, Pop, Get, StartsWith, Join, Split}
use Rattle.py_value.specs.declared.cause.Cause.TheVariants.{BadArgument, InvalidLiteral, ZeroStep, IntegerTooLarge, NoInput, TooManyItems, EmptySeparator, PopIndex, UnhashableKey}
use Rattle.py_value.specs.declared.exception.ExcKind.TheVariants.{SystemExit, KeyError}
use Rattle.py_value.specs.Causes.{raised_by}
use Rattle.py_value.specs.Plain.{none_value, bool_value, int_value, str_value, tuple_of, list_at, dict_at, argument, list_object, dict_object, PlainHeap}
use Rattle.py_builtins.specs.Arguments.{Answer}
use Rattle.py_builtins.specs.Methods.{method_of, no_attribute, texts}
use Rattle.py_builtins.specs.Builtins.{signed, builtin_of}

-- numbers in texts
five : signed (codes "5") ≡ Ok (pos 5)
five = refl

minus : signed (codes "-12") ≡ Ok (negsuc 11)
minus = refl

minus_zero : signed (codes "-0") ≡ Ok (pos 0)
minus_zero = refl

blank_after : signed (codes "+07 ") ≡ Ok (pos 7)
blank_after = refl

no_digit : signed (codes "-") ≡ Err InvalidLiteral
no_digit = refl

underscore : signed (codes "1_0") ≡ Err InvalidLiteral
underscore = refl

two_numbers : signed (codes "1 2") ≡ Err InvalidLiteral
two_numbers = refl

least : signed (codes "-9223372036854775808") ≡ Ok (negsuc 9223372036854775807)
least = refl

too_large : signed (codes "9223372036854775808") ≡ Err IntegerTooLarge
too_large = refl

-- the calls of lists and dicts
abbrev heap : PlainHeap
heap = list_object (int_value (pos 1) ∷ int_value (pos 2) ∷ int_value (pos 3) ∷ []) ∷ dict_object ((str_value (codes "a"), int_value (pos 1)) ∷ (str_value (codes "b"), int_value (pos 2)) ∷ []) ∷ []

appends : method_of Append (list_at 0) (none_value ∷ []) (list_object [] ∷ []) ≡ Ok (none_value, list_object (none_value ∷ []) ∷ [])
appends = refl

pops_last : method_of Pop (list_at 0) [] (list_object (int_value (pos 1) ∷ int_value (pos 2) ∷ []) ∷ []) ≡ Ok (int_value (pos 2), list_object (int_value (pos 1) ∷ []) ∷ [])
pops_last = refl

pops_first : method_of Pop (list_at 0) (bool_value false ∷ []) (list_object (int_value (pos 1) ∷ int_value (pos 2) ∷ []) ∷ []) ≡ Ok (int_value (pos 1), list_object (int_value (pos 2) ∷ []) ∷ [])
pops_first = refl

pops_nothing : method_of Pop (list_at 0) [] (list_object [] ∷ []) ≡ Err (raised_by PopIndex)
pops_nothing = refl

pops_outside : method_of Pop (list_at 0) (int_value (negsuc 3) ∷ []) heap ≡ Err (raised_by PopIndex)
pops_outside = refl

pops_key : method_of Pop (dict_at 0) (str_value (codes "a") ∷ []) (dict_object ((str_value (codes "a"), int_value (pos 1)) ∷ (str_value (codes "b"), int_value (pos 2)) ∷ []) ∷ []) ≡ Ok (int_value (pos 1), dict_object ((str_value (codes "b"), int_value (pos 2)) ∷ []) ∷ [])
pops_key = refl

pops_absent : method_of Pop (dict_at 1) (str_value (codes "c") ∷ []) heap ≡ Err (record { kind = KeyError; arg = argument (str_value (codes "c")) })
pops_absent = refl

pops_bool : method_of Pop (dict_at 1) (bool_value true ∷ none_value ∷ []) heap ≡ Err (raised_by UnhashableKey)
pops_bool = refl

gets : method_of Get (dict_at 1) (str_value (codes "b") ∷ []) heap ≡ Ok (int_value (pos 2), heap)
gets = refl

gets_none : method_of Get (dict_at 1) (int_value (pos 1) ∷ []) heap ≡ Ok (none_value, heap)
gets_none = refl

has_no_method : method_of Append (int_value (pos 1)) [] [] ≡ Err (no_attribute (codes "append"))
has_no_method = refl

-- the calls of texts
abbrev new_texts : List (List ℕ) → Answer
new_texts ts = Ok (list_at 0, list_object (texts ts) ∷ [])

splits : method_of Split (str_value (codes " a  bc\n")) [] [] ≡ new_texts (codes "a" ∷ codes "bc" ∷ [])
splits = refl

splits_nothing : method_of Split (str_value []) [] [] ≡ new_texts []
splits_nothing = refl

splits_at : method_of Split (str_value (codes "a,,b,")) (str_value (codes ",") ∷ []) [] ≡ new_texts (codes "a" ∷ [] ∷ codes "b" ∷ [] ∷ [])
splits_at = refl

splits_leftmost : method_of Split (str_value (codes "aaa")) (str_value (codes "aa") ∷ []) [] ≡ new_texts ([] ∷ codes "a" ∷ [])
splits_leftmost = refl

splits_empty : method_of Split (str_value []) (str_value (codes ",") ∷ []) [] ≡ new_texts ([] ∷ [])
splits_empty = refl

no_separator : method_of Split (str_value (codes "a")) (str_value [] ∷ []) [] ≡ Err (raised_by EmptySeparator)
no_separator = refl

joins : method_of Join (str_value (codes ", ")) (tuple_of (str_value (codes "a") ∷ str_value (codes "b") ∷ []) ∷ []) [] ≡ Ok (str_value (codes "a, b"), [])
joins = refl

joins_numbers : method_of Join (str_value []) (list_at 0 ∷ []) heap ≡ Err (raised_by BadArgument)
joins_numbers = refl

starts : method_of StartsWith (str_value (codes "abc")) (str_value (codes "ab") ∷ []) [] ≡ Ok (bool_value true, [])
starts = refl

starts_not : method_of StartsWith (str_value (codes "a")) (str_value (codes "ab") ∷ []) [] ≡ Ok (bool_value false, [])
starts_not = refl

-- the built-ins
counts : (builtin_of Len (dict_at 1 ∷ []) heap []).answer ≡ Ok (int_value (pos 2), heap)
counts = refl

zero_step : (builtin_of Range (int_value (pos 0) ∷ int_value (pos 4) ∷ int_value (pos 0) ∷ []) [] []).answer ≡ Err (raised_by ZeroStep)
zero_step = refl

range_too_long : (builtin_of Range (int_value (pos 1048577) ∷ []) [] []).answer ≡ Err (raised_by TooManyItems)
range_too_long = refl

exits : (builtin_of Exit (int_value (pos 258) ∷ []) [] []).answer ≡ Err (record { kind = SystemExit; arg = argument (int_value (pos 258)) })
exits = refl

no_input : builtin_of Input [] [] [] ≡ record { answer = Err (raised_by NoInput); written = []; left = [] }
no_input = refl
