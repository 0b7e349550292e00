-- Equality and order of values (Python Language Reference, 6.10): walks from left to right, through
-- at most 200 values inside each other.
--     are_equal, are_equal_dicts, are_equal_arguments     what two values hold, part by part
--     is_same_atom                                        two values that hold no others
--     equal_step, equal_within                            `==`
--     order_of_texts, order_of_items, order_of_numbers    the first unequal part decides
--     order_step, order_within                            `<` and its kin
--     is_item                                             `in`
use Rattle.std.specs.Prelude.{ℕ, zero, suc, ◌==◌, nat_eq, ℤ, Bool, true, false, ◌&&◌, if◌then◌else◌, List, [], ◌∷◌, length, Option, Some, None, Result, Ok, Err}
use Rattle.std.specs.Ordering.{int_eq, int_cmp, nat_cmp}
use Rattle.std.specs.declared.cmp.Ordering.{Ordering}
use Rattle.std.specs.declared.cmp.Ordering.TheVariants.{Less, Equal, Greater}
pub use Rattle.py_text.specs.Comparison.{order_of_texts}
use Rattle.py_value.specs.declared.builtin.Builtin.{Builtin}
use Rattle.py_value.specs.declared.builtin.Builtin.TheVariants.{Print, Len, Range, Str, Repr, Int, Input, Exit}
use Rattle.py_value.specs.declared.cause.Cause.{Cause}
use Rattle.py_value.specs.declared.cause.Cause.TheVariants.{TooDeep, UnsupportedOperand}
use Rattle.py_value.specs.declared.value.FuncId.{FuncId}
use Rattle.py_value.specs.declared.value.ModId.{ModId}
use Rattle.py_value.specs.declared.value.ModId.TheVariants.{Loaded, Sys}
use Rattle.py_value.specs.ExcKind.{is_same_kind}
use Rattle.py_value.specs.Answers.{◌>>=◌}
use Rattle.py_value.specs.Plain.{PlainValue, none_value, str_value, tuple_value, list_at, dict_at, func_value, module_value, kind_value, exc_value, builtin_value, PlainArgument, no_argument, argument, listed, PlainHeap}
use Rattle.py_value.specs.Heaps.{list_items, dict_pairs}
use Rattle.py_value.specs.Keys.{is_same_text, value_at}
use Rattle.py_value.specs.Numbers.{number_of}

-- goes on where two parts were the same
abbrev pub if_same : Bool → Result Bool Cause → Result Bool Cause
if_same true rest = rest
if_same false rest = Ok false

-- item by item
abbrev pub are_equal_items : (PlainValue → PlainValue → Result Bool Cause) → List PlainValue
    → List PlainValue → Result Bool Cause
are_equal_items equal [] ys = Ok true
are_equal_items equal (x ∷ xs) [] = Ok true
are_equal_items equal (x ∷ xs) (y ∷ ys) =
    equal x y >>= λ same. if_same same (are_equal_items equal xs ys)

-- sequences of unequal length differ before any item is compared
abbrev pub are_equal : (PlainValue → PlainValue → Result Bool Cause) → List PlainValue
    → List PlainValue → Result Bool Cause
are_equal equal xs ys = if_same (length xs == length ys) (are_equal_items equal xs ys)

-- a value and the one at the same key
abbrev pub is_equal_at : (PlainValue → PlainValue → Result Bool Cause) → PlainValue
    → Option PlainValue → Result Bool Cause
is_equal_at equal v None = Ok false
is_equal_at equal v (Some w) = equal v w

-- the pairs of one dict in another, whatever their order
abbrev pub are_equal_pairs : (PlainValue → PlainValue → Result Bool Cause)
    → List (PlainValue × PlainValue) → List (PlainValue × PlainValue) → Result Bool Cause
are_equal_pairs equal [] qs = Ok true
are_equal_pairs equal (p ∷ ps) qs =
    is_equal_at equal p.1 (value_at p.0 qs) >>= λ same. if_same same (are_equal_pairs equal ps qs)

-- dicts of unequal length differ before any pair is compared
abbrev pub are_equal_dicts : (PlainValue → PlainValue → Result Bool Cause)
    → List (PlainValue × PlainValue) → List (PlainValue × PlainValue) → Result Bool Cause
are_equal_dicts equal ps qs = if_same (length ps == length qs) (are_equal_pairs equal ps qs)

-- whether the arguments of two exceptions are equal; none equals none alone
abbrev pub are_equal_arguments : (PlainValue → PlainValue → Result Bool Cause) → PlainArgument
    → PlainArgument → Result Bool Cause
are_equal_arguments equal no_argument no_argument = Ok true
are_equal_arguments equal (argument v) (argument w) = equal v w
are_equal_arguments equal _ _ = Ok false

-- whether both are one function
abbrev pub is_same_function : FuncId → FuncId → Bool
is_same_function f g = nat_eq f.module g.module && nat_eq f.unit g.unit

-- whether both are one place, or neither is there
abbrev pub is_same_place : Option ℕ → Option ℕ → Bool
is_same_place None None = true
is_same_place (Some a) (Some b) = nat_eq a b
is_same_place _ _ = false

-- whether both are one module
abbrev pub is_same_module : ModId → ModId → Bool
is_same_module (Loaded m) (Loaded n) = nat_eq m n
is_same_module Sys Sys = true
is_same_module _ _ = false

-- the number of a built-in function
abbrev pub builtin_number : Builtin → ℕ
builtin_number Print = 0
builtin_number Len = 1
builtin_number Range = 2
builtin_number Str = 3
builtin_number Repr = 4
builtin_number Int = 5
builtin_number Input = 6
builtin_number Exit = 7

-- whether both are one built-in function
abbrev pub is_same_builtin : Builtin → Builtin → Bool
is_same_builtin f g = nat_eq (builtin_number f) (builtin_number g)

-- whether both are numbers, and of one value
abbrev pub is_same_number : Option ℤ → Option ℤ → Bool
is_same_number (Some x) (Some y) = int_eq x y
is_same_number _ _ = false

-- whether two values that hold no others are the same: numbers by value, else none of unequal kinds
abbrev pub is_same_atom : PlainValue → PlainValue → Bool
is_same_atom none_value none_value = true
is_same_atom (func_value f a) (func_value g b) = is_same_function f g && is_same_place a b
is_same_atom (module_value m) (module_value k) = is_same_module m k
is_same_atom (kind_value k) (kind_value l) = is_same_kind k l
is_same_atom (builtin_value f) (builtin_value g) = is_same_builtin f g
is_same_atom a b = is_same_number (number_of a) (number_of b)

-- `==` of two values, where `equal` compares the values inside them
abbrev pub equal_step : (PlainValue → PlainValue → Result Bool Cause) → PlainHeap → PlainValue
    → PlainValue → Result Bool Cause
equal_step equal h (str_value s) (str_value t) = Ok (is_same_text s t)
equal_step equal h (tuple_value vs) (tuple_value ws) = are_equal equal (listed vs) (listed ws)
equal_step equal h (list_at a) (list_at b) = are_equal equal (list_items h a) (list_items h b)
equal_step equal h (dict_at a) (dict_at b) = are_equal_dicts equal (dict_pairs h a) (dict_pairs h b)
equal_step equal h (exc_value k a) (exc_value l b) =
    if_same (is_same_kind k l) (are_equal_arguments equal a b)
equal_step equal h a b = Ok (is_same_atom a b)

-- `==`, going through at most so many values inside each other
unfoldable pub equal_within : ℕ → PlainHeap → PlainValue → PlainValue → Result Bool Cause
equal_within zero h a b = Err TooDeep
equal_within (suc n) h a b = equal_step (equal_within n h) h a b

-- by the first unequal item, else by length
abbrev pub order_of_items : (PlainValue → PlainValue → Result Bool Cause)
    → (PlainValue → PlainValue → Result Ordering Cause) → List PlainValue → List PlainValue
    → Result Ordering Cause
order_of_items equal order [] [] = Ok Equal
order_of_items equal order [] (y ∷ ys) = Ok Less
order_of_items equal order (x ∷ xs) [] = Ok Greater
order_of_items equal order (x ∷ xs) (y ∷ ys) =
    equal x y >>= λ same. if same then order_of_items equal order xs ys else order x y

-- the order of two numbers
abbrev pub order_of_numbers : Option ℤ → Option ℤ → Result Ordering Cause
order_of_numbers (Some x) (Some y) = Ok (int_cmp x y)
order_of_numbers _ _ = Err UnsupportedOperand

-- the order of two values, where `equal` and `order` compare the values inside them
abbrev pub order_step : (PlainValue → PlainValue → Result Bool Cause)
    → (PlainValue → PlainValue → Result Ordering Cause) → PlainHeap → PlainValue → PlainValue
    → Result Ordering Cause
order_step equal order h (str_value s) (str_value t) = Ok (order_of_texts s t)
order_step equal order h (tuple_value vs) (tuple_value ws) =
    order_of_items equal order (listed vs) (listed ws)
order_step equal order h (list_at a) (list_at b) =
    order_of_items equal order (list_items h a) (list_items h b)
order_step equal order h a b = order_of_numbers (number_of a) (number_of b)

-- the order, going through at most so many values inside each other
unfoldable pub order_within : ℕ → PlainHeap → PlainValue → PlainValue → Result Ordering Cause
order_within zero h a b = Err TooDeep
order_within (suc n) h a b = order_step (equal_within n h) (order_within n h) h a b

-- the most values inside each other that a comparison goes through, the innermost counted too
abbrev pub most_levels : ℕ
most_levels = 200

-- whether some item equals a value
abbrev pub is_item : (PlainValue → PlainValue → Result Bool Cause) → PlainValue → List PlainValue
    → Result Bool Cause
is_item equal v [] = Ok false
is_item equal v (x ∷ xs) = equal v x >>= λ same. if same then Ok true else is_item equal v xs
