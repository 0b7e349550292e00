-- Displays: how values are written inside others, and by `repr`.
--     kind_name, builtin_name            the names of kinds of exceptions and of built-ins
--     has .. quoted                      a text in its marks
--     further, separated                 a comma and a blank between two
--     tuple_display .. dict_display      tuples, lists and dicts
--     exception_display                  exceptions
--     display_step                       any value, where the values inside it are displayed so
use Rattle.std.specs.Prelude.{ℕ, ◌+◌, ◌/◌, ◌%◌, nat_lt, nat_eq, Bool, true, false, ◌&&◌, ◌||◌, not, if◌then◌else◌, List, [], ◌∷◌, ◌++◌, codes}
use Rattle.std.specs.Fmt.{signed_decimal}
use Rattle.py_value.specs.declared.builtin.Builtin.{Builtin}
use Rattle.py_value.specs.declared.builtin.Builtin.TheVariants.{Print, Len, Range, Str, Repr, Int, Input, Exit}
use Rattle.py_value.specs.declared.exception.ExcKind.{ExcKind}
use Rattle.py_value.specs.declared.exception.ExcKind.TheVariants.{BaseException, SystemExit, Exception, ArithmeticError, ZeroDivisionError, OverflowError, AssertionError, AttributeError, EOFError, ImportError, ModuleNotFoundError, LookupError, IndexError, KeyError, MemoryError, NameError, UnboundLocalError, RuntimeError, RecursionError, TypeError, ValueError}
use Rattle.py_value.specs.Plain.{PlainValue, none_value, bool_value, int_value, str_value, tuple_value, list_at, dict_at, func_value, module_value, kind_value, exc_value, builtin_value, PlainArgument, no_argument, argument, listed, PlainHeap}
use Rattle.py_value.specs.Heaps.{list_items, dict_pairs}
use Rattle.py_builtins.specs.Writing.{Writing, whole, ◌▸◌}

-- the name of a kind of exceptions
abbrev pub kind_name : ExcKind → List ℕ
kind_name BaseException = codes "BaseException"
kind_name SystemExit = codes "SystemExit"
kind_name Exception = codes "Exception"
kind_name ArithmeticError = codes "ArithmeticError"
kind_name ZeroDivisionError = codes "ZeroDivisionError"
kind_name OverflowError = codes "OverflowError"
kind_name AssertionError = codes "AssertionError"
kind_name AttributeError = codes "AttributeError"
kind_name EOFError = codes "EOFError"
kind_name ImportError = codes "ImportError"
kind_name ModuleNotFoundError = codes "ModuleNotFoundError"
kind_name LookupError = codes "LookupError"
kind_name IndexError = codes "IndexError"
kind_name KeyError = codes "KeyError"
kind_name MemoryError = codes "MemoryError"
kind_name NameError = codes "NameError"
kind_name UnboundLocalError = codes "UnboundLocalError"
kind_name RuntimeError = codes "RuntimeError"
kind_name RecursionError = codes "RecursionError"
kind_name TypeError = codes "TypeError"
kind_name ValueError = codes "ValueError"

-- the name of a built-in function
abbrev pub builtin_name : Builtin → List ℕ
builtin_name Print = codes "print"
builtin_name Len = codes "len"
builtin_name Range = codes "range"
builtin_name Str = codes "str"
builtin_name Repr = codes "repr"
builtin_name Int = codes "int"
builtin_name Input = codes "input"
builtin_name Exit = codes "exit"

-- whether a list has a character or an address
abbrev pub has : ℕ → List ℕ → Bool
has c [] = false
has c (d ∷ ds) = nat_eq c d || has c ds

-- the mark of a text: `'`, or `"` where it has `'` and no `"`
abbrev pub mark_of : List ℕ → ℕ
mark_of s = if has 39 s && not (has 34 s) then 34 else 39

-- a digit from `0` to `f`
abbrev pub hex_digit : ℕ → ℕ
hex_digit d = if nat_lt d 10 then 48 + d else 87 + d

-- a character between two marks: after a backslash the backslash, the mark, and `n`, `r`, `t` for a
-- line end, a carriage return and a tab; other characters below 32 and 127 as `\xhh`; all others
-- stand as they are
abbrev pub escaped : ℕ → ℕ → List ℕ
escaped mark c =
    if nat_eq c 92 || nat_eq c mark then 92 ∷ c ∷ [] else
    (if nat_eq c 10 then 92 ∷ 110 ∷ [] else
    (if nat_eq c 13 then 92 ∷ 114 ∷ [] else
    (if nat_eq c 9 then 92 ∷ 116 ∷ [] else
    (if nat_lt c 32 || nat_eq c 127
    then 92 ∷ 120 ∷ hex_digit (c / 16) ∷ hex_digit (c % 16) ∷ [] else c ∷ []))))

-- all characters between two marks
abbrev pub all_escaped : ℕ → List ℕ → List ℕ
all_escaped mark [] = []
all_escaped mark (c ∷ cs) = escaped mark c ++ all_escaped mark cs

-- a text in its marks
abbrev pub quoted : List ℕ → List ℕ
quoted s = mark_of s ∷ all_escaped (mark_of s) s ++ mark_of s ∷ []

-- each after a comma and a blank
abbrev pub further : {A : Type 0} → (A → Writing) → List A → Writing
further show [] = whole []
further show (x ∷ xs) = whole (codes ", ") ▸ show x ▸ further show xs

-- with a comma and a blank between two
abbrev pub separated : {A : Type 0} → (A → Writing) → List A → Writing
separated show [] = whole []
separated show (x ∷ xs) = show x ▸ further show xs

-- a tuple of one item ends in a comma
abbrev pub tuple_end : List PlainValue → List ℕ
tuple_end (v ∷ []) = codes ",)"
tuple_end _ = codes ")"

-- a tuple
abbrev pub tuple_display : (PlainValue → Writing) → List PlainValue → Writing
tuple_display show vs = whole (codes "(") ▸ separated show vs ▸ whole (tuple_end vs)

-- a list
abbrev pub list_display : (PlainValue → Writing) → List PlainValue → Writing
list_display show vs = whole (codes "[") ▸ separated show vs ▸ whole (codes "]")

-- a key with its value
abbrev pub pair_display : (PlainValue → Writing) → PlainValue × PlainValue → Writing
pair_display show p = show p.0 ▸ whole (codes ": ") ▸ show p.1

-- a dict
abbrev pub dict_display : (PlainValue → Writing) → List (PlainValue × PlainValue) → Writing
dict_display show ps = whole (codes "{") ▸ separated (pair_display show) ps ▸ whole (codes "}")

-- the argument of an exception, where it has one
abbrev pub argument_display : (PlainValue → Writing) → PlainArgument → Writing
argument_display show no_argument = whole []
argument_display show (argument v) = show v

-- an exception
abbrev pub exception_display : (PlainValue → Writing) → ExcKind → PlainArgument → Writing
exception_display show kind a =
    whole (kind_name kind) ▸ whole (codes "(") ▸ argument_display show a ▸ whole (codes ")")

-- the display of a value inside the lists and dicts at these addresses, where `show` displays the
-- values inside it
abbrev pub display_step : (List ℕ → PlainValue → Writing) → PlainHeap → List ℕ → PlainValue
    → Writing
display_step show h inside none_value = whole (codes "None")
display_step show h inside (bool_value true) = whole (codes "True")
display_step show h inside (bool_value false) = whole (codes "False")
display_step show h inside (int_value n) = whole (signed_decimal n)
display_step show h inside (str_value s) = whole (quoted s)
display_step show h inside (tuple_value vs) = tuple_display (show inside) (listed vs)
-- a list or a dict inside itself isn't entered again
display_step show h inside (list_at a) =
    if has a inside then whole (codes "[...]") else
    list_display (show (inside ++ a ∷ [])) (list_items h a)
display_step show h inside (dict_at a) =
    if has a inside then whole (codes "{...}") else
    dict_display (show (inside ++ a ∷ [])) (dict_pairs h a)
display_step show h inside (func_value f defaults) = whole (codes "<function>")
display_step show h inside (module_value m) = whole (codes "<module>")
display_step show h inside (kind_value kind) =
    whole (codes "<class '" ++ kind_name kind ++ codes "'>")
display_step show h inside (exc_value kind a) = exception_display (show inside) kind a
display_step show h inside (builtin_value f) =
    whole (codes "<built-in function " ++ builtin_name f ++ codes ">")
