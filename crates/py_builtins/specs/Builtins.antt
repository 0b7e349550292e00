-- What a built-in gives, writes and reads. In the order of the table of calls (Python Library
-- Reference, "Built-in Functions").
--     Done, quiet                       what a call does, and one that neither writes nor reads
--     str_texts, line_of, print_of      `print(..)`
--     size_of, len_of                   `len(x)`
--     is_before .. range_of             `range(..)`
--     str_of, repr_of                   `str(x)`, `repr(x)`
--     is_blank .. int_of                `int(x)`
--     first_line .. input_of            `input()`, `input(p)`
--     raised_with, exit_of              `sys.exit()`, `sys.exit(x)`
--     exception_of                      a kind of exceptions, `K()`, `K(x)`
--     builtin_of                        a built-in, called
use Rattle.std.specs.Prelude.{ℕ, zero, suc, ◌+◌, ◌*◌, ◌-◌, ◌||◌, ◌&&◌, nat_eq, nat_le, nat_lt, Bool, true, false, if◌then◌else◌, ℤ, pos, negsuc, ◌+ℤ◌, ◌*ℤ◌, List, [], ◌∷◌, ◌++◌, length, drop, Option, Some, None, Result, Ok, Err, encode_utf8_all}
use Rattle.std.specs.Ordering.{int_cmp, is_lt}
use Rattle.std.specs.Str.{chars, is_utf8}
use Rattle.py_value.specs.declared.builtin.Builtin.{Builtin}
use Rattle.py_value.specs.declared.builtin.Builtin.TheVariants.{Print, Len, Range, Str, Repr, Int, Input, Exit}
use Rattle.py_value.specs.declared.cause.Cause.{Cause}
use Rattle.py_value.specs.declared.cause.Cause.TheVariants.{WrongArgumentCount, BadArgument, InvalidLiteral, ZeroStep, InputNotUtf8, NoInput, TooDeep, TooManyItems}
use Rattle.py_value.specs.declared.exception.ExcKind.{ExcKind}
use Rattle.py_value.specs.declared.exception.ExcKind.TheVariants.{SystemExit}
use Rattle.py_value.specs.Answers.{◌>>=◌, in_words}
use Rattle.py_value.specs.Causes.{raised_by}
use Rattle.py_value.specs.Heaps.{list_items, dict_pairs}
use Rattle.py_value.specs.Numbers.{number_of, exact, is_zero}
use Rattle.py_value.specs.Plain.{PlainValue, none_value, int_value, str_value, tuple_value, list_at, dict_at, exc_value, listed, no_argument, argument, may_nest, PlainHeap, PlainRaised}
use Rattle.py_value.specs.Sequences.{most_items}
use Rattle.py_builtins.specs.Arguments.{Answer, raises, only, for_one}
use Rattle.py_builtins.specs.Methods.{new_list, joined_by}
use Rattle.py_builtins.specs.Texts.{str_text, repr_text}

-- What a call does: its answer, the bytes that it writes, and the bytes of the input that it
-- leaves. It writes and reads also where it raises.
pub record Done : Type 0 where
  pub answer : Answer
  pub written : List ℕ
  pub left : List ℕ

-- a call that neither writes nor reads
abbrev pub quiet : Answer → List ℕ → Done
quiet answer input = record { answer = answer; written = []; left = input }

-- the texts of values, or what the first one that has none raises
abbrev pub str_texts : List PlainValue → PlainHeap → Result (List (List ℕ)) PlainRaised
str_texts [] h = Ok []
str_texts (v ∷ vs) h = str_text v h >>= λ t. str_texts vs h >>= λ ts. Ok (t ∷ ts)

-- the line of some texts: a blank between each two, and a line end
abbrev pub line_of : List (List ℕ) → List ℕ
line_of ts = joined_by (32 ∷ []) ts ++ 10 ∷ []

-- `print(..)`: takes all texts, and then writes them
abbrev pub printed : Result (List (List ℕ)) PlainRaised → PlainHeap → List ℕ → Done
printed (Ok ts) h input =
    record { answer = Ok (none_value, h); written = encode_utf8_all (line_of ts); left = input }
printed (Err raised) h input = quiet (Err raised) input

-- `print(..)` of these arguments
abbrev pub print_of : List PlainValue → PlainHeap → List ℕ → Done
print_of args h input = printed (str_texts args h) h input

-- `len(x)`
abbrev pub size_of : PlainValue → PlainHeap → Result ℕ Cause
size_of (str_value s) h = Ok (length s)
size_of (tuple_value vs) h = Ok (length (listed vs))
size_of (list_at a) h = Ok (length (list_items h a))
size_of (dict_at a) h = Ok (length (dict_pairs h a))
size_of x h = Err BadArgument

-- `len(x)` as a call
abbrev pub len_of : List PlainValue → PlainHeap → Answer
len_of args h =
    for_one (only args) (λ x. in_words raised_by (size_of x h >>= λ n. Ok (int_value (pos n), h)))

-- whether a number stands before a bound, in the direction of the step
abbrev pub is_before : ℤ → ℤ → ℤ → Bool
is_before (pos step) n bound = is_lt (int_cmp n bound)
is_before (negsuc step) n bound = is_lt (int_cmp bound n)

-- the numbers from one on that stand before a bound, by steps; at most so many
unfoldable pub numbers_before : ℕ → ℤ → ℤ → ℤ → List PlainValue
numbers_before zero bound step n = []
numbers_before (suc most) bound step n =
    elim (is_before step n bound)
    [ true ↦ int_value n ∷ numbers_before most bound step (n +ℤ step) | false ↦ [] ]

-- whether the numbers from one on are more than a list holds: the one after so many still stands
-- before the bound
abbrev pub is_too_long : ℤ → ℤ → ℤ → Bool
is_too_long step from to = is_before step (from +ℤ step *ℤ pos most_items) to

-- a new list of the numbers, where they are not too many
abbrev pub range_between : Option ℤ → Option ℤ → Option ℤ → PlainHeap → Answer
range_between (Some from) (Some to) (Some step) h =
    if is_zero step then raises ZeroStep else
    (if is_too_long step from to then raises TooManyItems else
    new_list (numbers_before most_items to step from) h)
range_between _ _ _ h = raises BadArgument

-- where the numbers begin and end, and their step: a first bound of 0 and a step of 1 may be left
-- out
abbrev pub bounds_of : List PlainValue → Option (Option ℤ × Option ℤ × Option ℤ)
bounds_of (n ∷ []) = Some (Some (pos 0), number_of n, Some (pos 1))
bounds_of (a ∷ b ∷ []) = Some (number_of a, number_of b, Some (pos 1))
bounds_of (a ∷ b ∷ s ∷ []) = Some (number_of a, number_of b, number_of s)
bounds_of _ = None

-- the list between bounds, where there are one to three arguments
abbrev pub range_within : Option (Option ℤ × Option ℤ × Option ℤ) → PlainHeap → Answer
range_within (Some bounds) h = range_between bounds.0 bounds.1 bounds.2 h
range_within None h = raises WrongArgumentCount

-- `range(n)`, `range(a, b)`, `range(a, b, s)`
abbrev pub range_of : List PlainValue → PlainHeap → Answer
range_of args h = range_within (bounds_of args) h

-- `str(x)`
abbrev pub str_of : List PlainValue → PlainHeap → Answer
str_of args h = for_one (only args) (λ x. str_text x h >>= λ t. Ok (str_value t, h))

-- `repr(x)`
abbrev pub repr_of : List PlainValue → PlainHeap → Answer
repr_of args h = for_one (only args) (λ x. repr_text x h >>= λ t. Ok (str_value t, h))

-- whether a character is a blank: the space or the tab
abbrev pub is_blank : ℕ → Bool
is_blank c = nat_eq c 32 || nat_eq c 9

-- whether a character is an ASCII digit
abbrev pub is_digit : ℕ → Bool
is_digit c = nat_le 48 c && nat_le c 57

-- whether all are blanks
abbrev pub are_blanks : List ℕ → Bool
are_blanks [] = true
are_blanks (c ∷ cs) = is_blank c && are_blanks cs

-- the number of some digits with blanks after them, where so much stands before the next digit
abbrev pub digits_then_blanks : ℕ → List ℕ → Option ℕ
digits_then_blanks n [] = Some n
digits_then_blanks n (c ∷ cs) =
    if is_digit c then digits_then_blanks (10 * n + (c - 48)) cs else
    if are_blanks (c ∷ cs) then Some n else None

-- a number below zero, or zero
abbrev pub negated : ℕ → ℤ
negated zero = pos 0
negated (suc n) = negsuc n

-- the number of one digit or more with blanks after them
abbrev pub unsigned : List ℕ → Option ℕ
unsigned [] = None
unsigned (c ∷ cs) = if is_digit c then digits_then_blanks 0 (c ∷ cs) else None

-- a number with its sign, where it fits 64 bits
abbrev pub with_sign : Bool → Option ℕ → Result ℤ Cause
with_sign negative None = Err InvalidLiteral
with_sign false (Some n) = exact (pos n)
with_sign true (Some n) = exact (negated n)

-- the number of an optional sign and digits
abbrev pub signed : List ℕ → Result ℤ Cause
signed [] = Err InvalidLiteral
signed (c ∷ cs) =
    if nat_eq c 45 then with_sign true (unsigned cs) else
    if nat_eq c 43 then with_sign false (unsigned cs) else with_sign false (unsigned (c ∷ cs))

-- the characters after the blanks in front
abbrev pub without_blanks : List ℕ → List ℕ
without_blanks [] = []
without_blanks (c ∷ cs) = if is_blank c then without_blanks cs else c ∷ cs

-- `int(x)`: an optional sign and ASCII digits, with blanks round it
abbrev pub number_in : PlainValue → Option ℤ → Result ℤ Cause
number_in x (Some n) = Ok n
number_in (str_value s) None = signed (without_blanks s)
number_in x None = Err BadArgument

-- `int(x)` as a call
abbrev pub int_of : List PlainValue → PlainHeap → Answer
int_of args h =
    for_one (only args)
    (λ x. in_words raised_by (number_in x (number_of x) >>= λ n. Ok (int_value n, h)))

-- the bytes up to the first line end
abbrev pub first_line : List ℕ → List ℕ
first_line [] = []
first_line (b ∷ bs) = if nat_eq b 10 then [] else b ∷ first_line bs

-- the bytes after the first line end
abbrev pub after_line : List ℕ → List ℕ
after_line [] = []
after_line (b ∷ bs) = if nat_eq b 10 then bs else after_line bs

-- what a reading gives, and the input that it leaves
abbrev pub line_read : List ℕ → Result (List ℕ) Cause × List ℕ
line_read [] = (Err NoInput, [])
line_read (b ∷ bs) =
    let line = first_line (b ∷ bs) in
    if nat_lt most_items (length line) then (Err TooManyItems, drop (suc most_items) (b ∷ bs)) else
    ((if is_utf8 line then Ok (chars line) else Err InputNotUtf8), after_line (b ∷ bs))

-- `input()`, `input(p)`: writes the text of p, and reads a line
abbrev pub asked : Result (List ℕ) PlainRaised → PlainHeap → List ℕ → Done
asked (Ok prompt) h input = record {
  answer = in_words raised_by ((line_read input).0 >>= λ s. Ok (str_value s, h));
  written = encode_utf8_all prompt;
  left = (line_read input).1;
}
asked (Err raised) h input = quiet (Err raised) input

-- `input(..)` of these arguments
abbrev pub input_of : List PlainValue → PlainHeap → List ℕ → Done
input_of [] h input = asked (Ok []) h input
input_of (p ∷ []) h input = asked (str_text p h) h input
input_of _ h input = quiet (raises WrongArgumentCount) input

-- the exception of a kind, with the value as its argument, where it may be one
abbrev pub raised_with : ExcKind → List PlainValue → PlainRaised
raised_with kind [] = record { kind = kind; arg = no_argument }
raised_with kind (x ∷ []) =
    if may_nest x then record { kind = kind; arg = argument x } else raised_by TooDeep
raised_with kind _ = raised_by WrongArgumentCount

-- `sys.exit()`, `sys.exit(x)`
abbrev pub exit_of : List PlainValue → PlainHeap → Answer
exit_of args h = Err (raised_with SystemExit args)

-- a kind `K()`, `K(x)`
abbrev pub exception_of : ExcKind → List PlainValue → Result PlainValue PlainRaised
exception_of kind [] = Ok (exc_value kind no_argument)
exception_of kind (x ∷ []) =
    if may_nest x then Ok (exc_value kind (argument x)) else Err (raised_by TooDeep)
exception_of kind _ = Err (raised_by WrongArgumentCount)

-- a built-in, called with these arguments, on this heap and this input
abbrev pub builtin_of : Builtin → List PlainValue → PlainHeap → List ℕ → Done
builtin_of Print args h input = print_of args h input
builtin_of Len args h input = quiet (len_of args h) input
builtin_of Range args h input = quiet (range_of args h) input
builtin_of Str args h input = quiet (str_of args h) input
builtin_of Repr args h input = quiet (repr_of args h) input
builtin_of Int args h input = quiet (int_of args h) input
builtin_of Input args h input = input_of args h input
builtin_of Exit args h input = quiet (exit_of args h) input
