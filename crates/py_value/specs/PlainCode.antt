-- How plain values are told from each other: a code for each, by which a proof knows it again.
--     number_at                                   the number of a code
--     kind_at, builtin_at                         a kind of exceptions and a built-in by its number
--     code_bool .. code_module, bool_at ..        the parts of a value, and back
--     code_value, code_values, code_argument      a value, the items of a tuple, an argument
--     value_at, values_at, argument_at            what has a code
--     value_back, values_back, argument_back      each is what has its code
--     coded_values, coded_argument                the codes of tuples and of arguments
use Rattle.std.specs.Prelude.{◌≡◌, ℕ, zero, suc, nat_eq, ℤ, pos, negsuc, Bool, true, false, if◌then◌else◌, List, [], ◌∷◌, Option, Some, None}
use Rattle.std.proofs.Common.{refl, ap, sym, ◌∙◌}
use base.Stored.{Gv, gnil, gnum, gcons, Coded}
use Rattle.py_value.specs.declared.builtin.Builtin.{Builtin}
use Rattle.py_value.specs.declared.builtin.Builtin.TheVariants.{Print, Len, Range, Str, Repr, Int, Input, Exit}
use Rattle.py_value.specs.declared.exception.ExcKind.{ExcKind}
use Rattle.py_value.specs.declared.exception.ExcKind.TheVariants.{BaseException, SystemExit, Exception, ArithmeticError, ZeroDivisionError, OverflowError, AssertionError, AttributeError, EOFError, ImportError, ModuleNotFoundError, LookupError, IndexError, KeyError, MemoryError, NameError, UnboundLocalError, RuntimeError, RecursionError, TypeError, ValueError}
use Rattle.py_value.specs.declared.value.ModId.{ModId}
use Rattle.py_value.specs.declared.value.ModId.TheVariants.{Loaded, Sys}
use Rattle.py_value.specs.ExcKind.{kind_number}
use Rattle.py_value.specs.Plain.{PlainValue, none_value, bool_value, int_value, str_value, tuple_value, list_at, dict_at, func_value, module_value, kind_value, exc_value, builtin_value, PlainValues, no_values, value_then, PlainArgument, no_argument, argument}

-- the number of a code that is one
abbrev pub number_at : Gv → ℕ
number_at gnil = 0
number_at (gnum n) = n
number_at (gcons a b) = 0

-- the kind with a number
abbrev pub kind_at : ℕ → ExcKind
kind_at n =
    if nat_eq n 0 then BaseException else
    (if nat_eq n 1 then SystemExit else
    (if nat_eq n 2 then Exception else
    (if nat_eq n 3 then ArithmeticError else
    (if nat_eq n 4 then ZeroDivisionError else
    (if nat_eq n 5 then OverflowError else
    (if nat_eq n 6 then AssertionError else
    (if nat_eq n 7 then AttributeError else
    (if nat_eq n 8 then EOFError else
    (if nat_eq n 9 then ImportError else
    (if nat_eq n 10 then ModuleNotFoundError else
    (if nat_eq n 11 then LookupError else
    (if nat_eq n 12 then IndexError else
    (if nat_eq n 13 then KeyError else
    (if nat_eq n 14 then MemoryError else
    (if nat_eq n 15 then NameError else
    (if nat_eq n 16 then UnboundLocalError else
    (if nat_eq n 17 then RuntimeError else
    (if nat_eq n 18 then RecursionError else
    (if nat_eq n 19 then TypeError else ValueError)))))))))))))))))))

-- a kind is known again by its number
kind_back : (k : ExcKind) → kind_at (kind_number k) ≡ k
kind_back BaseException = refl
kind_back SystemExit = refl
kind_back Exception = refl
kind_back ArithmeticError = refl
kind_back ZeroDivisionError = refl
kind_back OverflowError = refl
kind_back AssertionError = refl
kind_back AttributeError = refl
kind_back EOFError = refl
kind_back ImportError = refl
kind_back ModuleNotFoundError = refl
kind_back LookupError = refl
kind_back IndexError = refl
kind_back KeyError = refl
kind_back MemoryError = refl
kind_back NameError = refl
kind_back UnboundLocalError = refl
kind_back RuntimeError = refl
kind_back RecursionError = refl
kind_back TypeError = refl
kind_back ValueError = refl

-- the number of a built-in function
abbrev pub number_of_builtin : Builtin → ℕ
number_of_builtin Print = 0
number_of_builtin Len = 1
number_of_builtin Range = 2
number_of_builtin Str = 3
number_of_builtin Repr = 4
number_of_builtin Int = 5
number_of_builtin Input = 6
number_of_builtin Exit = 7

-- the built-in function with a number
abbrev pub builtin_at : ℕ → Builtin
builtin_at n =
    if nat_eq n 0 then Print else
    (if nat_eq n 1 then Len else
    (if nat_eq n 2 then Range else
    (if nat_eq n 3 then Str else
    (if nat_eq n 4 then Repr else
    (if nat_eq n 5 then Int else (if nat_eq n 6 then Input else Exit))))))

-- a built-in function is known again by its number
builtin_back : (b : Builtin) → builtin_at (number_of_builtin b) ≡ b
builtin_back Print = refl
builtin_back Len = refl
builtin_back Range = refl
builtin_back Str = refl
builtin_back Repr = refl
builtin_back Int = refl
builtin_back Input = refl
builtin_back Exit = refl

-- the code of a truth
abbrev pub code_bool : Bool → Gv
code_bool false = gnil
code_bool true = gnum 0

-- the truth of a code
abbrev pub bool_at : Gv → Bool
bool_at (gnum n) = true
bool_at _ = false

-- a truth is known again by its code
bool_back : (b : Bool) → bool_at (code_bool b) ≡ b
bool_back false = refl
bool_back true = refl

-- the code of a whole number
abbrev pub code_int : ℤ → Gv
code_int (pos n) = gcons gnil (gnum n)
code_int (negsuc n) = gnum n

-- the whole number of a code
abbrev pub int_at : Gv → ℤ
int_at (gcons a g) = pos (number_at g)
int_at (gnum n) = negsuc n
int_at gnil = pos 0

-- a whole number is known again by its code
int_back : (n : ℤ) → int_at (code_int n) ≡ n
int_back (pos n) = refl
int_back (negsuc n) = refl

-- the code of a list of characters
abbrev pub code_numbers : List ℕ → Gv
code_numbers [] = gnil
code_numbers (n ∷ ns) = gcons (gnum n) (code_numbers ns)

-- the list of characters of a code
abbrev pub numbers_at : Gv → List ℕ
numbers_at (gcons a g) = number_at a ∷ numbers_at g
numbers_at _ = []

-- a list of characters is known again by its code
numbers_back : (ns : List ℕ) → numbers_at (code_numbers ns) ≡ ns
numbers_back [] = refl
numbers_back (n ∷ ns) = ap (λ ms. n ∷ ms) (numbers_back ns)

-- the code of an address, or of none
abbrev pub code_place : Option ℕ → Gv
code_place None = gnil
code_place (Some n) = gnum n

-- the address of a code, or none
abbrev pub place_at : Gv → Option ℕ
place_at (gnum n) = Some n
place_at _ = None

-- an address, or none, is known again by its code
place_back : (p : Option ℕ) → place_at (code_place p) ≡ p
place_back None = refl
place_back (Some n) = refl

-- the code of a module
abbrev pub code_module : ModId → Gv
code_module Sys = gnil
code_module (Loaded m) = gnum m

-- the module of a code
abbrev pub module_at : Gv → ModId
module_at (gnum m) = Loaded m
module_at _ = Sys

-- a module is known again by its code
module_back : (m : ModId) → module_at (code_module m) ≡ m
module_back Sys = refl
module_back (Loaded m) = refl

abbrev mutual
  -- the code of a value: the number of its form, and the code of what it holds
  pub code_value : PlainValue → Gv
  code_value none_value = gnil
  code_value (bool_value b) = gcons (gnum 0) (code_bool b)
  code_value (int_value n) = gcons (gnum 1) (code_int n)
  code_value (str_value s) = gcons (gnum 2) (code_numbers s)
  code_value (tuple_value vs) = gcons (gnum 3) (code_values vs)
  code_value (list_at a) = gcons (gnum 4) (gnum a)
  code_value (dict_at a) = gcons (gnum 5) (gnum a)
  code_value (func_value f a) =
      gcons (gnum 6) (gcons (gcons (gnum f.module) (gnum f.unit)) (code_place a))
  code_value (module_value m) = gcons (gnum 7) (code_module m)
  code_value (kind_value k) = gcons (gnum 8) (gnum (kind_number k))
  code_value (exc_value k a) = gcons (gnum 9) (gcons (gnum (kind_number k)) (code_argument a))
  code_value (builtin_value b) = gcons gnil (gnum (number_of_builtin b))

  -- the code of a tuple's items
  pub code_values : PlainValues → Gv
  code_values no_values = gnil
  code_values (value_then v vs) = gcons (code_value v) (code_values vs)

  -- the code of an exception's argument, or of none
  pub code_argument : PlainArgument → Gv
  code_argument no_argument = gnil
  code_argument (argument v) = gcons gnil (code_value v)

abbrev mutual
  -- the value of a code
  pub value_at : Gv → PlainValue
  value_at (gcons (gnum zero) g) = bool_value (bool_at g)
  value_at (gcons (gnum (suc zero)) g) = int_value (int_at g)
  value_at (gcons (gnum (suc (suc zero))) g) = str_value (numbers_at g)
  value_at (gcons (gnum (suc (suc (suc zero)))) g) = tuple_value (values_at g)
  value_at (gcons (gnum (suc (suc (suc (suc zero))))) g) = list_at (number_at g)
  value_at (gcons (gnum (suc (suc (suc (suc (suc zero)))))) g) = dict_at (number_at g)
  value_at (gcons (gnum (suc (suc (suc (suc (suc (suc zero))))))) (gcons (gcons m u) a)) =
      func_value (record { «module» = number_at m; unit = number_at u }) (place_at a)
  value_at (gcons (gnum (suc (suc (suc (suc (suc (suc (suc zero)))))))) g) =
      module_value (module_at g)
  value_at (gcons (gnum (suc (suc (suc (suc (suc (suc (suc (suc zero))))))))) g) =
      kind_value (kind_at (number_at g))
  value_at (gcons (gnum (suc (suc (suc (suc (suc (suc (suc (suc (suc zero)))))))))) (gcons k g)) =
      exc_value (kind_at (number_at k)) (argument_at g)
  value_at (gcons gnil g) = builtin_value (builtin_at (number_at g))
  value_at _ = none_value

  -- the items of a code
  pub values_at : Gv → PlainValues
  values_at (gcons a b) = value_then (value_at a) (values_at b)
  values_at _ = no_values

  -- the argument of a code, or none
  pub argument_at : Gv → PlainArgument
  argument_at (gcons a g) = argument (value_at g)
  argument_at _ = no_argument

mutual
  -- a value is known again by its code
  value_back : (v : PlainValue) → value_at (code_value v) ≡ v
  value_back none_value = refl
  value_back (bool_value b) = ap bool_value (bool_back b)
  value_back (int_value n) = ap int_value (int_back n)
  value_back (str_value s) = ap str_value (numbers_back s)
  value_back (tuple_value vs) = ap tuple_value (values_back vs)
  value_back (list_at a) = refl
  value_back (dict_at a) = refl
  value_back (func_value f a) = ap (λ p. func_value f p) (place_back a)
  value_back (module_value m) = ap module_value (module_back m)
  value_back (kind_value k) = ap kind_value (kind_back k)
  value_back (exc_value k a) =
      ap (λ l. exc_value l (argument_at (code_argument a))) (kind_back k)
      ∙ ap (λ b. exc_value k b) (argument_back a)
  value_back (builtin_value b) = ap builtin_value (builtin_back b)

  -- items are known again by their code
  pub values_back : (vs : PlainValues) → values_at (code_values vs) ≡ vs
  values_back no_values = refl
  values_back (value_then v vs) =
      ap (λ w. value_then w (values_at (code_values vs))) (value_back v)
      ∙ ap (λ ws. value_then v ws) (values_back vs)

  -- an argument, or none, is known again by its code
  pub argument_back : (a : PlainArgument) → argument_at (code_argument a) ≡ a
  argument_back no_argument = refl
  argument_back (argument v) = ap argument (value_back v)

-- the codes of tuples tell them apart
abbrev pub coded_values : Coded PlainValues
coded_values = record {
  code = code_values;
  inj = λ x y e. sym (values_back x) ∙ ap values_at e ∙ values_back y;
}

-- the codes of arguments tell them apart
abbrev pub coded_argument : Coded PlainArgument
coded_argument = record {
  code = code_argument;
  inj = λ x y e. sym (argument_back x) ∙ ap argument_at e ∙ argument_back y;
}
