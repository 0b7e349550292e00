-- The plain view of values, level by level: what a tuple and an exception hold is seen plainly
-- already.
--     place_of, plain, plains                   an address, a value and a list of values
--     plain_held, items_view, argument_view     what the items of a tuple and an argument are
--     nesting_of_argument                       how deep they nest
--     ItemsAreSound, ArgumentIsSound            what is kept with them is right
--     size_of_value .. size_of_argument         how much they hold
use Rattle.std.specs.Prelude.{◌≡◌, ℕ, suc, ◌+◌, min, List, map, Option, Some, None}
use Rattle.std.specs.Option.{option_map}
use Rattle.py_value.specs.declared.value.Value.{Value}
use Rattle.py_value.specs.declared.value.Value.TheVariants.{None as NoneVariant, Bool, Int, Str, Tuple, List as ListVariant, Dict, Func, Module, Kind, Exc, Builtin}
use Rattle.std.specs.declared.rc.Rc.{Rc}
use Rattle.std.specs.declared.alloc.Global.{Global}
use Rattle.py_value.specs.declared.value.Addr.{Addr}
use Rattle.py_value.specs.declared.shared.Held.{Held}
use Rattle.py_value.specs.declared.shared.Items.TheInside.{Inside as ItemsInside}
use Rattle.py_value.specs.declared.shared.Argument.TheInside.{Inside as ArgumentInside}
use Rattle.py_value.specs.Keys.{are_keys}
use Rattle.py_value.specs.Hashes.{hash_of_items}
use Rattle.py_value.specs.Plain.{PlainValue, none_value, bool_value, int_value, str_value, tuple_value, list_at, dict_at, func_value, module_value, kind_value, exc_value, builtin_value, PlainValues, no_values, value_then, packed, PlainArgument, no_argument, argument, most_nested, nesting_of, nesting_of_items}

-- the place that an address names
abbrev pub place_of : Addr → ℕ
place_of a = a.place

-- a value, seen plainly
abbrev pub plain : Value → PlainValue
plain NoneVariant = none_value
plain (Bool b) = bool_value b
plain (Int n) = int_value n
plain (Str t) = str_value t
plain (Tuple vs) = tuple_value vs
plain (ListVariant a) = list_at a.place
plain (Dict a) = dict_at a.place
plain (Func f a) = func_value f (option_map place_of a)
plain (Module m) = module_value m
plain (Kind k) = kind_value k
plain (Exc k a) = exc_value k a
plain (Builtin b) = builtin_value b

-- each value of a list, seen plainly
abbrev pub plains : List Value → List PlainValue
plains vs = map plain vs

-- the argument that an exception holds, or that it holds none
abbrev pub plain_held : Option (Rc Held Global) → PlainArgument
plain_held None = no_argument
plain_held (Some rc) = argument (plain rc.value.value)

-- what the items of a tuple are
abbrev pub items_view : ItemsInside → PlainValues
items_view a = packed (plains a.row.value.items.items)

-- what an argument of an exception is
abbrev pub argument_view : ArgumentInside → PlainArgument
argument_view a = plain_held a.held

-- how deep the argument of an exception makes it nest
abbrev pub nesting_of_argument : PlainArgument → ℕ
nesting_of_argument no_argument = 0
nesting_of_argument (argument v) = suc (nesting_of v)

-- that the depth, whether they may be keys, and the hash kept with items are theirs
abbrev pub ItemsAreSound : ItemsInside → Type 0
ItemsAreSound a =
    (a.row.value.depth ≡ min most_nested (nesting_of_items (items_view a)))
    × (a.row.value.are_keys ≡ are_keys (items_view a))
    × (a.row.value.hash ≡ hash_of_items 1 (items_view a))

-- that the depth kept with an argument is that of its value
abbrev pub HeldIsSound : Option (Rc Held Global) → Type 0
HeldIsSound None = Unit {0}
HeldIsSound (Some rc) = rc.value.depth ≡ min most_nested (nesting_of (plain rc.value.value))

-- that the depth kept by an argument is right
abbrev pub ArgumentIsSound : ArgumentInside → Type 0
ArgumentIsSound a = HeldIsSound a.held

abbrev mutual
  -- how many values a value holds, those inside each of them counted too
  pub size_of_value : PlainValue → ℕ
  size_of_value (tuple_value vs) = size_of_values vs
  size_of_value (exc_value k a) = size_of_argument a
  size_of_value _ = 0

  -- how many values items are, those inside each of them counted too
  pub size_of_values : PlainValues → ℕ
  size_of_values no_values = 0
  size_of_values (value_then v vs) = suc (size_of_value v + size_of_values vs)

  -- the same of an exception's argument: nothing where there is none
  pub size_of_argument : PlainArgument → ℕ
  size_of_argument no_argument = 0
  size_of_argument (argument v) = suc (size_of_value v)
