-- Values that stand in values, and those of a world.
--     Throughout, ThroughAll      what holds of a value and of all in it, and of several values
--     values_in                   the values of a world: of its globals, and of its lists and dicts
--     Everywhere                  what holds of all values of a world, and of some more
use Rattle.std.specs.Prelude.{List, [], ◌∷◌, ◌++◌}
use Rattle.py_value.specs.Plain.{PlainValue, none_value, bool_value, int_value, str_value, tuple_value, list_at, dict_at, func_value, module_value, kind_value, exc_value, builtin_value, PlainValues, no_values, value_then, PlainArgument, no_argument, argument, PlainObject, list_object, dict_object, PlainHeap}
use Rattle.py_builtins.specs.World.{World, Names}

-- of a value, of the items of tuples in it, and of arguments of exceptions in it
abbrev mutual
  -- of the value itself too
  pub Throughout : (PlainValue → Type 0) → PlainValue → Type 0
  Throughout P none_value = P none_value
  Throughout P (bool_value b) = P (bool_value b)
  Throughout P (int_value n) = P (int_value n)
  Throughout P (str_value s) = P (str_value s)
  Throughout P (tuple_value vs) = P (tuple_value vs) × ThroughItems P vs
  Throughout P (list_at a) = P (list_at a)
  Throughout P (dict_at a) = P (dict_at a)
  Throughout P (func_value f a) = P (func_value f a)
  Throughout P (module_value m) = P (module_value m)
  Throughout P (kind_value kind) = P (kind_value kind)
  Throughout P (exc_value kind arg) = P (exc_value kind arg) × ThroughArgument P arg
  Throughout P (builtin_value which) = P (builtin_value which)

  -- of the items of a tuple
  pub ThroughItems : (PlainValue → Type 0) → PlainValues → Type 0
  ThroughItems P no_values = Unit {0}
  ThroughItems P (value_then v vs) = Throughout P v × ThroughItems P vs

  -- of the argument of an exception
  pub ThroughArgument : (PlainValue → Type 0) → PlainArgument → Type 0
  ThroughArgument P no_argument = Unit {0}
  ThroughArgument P (argument v) = Throughout P v

-- of several values
abbrev pub ThroughAll : (PlainValue → Type 0) → List PlainValue → Type 0
ThroughAll P [] = Unit {0}
ThroughAll P (v ∷ vs) = Throughout P v × ThroughAll P vs

-- the values of names that are set
abbrev pub values_of_names : Names → List PlainValue
values_of_names [] = []
values_of_names (n ∷ ns) = n.1 ∷ values_of_names ns

-- the values of the globals of all modules
abbrev pub values_of_globals : List Names → List PlainValue
values_of_globals [] = []
values_of_globals (g ∷ gs) = values_of_names g ++ values_of_globals gs

-- the keys and the values of a dict
abbrev pub values_of_pairs : List (PlainValue × PlainValue) → List PlainValue
values_of_pairs [] = []
values_of_pairs (p ∷ ps) = p.0 ∷ p.1 ∷ values_of_pairs ps

-- the values in a list or a dict
abbrev pub values_of_object : PlainObject → List PlainValue
values_of_object (list_object vs) = vs
values_of_object (dict_object ps) = values_of_pairs ps

-- the values in all lists and dicts
abbrev pub values_of_heap : PlainHeap → List PlainValue
values_of_heap [] = []
values_of_heap (o ∷ os) = values_of_object o ++ values_of_heap os

-- the values in a world
abbrev pub values_in : World → List PlainValue
values_in w = values_of_globals w.globals ++ values_of_heap w.heap

-- of all values of a world, and of these
abbrev pub Everywhere : (PlainValue → Type 0) → World → List PlainValue → Type 0
Everywhere P w more = ThroughAll P (values_in w ++ more)
