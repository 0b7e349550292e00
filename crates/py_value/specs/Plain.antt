-- Values, heaps and exceptions seen plainly: as data, without where they lie in memory.
--     PlainValue, PlainValues, PlainArgument     a value, the items of a tuple, an argument
--     listed, packed, tuple_of                   the items of a tuple, and lists
--     PlainObject, PlainHeap                     what a heap holds
--     PlainRaised                                an exception that is raised
--     nesting_of .. may_nest                     how deep values stand in each other
use Rattle.std.specs.Prelude.{ℕ, suc, max, nat_lt, ℤ, Bool, List, [], ◌∷◌, Option}
use Rattle.py_value.specs.declared.builtin.Builtin.{Builtin}
use Rattle.py_value.specs.declared.exception.ExcKind.{ExcKind}
use Rattle.py_value.specs.declared.value.FuncId.{FuncId}
use Rattle.py_value.specs.declared.value.ModId.{ModId}

-- A value. A text is the list of its characters, and an address is a place in the heap.
mutual
  pub data PlainValue : Type 0 where
    none_value : PlainValue
    bool_value : Bool → PlainValue
    int_value : ℤ → PlainValue
    str_value : List ℕ → PlainValue
    tuple_value : PlainValues → PlainValue
    list_at : ℕ → PlainValue
    dict_at : ℕ → PlainValue
    func_value : FuncId → Option ℕ → PlainValue
    module_value : ModId → PlainValue
    kind_value : ExcKind → PlainValue
    exc_value : ExcKind → PlainArgument → PlainValue
    builtin_value : Builtin → PlainValue

  -- the items of a tuple
  pub data PlainValues : Type 0 where
    no_values : PlainValues
    value_then : PlainValue → PlainValues → PlainValues

  -- the argument of an exception
  pub data PlainArgument : Type 0 where
    no_argument : PlainArgument
    argument : PlainValue → PlainArgument

-- the items of a tuple as a list
abbrev pub listed : PlainValues → List PlainValue
listed no_values = []
listed (value_then v vs) = v ∷ listed vs

-- a list as the items of a tuple
abbrev pub packed : List PlainValue → PlainValues
packed [] = no_values
packed (v ∷ vs) = value_then v (packed vs)

-- the tuple of these items
abbrev pub tuple_of : List PlainValue → PlainValue
tuple_of vs = tuple_value (packed vs)

-- An object of the heap: a list, or the pairs of a dict in the order in which their keys came.
pub data PlainObject : Type 0 where
  list_object : List PlainValue → PlainObject
  dict_object : List (PlainValue × PlainValue) → PlainObject

-- A heap. An address is a place in it.
abbrev pub PlainHeap : Type 0
PlainHeap = List PlainObject

-- An exception that is raised.
pub record PlainRaised : Type 0 where
  pub kind : ExcKind
  pub arg : PlainArgument

abbrev mutual
  -- How deep tuples and arguments of exceptions stand directly in each other, in a value. A value
  -- that is neither a tuple nor an exception with an argument has 0.
  pub nesting_of : PlainValue → ℕ
  nesting_of (tuple_value vs) = suc (nesting_of_items vs)
  nesting_of (exc_value kind (argument v)) = suc (nesting_of v)
  nesting_of _ = 0

  -- the greatest depth of a tuple's items
  pub nesting_of_items : PlainValues → ℕ
  nesting_of_items no_values = 0
  nesting_of_items (value_then v vs) = max (nesting_of v) (nesting_of_items vs)

-- the deepest that tuples and arguments stand directly in each other
abbrev pub most_nested : ℕ
most_nested = 200

-- whether a value may stand in a tuple or be an argument, and be no deeper then than the deepest
abbrev pub may_nest : PlainValue → Bool
may_nest v = nat_lt (nesting_of v) most_nested
