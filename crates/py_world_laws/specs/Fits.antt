-- Worlds that fit programs.
--     LiesIn, HasAddress, HasDefaults      the first three sentences, of one value
--     IsUnnamed, IsNotAt                   the other two
--     HasPlace                             addresses lie in the heap
--     Fits                                 a world fits programs, with some values besides
use Rattle.std.specs.Prelude.{◌≡◌, ℕ, zero, suc, ◌<◌, List, length, Option, Some, None, slice_get}
use Rattle.py_value.specs.declared.value.ModId.{ModId}
use Rattle.py_value.specs.declared.value.ModId.TheVariants.{Loaded, Sys}
use Rattle.py_value.specs.Plain.{PlainValue, list_at, dict_at, func_value, module_value, list_object, PlainHeap}
use Rattle.py_builtins.specs.World.{World}
use Rattle.py_code.specs.Machine.{code_of}
use Rattle.py_code.specs.Units.{Code, Module, unit_at}
use Rattle.py_world_laws.specs.Everywhere.{Everywhere}
use Rattle.py_world_laws.specs.Making.{defaults_in}

-- there is a unit
abbrev pub IsUnit : Option Code → Type 0
IsUnit None = ⊥
IsUnit (Some u) = Unit {0}

-- a module that a value names lies in the programs; `sys` always does
abbrev pub IsModule : List Module → ModId → Type 0
IsModule ms (Loaded m) = m < length ms
IsModule ms Sys = Unit {0}

-- the function or the module lies in the programs
abbrev pub LiesIn : List Module → PlainValue → Type 0
LiesIn ms (func_value f a) = IsUnit (unit_at ms (code_of f))
LiesIn ms (module_value m) = IsModule ms m
LiesIn ms other = Unit {0}

-- an address, exactly where there are defaults
abbrev pub IsAddressed : ℕ → Option ℕ → Type 0
IsAddressed zero None = Unit {0}
IsAddressed zero (Some a) = ⊥
IsAddressed (suc n) None = ⊥
IsAddressed (suc n) (Some a) = Unit {0}

-- a function has an address exactly where its unit has defaults
abbrev pub HasAddress : List Module → PlainValue → Type 0
HasAddress ms (func_value f a) = IsAddressed (defaults_in (unit_at ms (code_of f))) a
HasAddress ms other = Unit {0}

-- a list of so many values stands there
abbrev pub IsListOf : PlainHeap → ℕ → ℕ → Type 0
IsListOf h n a = (vs : List PlainValue) × (slice_get h a ≡ Some (list_object vs)) × (length vs ≡ n)

-- the address of a function names a list of as many values as its unit has defaults
abbrev pub HasDefaults : List Module → PlainHeap → PlainValue → Type 0
HasDefaults ms h (func_value f (Some a)) = IsListOf h (defaults_in (unit_at ms (code_of f))) a
HasDefaults ms h other = Unit {0}

-- the List or Dict doesn't stand at an address
abbrev pub DoesNotName : ℕ → PlainValue → Type 0
DoesNotName a (list_at b) = a ≡ b → ⊥
DoesNotName a (dict_at b) = a ≡ b → ⊥
DoesNotName a other = Unit {0}

-- no List or Dict of a world, and of some values besides, stands at the address of the function
abbrev pub IsUnnamed : World → List PlainValue → PlainValue → Type 0
IsUnnamed w more (func_value f (Some a)) = Everywhere (DoesNotName a) w more
IsUnnamed w more other = Unit {0}

-- the address of a function is another one
abbrev pub IsNotAt : ℕ → PlainValue → Type 0
IsNotAt b (func_value f (Some a)) = a ≡ b → ⊥
IsNotAt b other = Unit {0}

-- the List or Dict stands in a heap of so many objects
abbrev pub HasPlace : ℕ → PlainValue → Type 0
HasPlace room (list_at a) = a < room
HasPlace room (dict_at a) = a < room
HasPlace room other = Unit {0}

-- A world, and some values besides, fit programs.
pub record Fits (ms : List Module) (w : World) (more : List PlainValue) : Type 0 where
  -- every function and module that a value names lies in the programs
  pub known : Everywhere (LiesIn ms) w more
  -- each function has an address exactly where its unit has defaults
  pub addressed : Everywhere (HasAddress ms) w more
  -- such an address names a list of as many values as there are defaults
  pub filled : Everywhere (HasDefaults ms w.heap) w more
  -- no List or Dict value names such an address
  pub unnamed : Everywhere (IsUnnamed w more) w more
  -- such an address isn't that of the list of words
  pub unlike_words : Everywhere (IsNotAt w.words) w more
  -- each other address lies in the heap, that of the words too
  pub placed : Everywhere (HasPlace (length w.heap)) w more
  pub words_placed : w.words < length w.heap
