-- Values that suit an environment: what is known of the addresses that functions name.
--     Environment                         how many objects there are, and which lists hold defaults
--     Suits, Suit, SuitAll, SuitsRaised   values and exceptions
--     HeapSuits, WorldSuits               heaps and worlds
--     Widens                              an environment with more objects
use Rattle.std.specs.Prelude.{◌≡◌, ℕ, zero, suc, ◌<◌, ◌≤◌, List, [], ◌∷◌, length, Option, Some, None}
use Rattle.py_value.specs.Plain.{PlainValue, list_at, dict_at, func_value, module_value, PlainObject, PlainHeap, PlainRaised}
use Rattle.py_builtins.specs.World.{World, Names}
use Rattle.py_code.specs.Machine.{code_of}
use Rattle.py_code.specs.Units.{Code, Module, unit_at}
use Rattle.py_world_laws.specs.Everywhere.{Throughout, ThroughArgument, ThroughAll, values_of_names, values_of_object}
use Rattle.py_world_laws.specs.Fits.{IsModule, IsListOf}

-- how many objects lie in the heap, and at which addresses are the lists of functions' defaults,
-- with how many of them
pub record Environment : Type 0 where
  pub room : ℕ
  pub lists : ℕ → Option ℕ

-- an address in the heap, and not that of defaults
abbrev pub IsOther : Environment → ℕ → Type 0
IsOther e a = (a < e.room) × (e.lists a ≡ None)

-- the address of so many defaults; none where there are none
abbrev pub AreDefaults : Environment → ℕ → Option ℕ → Type 0
AreDefaults e zero None = Unit {0}
AreDefaults e zero (Some a) = ⊥
AreDefaults e (suc n) None = ⊥
AreDefaults e (suc n) (Some a) = e.lists a ≡ Some (suc n)

-- a function has a unit, and an address exactly where that has defaults
abbrev pub SuitsUnit : Environment → Option Code → Option ℕ → Type 0
SuitsUnit e None a = ⊥
SuitsUnit e (Some u) a = AreDefaults e u.defaults a

-- a value, but for what stands in it
abbrev pub Suits : List Module → Environment → PlainValue → Type 0
Suits ms e (func_value f a) = SuitsUnit e (unit_at ms (code_of f)) a
Suits ms e (module_value m) = IsModule ms m
Suits ms e (list_at a) = IsOther e a
Suits ms e (dict_at a) = IsOther e a
Suits ms e other = Unit {0}

-- a value suits with all that stands in it
abbrev pub Suit : List Module → Environment → PlainValue → Type 0
Suit ms e v = Throughout (Suits ms e) v

-- each of the values suits
abbrev pub SuitAll : List Module → Environment → List PlainValue → Type 0
SuitAll ms e vs = ThroughAll (Suits ms e) vs

-- the argument of an exception suits
abbrev pub SuitsRaised : List Module → Environment → PlainRaised → Type 0
SuitsRaised ms e raised = ThroughArgument (Suits ms e) raised.arg

-- the value of each name suits
abbrev pub NamesSuit : List Module → Environment → Names → Type 0
NamesSuit ms e ns = SuitAll ms e (values_of_names ns)

-- the globals of each module suit
abbrev pub GlobalsSuit : List Module → Environment → List Names → Type 0
GlobalsSuit ms e [] = Unit {0}
GlobalsSuit ms e (g ∷ gs) = NamesSuit ms e g × GlobalsSuit ms e gs

-- each value in a list or a dict suits
abbrev pub ObjectSuits : List Module → Environment → PlainObject → Type 0
ObjectSuits ms e o = SuitAll ms e (values_of_object o)

-- each value in the lists and dicts of a heap suits
abbrev pub ObjectsSuit : List Module → Environment → PlainHeap → Type 0
ObjectsSuit ms e [] = Unit {0}
ObjectsSuit ms e (o ∷ os) = ObjectSuits ms e o × ObjectsSuit ms e os

-- the values of a heap suit, and the lists of defaults stand where they are said to
pub record HeapSuits (ms : List Module) (e : Environment) (h : PlainHeap) : Type 0 where
  pub objects : ObjectsSuit ms e h
  pub room : length h ≡ e.room
  pub lists : (a n : ℕ) → e.lists a ≡ Some n → IsListOf h n a

-- the globals suit, the heap too, and the words stand at an address that isn't one of defaults
pub record PartsSuit (ms : List Module) (e : Environment) (gs : List Names) (h : PlainHeap)
    (a : ℕ) : Type 0 where
  pub globals : GlobalsSuit ms e gs
  pub heap : HeapSuits ms e h
  pub words : IsOther e a

-- a world suits an environment: its globals, its heap, and the list of its words
abbrev pub WorldSuits : List Module → Environment → World → Type 0
WorldSuits ms e w = PartsSuit ms e w.globals w.heap w.words

-- an environment with more objects, of which some may be lists of defaults
pub record Widens (e f : Environment) : Type 0 where
  pub more : e.room ≤ f.room
  pub kept : (a n : ℕ) → e.lists a ≡ Some n → f.lists a ≡ Some n
  pub other : (a : ℕ) → a < e.room → e.lists a ≡ None → f.lists a ≡ None
