-- Values, heaps and worlds of whose functions something holds.
use Rattle.std.specs.Prelude.{List, [], ◌∷◌}
use Rattle.py_value.specs.declared.value.FuncId.{FuncId}
use Rattle.py_value.specs.Plain.{PlainValue, func_value, PlainObject, PlainHeap, PlainRaised}
use Rattle.py_builtins.specs.World.{World, Names}
use Rattle.py_changes.proofs.Throughout.{Throughout, ThroughArgument, ThroughAll, values_of_names, values_of_object}

-- of a value that is a function
abbrev pub Suits : (FuncId → Type 0) → PlainValue → Type 0
Suits K (func_value f a) = K f
Suits K other = Unit {0}

-- of each function that stands in a value
abbrev pub Suit : (FuncId → Type 0) → PlainValue → Type 0
Suit K v = Throughout (Suits K) v

-- in several values
abbrev pub SuitAll : (FuncId → Type 0) → List PlainValue → Type 0
SuitAll K vs = ThroughAll (Suits K) vs

-- in the argument of an exception
abbrev pub SuitsRaised : (FuncId → Type 0) → PlainRaised → Type 0
SuitsRaised K e = ThroughArgument (Suits K) e.arg

-- in the values of names
abbrev pub NamesSuit : (FuncId → Type 0) → Names → Type 0
NamesSuit K ns = SuitAll K (values_of_names ns)

-- in the globals of modules
abbrev pub GlobalsSuit : (FuncId → Type 0) → List Names → Type 0
GlobalsSuit K [] = Unit {0}
GlobalsSuit K (g ∷ gs) = NamesSuit K g × GlobalsSuit K gs

-- in a list or a dict
abbrev pub ObjectSuits : (FuncId → Type 0) → PlainObject → Type 0
ObjectSuits K o = SuitAll K (values_of_object o)

-- in all lists and dicts
abbrev pub HeapSuits : (FuncId → Type 0) → PlainHeap → Type 0
HeapSuits K [] = Unit {0}
HeapSuits K (o ∷ os) = ObjectSuits K o × HeapSuits K os

-- in a world
abbrev pub WorldSuits : (FuncId → Type 0) → World → Type 0
WorldSuits K w = GlobalsSuit K w.globals × HeapSuits K w.heap
