-- The names of a module by their numbers, with the values of those that are set.
--     Numbered               names with their values, each at its number
--     listed                 the names that are set, in the order in which a list has their numbers
--     times                  how often a number stands in a list
--     HaveOwnNames           no two numbers have one name
--     AreListed              a list has each number whose name is set once, and no other
--     HasNoNumber            a name that has no number
--     plain_global, global_names names in memory
use Rattle.std.specs.Prelude.{◌≡◌, ℕ, ◌+◌, nat_eq, true, false, if◌then◌else◌, List, [], ◌∷◌, map, slice_get, Option, Some, None}
use Rattle.py_text.specs.Comparison.{is_same_text}
use Rattle.py_value.specs.Plain.{PlainValue}
use Rattle.py_builtins.specs.World.{Names}
use Rattle.py_world.specs.declared.globals.Global.{Global}
use Rattle.py_world.specs.Values.{plain_option}

-- a name, and its value if it is set
abbrev pub Named : Type 0
Named = List ℕ × Option PlainValue

-- names, each at its number
abbrev pub Numbered : Type 0
Numbered = List Named

-- a name before others, if it is set
abbrev pub set_then : List ℕ → Option PlainValue → Names → Names
set_then x None ns = ns
set_then x (Some v) ns = (x, v) ∷ ns

-- the name of a number before others, if there is one and it is set
abbrev pub named_then : Option Named → Names → Names
named_then None ns = ns
named_then (Some e) ns = set_then e.0 e.1 ns

-- the names that are set, in the order in which a list has their numbers
unfoldable pub listed : Numbered → List ℕ → Names
listed es [] = []
listed es (n ∷ ns) = named_then (slice_get es n) (listed es ns)

-- how often a number stands in a list
unfoldable pub times : ℕ → List ℕ → ℕ
times n [] = 0
times n (m ∷ ms) = (if nat_eq n m then 1 else 0) + times n ms

-- how often a list has a number: once if its name is set
abbrev pub times_set : Option PlainValue → ℕ
times_set None = 0
times_set (Some v) = 1

-- how often a list has a number: once if it has a name that is set
abbrev pub times_named : Option Named → ℕ
times_named None = 0
times_named (Some e) = times_set e.1

-- the name itself
abbrev pub name_of : Named → List ℕ
name_of e = e.0

-- the value of the name of a number, if there is one and it is set
abbrev pub value_in : Option Named → Option PlainValue
value_in None = None
value_in (Some e) = e.1

-- a name without a value
abbrev pub without_value : List ℕ → Named
without_value x = (x, None)

-- a name that isn't set
abbrev pub unset : Named → Named
unset e = without_value e.0

-- no two numbers have one name
abbrev pub HaveOwnNames : List (List ℕ) → Type 0
HaveOwnNames xs =
    (m n : ℕ) (x y : List ℕ) → slice_get xs m ≡ Some x → slice_get xs n ≡ Some y
    → is_same_text x y ≡ true → m ≡ n

-- a list has each number whose name is set once, and no other
abbrev pub AreListed : Numbered → List ℕ → Type 0
AreListed es ns = (n : ℕ) → times n ns ≡ times_named (slice_get es n)

-- a name that has no number
abbrev pub HasNoNumber : List ℕ → List (List ℕ) → Type 0
HasNoNumber x ys = (n : ℕ) (y : List ℕ) → slice_get ys n ≡ Some y → is_same_text x y ≡ false

-- a name in memory
abbrev pub plain_global : Global → Named
plain_global g = (g.name, plain_option g.value)

-- the names in memory, by their numbers
abbrev pub global_names : List Global → List (List ℕ)
global_names gs = map name_of (map plain_global gs)
