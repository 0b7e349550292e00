-- The world of a program: what its modules set, which of them were begun, its lists and dicts, and
-- where its words stand.
--     Names, value_of .. without_name     the names of a module, with their values
--     World                               the world
--     names_at .. without_number          the names of a module by its number, and lists of numbers
--     global_of .. without_global         globals
--     is_begun .. without_begun           begun modules
--     with_heap                           another heap
--     sys_name, first_names               the names of `sys`, and of a module that begins
use Rattle.std.specs.Prelude.{ℕ, zero, suc, nat_eq, Bool, false, ◌||◌, if◌then◌else◌, List, [], ◌∷◌, ◌++◌, Option, Some, None, codes}
use Rattle.py_value.specs.declared.builtin.Builtin.TheVariants.{Exit}
use Rattle.py_text.specs.Comparison.{is_same_text}
use Rattle.py_value.specs.Plain.{PlainValue, list_at, builtin_value, PlainHeap, str_value}

-- the names that are set, each once, with their values. A name is the list of its characters
abbrev pub Names : Type 0
Names = List (List ℕ × PlainValue)

-- the value of a name
unfoldable pub value_of : List ℕ → Names → Option PlainValue
value_of name [] = None
value_of name (n ∷ ns) = if is_same_text name n.0 then Some n.1 else value_of name ns

-- a name set: a set name keeps its place, and a new one goes last
unfoldable pub with_name : List ℕ → PlainValue → Names → Names
with_name name v [] = (name, v) ∷ []
with_name name v (n ∷ ns) =
    if is_same_text name n.0 then (name, v) ∷ ns else n ∷ with_name name v ns

-- a name unset, wherever it stands
unfoldable pub without_name : List ℕ → Names → Names
without_name name [] = []
without_name name (n ∷ ns) =
    if is_same_text name n.0 then without_name name ns else n ∷ without_name name ns

-- Modules have numbers, from 0 for the script on, and the globals stand in the order of these.
-- Begun modules stand in the order in which they began. `words` is the address of the list that is
-- `sys.argv`.
pub record World : Type 0 where
  pub globals : List Names
  pub begun : List ℕ
  pub heap : PlainHeap
  pub words : ℕ

-- the names of a module; of a module that isn't listed none
unfoldable pub names_at : ℕ → List Names → Names
names_at m [] = []
names_at zero (g ∷ gs) = g
names_at (suc m) (g ∷ gs) = names_at m gs

-- the names of a module changed
unfoldable pub with_names_at : ℕ → (Names → Names) → List Names → List Names
with_names_at zero f [] = f [] ∷ []
with_names_at (suc m) f [] = [] ∷ with_names_at m f []
with_names_at zero f (g ∷ gs) = f g ∷ gs
with_names_at (suc m) f (g ∷ gs) = g ∷ with_names_at m f gs

-- whether a number is in a list
unfoldable pub is_among : ℕ → List ℕ → Bool
is_among m [] = false
is_among m (n ∷ ns) = nat_eq m n || is_among m ns

-- a list without the first such number
unfoldable pub without_number : ℕ → List ℕ → List ℕ
without_number m [] = []
without_number m (n ∷ ns) = if nat_eq m n then ns else n ∷ without_number m ns

-- the value of a global of a module
abbrev pub global_of : ℕ → List ℕ → World → Option PlainValue
global_of m name w = value_of name (names_at m w.globals)

-- a global set
abbrev pub with_global : ℕ → List ℕ → PlainValue → World → World
with_global m name v w = record w { globals = with_names_at m (with_name name v) w.globals }

-- a global unset
abbrev pub without_global : ℕ → List ℕ → World → World
without_global m name w = record w { globals = with_names_at m (without_name name) w.globals }

-- whether a module was begun
abbrev pub is_begun : ℕ → World → Bool
is_begun m w = is_among m w.begun

-- a module begun, with these names set and no others
abbrev pub with_begun : ℕ → Names → World → World
with_begun m names w =
    record w { globals = with_names_at m (λ _. names) w.globals; begun = w.begun ++ m ∷ [] }

-- a module whose body raised: not begun any more
abbrev pub without_begun : ℕ → World → World
without_begun m w = record w { begun = without_number m w.begun }

-- another heap
abbrev pub with_heap : PlainHeap → World → World
with_heap h w = record w { heap = h }

-- a name of `sys`: `argv`, the same list each time, and `exit`
abbrev pub sys_name : World → List ℕ → Option PlainValue
sys_name w name = if is_same_text name (codes "argv") then Some (list_at w.words) else
    if is_same_text name (codes "exit") then Some (builtin_value Exit) else None

-- the globals of a module that begins
abbrev pub first_names : List ℕ → Names
first_names x = (codes "__name__", str_value x) ∷ []
