-- What a machine does with faithful code of modules, beside what these mean.
--     AreFaithful                    modules of code beside loaded modules
--     AreProperModules               modules in which no alternative of a pattern binds a name
--     HaveOwnParameters              modules whose parameters have slots of their own
--     as_run, as_reply               a run and a call as they are meant
--     Settles                        a run that a larger budget doesn't change
--     ProgramsRun                    the law of programs
use Rattle.std.specs.Prelude.{◌≡◌, ◌≢◌, ◌<◌, ◌≤◌, ℕ, false, List, [], ◌∷◌, length, map}
use Rattle.py_builtins.specs.Outcomes as outcomes
use Rattle.py_builtins.specs.World.{World}
use Rattle.py_syntax.specs.Functions.{Function, functions, without_docstring}
use Rattle.py_syntax.specs.Names.{is_among, declared_names, local_names}
use Rattle.py_syntax.specs.Tree.{Text, Stmts}
use Rattle.py_meaning.specs.Events.{events_in}
use Rattle.py_meaning.specs.Modules.{LoadedModule}
use Rattle.py_meaning.specs.Program as meant
use Rattle.py_code.specs.Programs as machine
use Rattle.py_code.specs.Slots.{by_names, by_slots, IsDistinct}
use Rattle.py_code.specs.Units.{Code, Module}
use Rattle.py_compile.specs.Definitions.{Definition, definitions}
use Rattle.py_compile.specs.Faithful.{IsFaithful}
use Rattle.py_compile.specs.Proper.{AreProper}
use Rattle.py_compile.specs.Units.{body_function, compiled}

-- the units of `def`s, in the order of the text
abbrev pub HasFunctions : List Function → List Definition → List Code → Type 0
HasFunctions all [] [] = Unit {0}
HasFunctions all [] (u ∷ us) = ⊥
HasFunctions all (d ∷ ds) [] = ⊥
HasFunctions all (d ∷ ds) (u ∷ us) =
    IsFaithful all d.function d.defaults (local_names d.function.params d.function.body) u
    × HasFunctions all ds us

-- unit 0 is the body, and the others are the `def`s
abbrev pub HasUnits : Stmts → List Code → Type 0
HasUnits b [] = ⊥
HasUnits b (u ∷ us) =
    IsFaithful (functions b) (body_function b) 0 [] u
    × HasFunctions (functions b) (definitions b) us

-- code of modules that is faithful, module by module
abbrev pub AreFaithful : List Module → List LoadedModule → Type 0
AreFaithful [] [] = Unit {0}
AreFaithful [] (l ∷ ls) = ⊥
AreFaithful (m ∷ ms) [] = ⊥
AreFaithful (m ∷ ms) (l ∷ ls) = (m.name ≡ l.name) × HasUnits l.body m.units × AreFaithful ms ls

-- functions whose bodies are proper
abbrev pub AreProperFunctions : List Function → Type 0
AreProperFunctions [] = Unit {0}
AreProperFunctions (f ∷ fs) = AreProper (without_docstring f.body) × AreProperFunctions fs

-- modules whose bodies and functions are proper
abbrev pub AreProperModules : List LoadedModule → Type 0
AreProperModules [] = Unit {0}
AreProperModules (l ∷ ls) =
    AreProper (without_docstring l.body) × AreProperFunctions (functions l.body)
    × AreProperModules ls

-- none of these names is among those
abbrev pub NoneAmong : List Text → List Text → Type 0
NoneAmong ds [] = Unit {0}
NoneAmong ds (x ∷ xs) = (is_among ds x ≡ false) × NoneAmong ds xs

-- no two parameters have one name, and none is declared `global`
abbrev pub HasOwnParameters : Function → Type 0
HasOwnParameters f = IsDistinct f.params × NoneAmong (declared_names f.body) f.params

-- functions whose parameters are local names
abbrev pub EachHasOwnParameters : List Function → Type 0
EachHasOwnParameters [] = Unit {0}
EachHasOwnParameters (f ∷ fs) = HasOwnParameters f × EachHasOwnParameters fs

-- modules all of whose functions are such
abbrev pub HaveOwnParameters : List LoadedModule → Type 0
HaveOwnParameters [] = Unit {0}
HaveOwnParameters (l ∷ ls) = EachHasOwnParameters (functions l.body) × HaveOwnParameters ls

-- a run and a call as they are meant: with the events of what happened
abbrev pub as_run : meant.Run → machine.Run
as_run m = record {
  outcome = m.outcome;
  out = m.out;
  input = m.input;
  steps = m.steps;
  events = events_in m.items;
  world = m.world;
}

-- the reply of a machine that a call means
abbrev pub as_reply : meant.Answer → machine.Reply
as_reply m = record {
  returned = m.returned;
  out = m.out;
  input = m.input;
  steps = m.steps;
  events = events_in m.items;
  world = m.world;
}

-- what a machine is asked for a call
abbrev pub as_request : meant.Request → machine.Request
as_request q = record { number = q.number; name = q.name; values = q.values }

-- What a run that isn't cut says of another budget: the run is the same where that is at least the
-- steps that it took, and is cut where it is less.
abbrev pub Settles : machine.Run → ℕ → machine.Run → Type 0
Settles run budget other =
    (run.steps ≤ budget → other ≡ run) × (budget < run.steps → other.outcome ≡ outcomes.cut)

-- The code of modules is faithful. A machine runs faithful code of one or more modules as these
-- mean, and answers a call as they mean it, on every world: same ending, output, input left, steps,
-- events and world. It keeps local names by names, or by slots where parameters are such. And a
-- larger budget changes nothing.
pub record ProgramsRun : Type 0 where
  pub compiles : (ms : List LoadedModule) → AreFaithful (map compiled ms) ms
  pub runs_by_names : (cs : List Module) (ms : List LoadedModule) → AreFaithful cs ms
      → AreProperModules ms → 0 < length ms → (words : List Text) (input : List ℕ) (budget : ℕ)
      → machine.run (by_names cs) cs (machine.first_world cs words) input budget
      ≡ as_run (meant.run_modules ms words input budget)
  pub runs_by_slots : (cs : List Module) (ms : List LoadedModule) → AreFaithful cs ms
      → AreProperModules ms → HaveOwnParameters ms → 0 < length ms
      → (words : List Text) (input : List ℕ) (budget : ℕ)
      → machine.run (by_slots cs) cs (machine.first_world cs words) input budget
      ≡ as_run (meant.run_modules ms words input budget)
  pub calls_by_names : (cs : List Module) (ms : List LoadedModule) → AreFaithful cs ms
      → AreProperModules ms → (w : World) (input : List ℕ) (q : meant.Request) (budget : ℕ)
      → machine.called (by_names cs) cs w input (as_request q) budget
      ≡ as_reply (meant.called ms w input q budget)
  pub calls_by_slots : (cs : List Module) (ms : List LoadedModule) → AreFaithful cs ms
      → AreProperModules ms → HaveOwnParameters ms
      → (w : World) (input : List ℕ) (q : meant.Request) (budget : ℕ)
      → machine.called (by_slots cs) cs w input (as_request q) budget
      ≡ as_reply (meant.called ms w input q budget)
  pub settles : (cs : List Module) (ms : List LoadedModule) → AreFaithful cs ms
      → AreProperModules ms → 0 < length ms
      → (words : List Text) (input : List ℕ) (budget other : ℕ)
      → (machine.run (by_names cs) cs (machine.first_world cs words) input budget).outcome
      ≢ outcomes.cut
      → Settles (machine.run (by_names cs) cs (machine.first_world cs words) input budget) other
      (machine.run (by_names cs) cs (machine.first_world cs words) input other)
