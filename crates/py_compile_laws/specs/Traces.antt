-- Compilation keeps what a program does (its trace): the law for modules that the check of scopes
-- accepts.
--     AreWellFormed              modules without a fault of scope
--     ScopesAreProper               such modules have what the laws of code ask for
--     SettlesReply               a call that a larger budget doesn't change
--     TracesKept                 a machine that runs faithful code of such modules does what these
--                                mean
use Rattle.std.specs.Prelude.{◌≡◌, ◌≢◌, ◌<◌, ◌≤◌, ℕ, List, [], ◌∷◌, length}
use Rattle.py_builtins.specs.Outcomes as outcomes
use Rattle.py_builtins.specs.Returns as returns
use Rattle.py_builtins.specs.World.{World}
use Rattle.py_code.specs.Programs as machine
use Rattle.py_code.specs.Slots.{by_names, by_slots}
use Rattle.py_code.specs.Units.{Module}
use Rattle.py_compile.specs.ProgramRuns.{AreFaithful, AreProperModules, HaveOwnParameters, Settles, as_run, as_reply, as_request}
use Rattle.py_meaning.specs.Modules.{LoadedModule}
use Rattle.py_meaning.specs.Program as meant
use Rattle.py_scope.specs.Faults.{IsWellFormed}
use Rattle.py_syntax.specs.Tree.{Text}

abbrev pub AreWellFormed : List LoadedModule → Type 0
AreWellFormed [] = Unit {0}
AreWellFormed (l ∷ ls) = IsWellFormed l.body × AreWellFormed ls

-- In modules without a fault no alternative of a pattern binds a name. No two parameters of a
-- function have one name, and none is declared `global`.
pub record ScopesAreProper : Type 0 where
  pub proper : (ms : List LoadedModule) → AreWellFormed ms → AreProperModules ms
  pub parameters : (ms : List LoadedModule) → AreWellFormed ms → HaveOwnParameters ms

-- What a call that isn't cut says of another budget: the reply is the same where that is at least
-- the steps that it took, and is cut where it is less.
abbrev pub SettlesReply : machine.Reply → ℕ → machine.Reply → Type 0
SettlesReply reply budget other =
    (reply.steps ≤ budget → other ≡ reply) × (budget < reply.steps → other.returned ≡ returns.cut)

-- Code is faithful to one or more modules without a fault. Then a machine runs it as these mean,
-- with all words, every input and budget: same ending, output, input left, steps, events and world.
-- It answers a call as they mean it, on every world. So it is where it keeps local names in slots,
-- and where it keeps them by themselves. And a larger budget changes nothing.
pub record TracesKept : Type 0 where
  pub runs : (cs : List Module) (ms : List LoadedModule) → AreFaithful cs ms → AreWellFormed ms
      → 0 < length ms → (words : List Text) (input : List ℕ) (budget : ℕ)
      → machine.run (by_slots cs) cs (machine.first_world cs words) input budget
      ≡ as_run (meant.run_modules ms words input budget)
  pub calls : (cs : List Module) (ms : List LoadedModule) → AreFaithful cs ms → AreWellFormed ms
      → (w : World) (input : List ℕ) (q : meant.Request) (budget : ℕ)
      → machine.called (by_slots cs) cs w input (as_request q) budget
      ≡ as_reply (meant.called ms w input q budget)
  pub runs_by_names : (cs : List Module) (ms : List LoadedModule) → AreFaithful cs ms
      → AreWellFormed ms → 0 < length ms → (words : List Text) (input : List ℕ) (budget : ℕ)
      → machine.run (by_names cs) cs (machine.first_world cs words) input budget
      ≡ as_run (meant.run_modules ms words input budget)
  pub calls_by_names : (cs : List Module) (ms : List LoadedModule) → AreFaithful cs ms
      → AreWellFormed ms → (w : World) (input : List ℕ) (q : meant.Request) (budget : ℕ)
      → machine.called (by_names cs) cs w input (as_request q) budget
      ≡ as_reply (meant.called ms w input q budget)
  pub runs_settle : (cs : List Module) (ms : List LoadedModule) → AreFaithful cs ms
      → AreWellFormed ms → 0 < length ms → (words : List Text) (input : List ℕ) (budget other : ℕ)
      →
      (machine.run (by_slots cs) cs
      (machine.first_world cs words) input budget).outcome ≢ outcomes.cut
      → Settles (machine.run (by_slots cs) cs (machine.first_world cs words) input budget) other
      (machine.run (by_slots cs) cs (machine.first_world cs words) input other)
  pub calls_settle : (cs : List Module) (ms : List LoadedModule) → AreFaithful cs ms
      → AreWellFormed ms → (w : World) (input : List ℕ) (q : meant.Request) (budget other : ℕ)
      → (machine.called (by_slots cs) cs w input (as_request q) budget).returned ≢ returns.cut
      → SettlesReply (machine.called (by_slots cs) cs w input (as_request q) budget) other
      (machine.called (by_slots cs) cs w input (as_request q) other)
