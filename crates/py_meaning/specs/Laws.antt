-- Laws of programs.
--     SettlesRun, SettlesAnswer                                what a run says of other budgets
--     ProgramBudgetLaw, ModulesBudgetLaw, CallBudgetLaw        a larger budget changes nothing
--     ProgramPrefixLaw, ModulesPrefixLaw, CallPrefixLaw        a smaller one gives a beginning
--     StepsLaw, SteadyLaw                                      steps never rise
--     UncutLaw                                                 only steps cut a run
--     EventsLaw                                                events are those of items
use Rattle.std.specs.Prelude.{◌≡◌, ◌≢◌, ℕ, suc, ◌<◌, ◌≤◌, Bool, List, ◌++◌, Option, Some}
use Rattle.cov_event.specs.declared.event.CodeId.{CodeId}
use Rattle.cov_event.specs.declared.event.Event.{Event}
use Rattle.cov_outside.specs.Prefixes.{IsPrefix}
use Rattle.py_value.specs.Plain.{PlainValue}
use Rattle.py_syntax.specs.Tree.{Text, Expr, Stmts, OptSuite}
use Rattle.py_builtins.specs.World.{World}
use Rattle.py_meaning.specs.Activations.{Activation, activation, Item, again, Items, no_items, more, sub}
use Rattle.py_meaning.specs.Assignments.{assign_to}
use Rattle.py_meaning.specs.Calls.{Calls}
use Rattle.py_meaning.specs.Computations.{State, Res, done, cut, M}
use Rattle.py_meaning.specs.Events.{told, told_of, events_of, events_in}
use Rattle.py_meaning.specs.Expressions.{eval}
use Rattle.py_meaning.specs.Frames.{unit_call, calls}
use Rattle.py_meaning.specs.Loading.{Program}
use Rattle.py_meaning.specs.Modules.{LoadedModule}
use Rattle.py_builtins.specs.Outcomes as outcomes
use Rattle.py_meaning.specs.Places.{Place}
use Rattle.py_meaning.specs.Program.{Run, run_modules, meaning, Request, Answer, called}
use Rattle.py_builtins.specs.Returns as returns
use Rattle.py_meaning.specs.Statements.{Loop, one_turn, loop, while_loop, for_loop, exec, exec_opt}

-- What a run that isn't cut says of another budget: the run is the same where that is at least the
-- steps that it took, and is cut where it is less.
abbrev pub SettlesRun : Run → ℕ → Run → Type 0
SettlesRun run budget other =
    (run.steps ≤ budget → other ≡ run) × (budget < run.steps → other.outcome ≡ outcomes.cut)

-- the same of an answer
abbrev pub SettlesAnswer : Answer → ℕ → Answer → Type 0
SettlesAnswer answer budget other =
    (answer.steps ≤ budget → other ≡ answer)
    × (budget < answer.steps → other.returned ≡ returns.cut)

-- What a run gave within a budget is the beginning of what another one gave.
abbrev pub BeginsRun : Run → Run → Type 0
BeginsRun run other =
    IsPrefix run.out other.out × IsPrefix (events_in run.items) (events_in other.items)

-- the same of an answer
abbrev pub BeginsAnswer : Answer → Answer → Type 0
BeginsAnswer answer other =
    IsPrefix answer.out other.out × IsPrefix (events_in answer.items) (events_in other.items)

-- A larger budget changes nothing: of a program,
abbrev pub ProgramBudgetLaw : Type 0
ProgramBudgetLaw =
    (program : Program) (words : List Text) (input : List ℕ) (budget other : ℕ)
    → (meaning program words input budget).outcome ≢ outcomes.cut
    → SettlesRun (meaning program words input budget) other (meaning program words input other)

-- of a list of modules, whatever they were loaded from,
abbrev pub ModulesBudgetLaw : Type 0
ModulesBudgetLaw =
    (ms : List LoadedModule) (words : List Text) (input : List ℕ) (budget other : ℕ)
    → (run_modules ms words input budget).outcome ≢ outcomes.cut
    → SettlesRun (run_modules ms words input budget) other (run_modules ms words input other)

-- and of one call.
abbrev pub CallBudgetLaw : Type 0
CallBudgetLaw =
    (ms : List LoadedModule) (w : World) (input : List ℕ) (r : Request) (budget other : ℕ)
    → (called ms w input r budget).returned ≢ returns.cut
    → SettlesAnswer (called ms w input r budget) other (called ms w input r other)

-- What is written and told within a budget is the beginning of what is written and told within a
-- larger one: by a program,
abbrev pub ProgramPrefixLaw : Type 0
ProgramPrefixLaw =
    (program : Program) (words : List Text) (input : List ℕ) (budget larger : ℕ) → budget ≤ larger →
    BeginsRun (meaning program words input budget) (meaning program words input larger)

-- by a list of modules,
abbrev pub ModulesPrefixLaw : Type 0
ModulesPrefixLaw =
    (ms : List LoadedModule) (words : List Text) (input : List ℕ) (budget larger : ℕ)
    → budget ≤ larger
    → BeginsRun (run_modules ms words input budget) (run_modules ms words input larger)

-- and by one call.
abbrev pub CallPrefixLaw : Type 0
CallPrefixLaw =
    (ms : List LoadedModule) (w : World) (input : List ℕ) (r : Request) (budget larger : ℕ)
    → budget ≤ larger → BeginsAnswer (called ms w input r budget) (called ms w input r larger)

-- The steps that are left never rise.
abbrev pub IsAtMost : {A : Type 0} → ℕ → Res A → Type 0
IsAtMost n (done a s left) = left ≤ n
IsAtMost n (cut s) = Unit {0}

-- a computation never has more steps after it than before
unfoldable pub IsSteady : {A : Type 0} → M A → Type 0
IsSteady m = (s : State) (n : ℕ) → IsAtMost n (m s n)

-- such calls
abbrev pub AreSteady : Calls → Type 0
AreSteady c = (m u : ℕ) (vs : List PlainValue) → IsSteady (c m u vs)

-- statements never have more steps after them than before
abbrev pub StepsLaw : Type 0
StepsLaw =
    (ms : List LoadedModule) (depth : ℕ) (p : Place) (body : Stmts) (s : State) (n : ℕ)
    → IsAtMost n (exec (calls ms depth) p body s n)

-- Nor do statements raise them, whatever the calls inside them do that never raise them.
abbrev pub SteadyLaw : Type 0
SteadyLaw = (c : Calls) → AreSteady c → (p : Place) (body : Stmts) → IsSteady (exec c p body)

-- No number that bounds calls inside each other, or turns, cuts a run that has steps left: calls of
-- any depth of at least the steps that are left are as if no depth were asked, and a loop is its
-- next turn with the same loop after it.
abbrev pub IsTurning : {T : Type 0} → Loop T → Type 0
IsTurning {T} l =
    (i : Item) (before : Option T) (s : State) (n : ℕ)
    → loop l i before s n ≡ one_turn l i before (λ t. loop l (again l.line) (Some t)) s n

-- calls and loops do not ask by how much they are bounded
pub record UncutLaw : Type 0 where
  pub of_calls : (ms : List LoadedModule) (depth m u : ℕ) (vs : List PlainValue) (s : State) (n : ℕ)
      → n ≤ depth → calls ms depth m u vs s n ≡ unit_call (calls ms depth) ms m u vs s n
  pub of_depths :
      (ms : List LoadedModule) (depth other m u : ℕ) (vs : List PlainValue) (s : State) (n : ℕ)
      → n ≤ depth → n ≤ other → calls ms depth m u vs s n ≡ calls ms other m u vs s n
  pub of_while : (c : Calls) → AreSteady c
      → (p : Place) (l : ℕ) (test : Expr) (body : Stmts) (orelse : OptSuite)
      → IsTurning (while_loop l (eval c p test) (exec c p body) (exec_opt c p orelse))
  pub of_for : (c : Calls) → AreSteady c
      → (p : Place) (l : ℕ) (target over : Expr) (body : Stmts) (orelse : OptSuite)
      → IsTurning
      (for_loop l (eval c p over) (assign_to c p target) (exec c p body) (exec_opt c p orelse))

-- The events of a run are those of its items: what they tell comes after what was told before, and
-- is the same whatever that was. A run of at least one step has one item, the activation of the
-- script's body, and tells what this one tells.
abbrev pub script_code : CodeId
script_code = record { «module» = 0; unit = 0 }

-- one item, the activation of the body of the script
pub record TellsItsItems (items : Items) : Type 0 where
  pub inside : Items
  pub ended : Bool
  pub is : items ≡ more no_items (sub (activation script_code inside ended))
  pub told : events_in items ≡ events_of (activation script_code inside ended)

-- the events of activations and of runs are those of their items
pub record EventsLaw : Type 0 where
  pub after : (events : List Event) (items : Items) → told events items ≡ events ++ events_in items
  pub after_of : (events : List Event) (a : Activation) → told_of events a ≡ events ++ events_of a
  pub of_run : (program : Program) (words : List Text) (input : List ℕ) (budget : ℕ)
      → TellsItsItems (meaning program words input (suc budget)).items
  pub of_modules : (ms : List LoadedModule) (words : List Text) (input : List ℕ) (budget : ℕ)
      → TellsItsItems (run_modules ms words input (suc budget)).items
