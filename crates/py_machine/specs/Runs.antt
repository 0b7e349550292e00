-- What a run of a program comes to.
--     IsRun, IsCall            a run, and a call, that ended
--     StopsRun, StopsCall      ones that were given up
use Rattle.std.specs.Prelude.{◌≡◌, ℕ, List}
use Rattle.cov_event.specs.declared.event.Event.{Event}
use Rattle.cov_outside.specs.Prefixes.{IsPrefix, GainsPrefix}
use Rattle.py_value.specs.Plain.{PlainValue}
use Rattle.py_builtins.specs.World.{World}
use Rattle.py_code.specs.Programs.{run, Request, called}
use Rattle.py_code.specs.Slots.{by_slots}
use Rattle.py_code.specs.Units.{Module}
use Rattle.py_machine.specs.declared.outcome.Answer.{Answer}
use Rattle.py_machine.specs.declared.outcome.Ran.{Ran}
use Rattle.py_machine.specs.Outcomes.{plain_outcome, plain_called}

-- With this input the run of the definition ends with this outcome and after so many steps, tells
-- the events that were told, writes the bytes that were written, and leaves this rest of the
-- input, and this world.
pub record IsRun (took : List Event → Type 0) (wrote : List ℕ → Type 0) (ms : List Module)
    (w : World) (budget : ℕ) (ran : Ran) (left : World) (all rest : List ℕ) : Type 0 where
  pub outcome : plain_outcome ran.outcome ≡ (run (by_slots ms) ms w all budget).outcome
  pub steps : ran.steps ≡ (run (by_slots ms) ms w all budget).steps
  pub told : took (run (by_slots ms) ms w all budget).events
  pub written : wrote (run (by_slots ms) ms w all budget).out
  pub input : (run (by_slots ms) ms w all budget).input ≡ rest
  pub world : (run (by_slots ms) ms w all budget).world ≡ left

-- a call of what a global of a module holds
abbrev pub request : ℕ → List ℕ → List PlainValue → Request
request number name values = record { number = number; name = name; values = values }

-- The same of one call.
pub record IsCall (took : List Event → Type 0) (wrote : List ℕ → Type 0) (ms : List Module)
    (w : World) (r : Request) (budget : ℕ) (answer : Answer) (left : World)
    (all rest : List ℕ) : Type 0 where
  pub returned : plain_called answer.called ≡ (called (by_slots ms) ms w all r budget).returned
  pub steps : answer.steps ≡ (called (by_slots ms) ms w all r budget).steps
  pub told : took (called (by_slots ms) ms w all r budget).events
  pub written : wrote (called (by_slots ms) ms w all r budget).out
  pub input : (called (by_slots ms) ms w all r budget).input ≡ rest
  pub world : (called (by_slots ms) ms w all r budget).world ≡ left

-- the events that were told are the first of these events, and the sink gained the first of these
-- bytes
pub record StopsIn (took : List Event → Type 0) (said : Type 0) (before after : List ℕ)
    (events : List Event) (out : List ℕ) : Type 0 where
  pub told : List Event
  pub has_told : took told
  pub first : IsPrefix told events
  pub wrote : said → GainsPrefix before after out

-- A run that was given up, and that has this input: what was told and written is what the
-- definition's run begins with.
abbrev pub StopsRun : (List Event → Type 0) → Type 0 → List ℕ → List ℕ → List Module → World
    → ℕ → List ℕ → Type 0
StopsRun took said before after ms w budget all =
    let r = run (by_slots ms) ms w all budget in
    StopsIn took said before after r.events r.out

-- The same of one call.
abbrev pub StopsCall : (List Event → Type 0) → Type 0 → List ℕ → List ℕ → List Module → World
    → Request → ℕ → List ℕ → Type 0
StopsCall took said before after ms w r budget all =
    let y = called (by_slots ms) ms w all r budget in
    StopsIn took said before after y.events y.out
