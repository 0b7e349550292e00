-- What a machine does with the code of a program's files, and what these mean.
use Prim.Native.String.{String}
use Rattle.std.specs.Prelude.{◌≡◌, ℕ, List, map, codes}
use Rattle.cov_event.specs.declared.event.Event.{Event}
use Rattle.py_builtins.specs.Outcomes.{Outcome}
use Rattle.py_builtins.specs.World.{World}
use Rattle.py_code.specs.Programs as machine
use Rattle.py_code.specs.Slots.{by_slots}
use Rattle.py_code.specs.Units.{Module}
use Rattle.py_meaning.proofs.Sources.{program}
use Rattle.py_meaning.specs.Events.{events_in}
use Rattle.py_meaning.specs.Loading.{Files, loaded}
use Rattle.py_meaning.specs.Program.{run_modules}
use Rattle.py_compile.specs.Units.{compiled}

-- how it ends, what it writes, the input that is left, the steps, the events and the world at the end
pub record Seen : Type 0 where
  pub outcome : Outcome
  pub out : List ℕ
  pub input : List ℕ
  pub steps : ℕ
  pub events : List Event
  pub world : World

abbrev pub ran : Files → List String → List ℕ → ℕ → Seen
ran files words input budget =
    let ms : List Module = map compiled (loaded (program files)) in
    let r = machine.run (by_slots ms) ms (machine.first_world ms (map codes words)) input budget in
    record { outcome = r.outcome; out = r.out; input = r.input; steps = r.steps; events = r.events; world = r.world }

abbrev pub meant : Files → List String → List ℕ → ℕ → Seen
meant files words input budget =
    let r = run_modules (loaded (program files)) (map codes words) input budget in
    record { outcome = r.outcome; out = r.out; input = r.input; steps = r.steps; events = events_in r.items; world = r.world }

abbrev pub Agrees : Files → List String → List ℕ → ℕ → Type 0
Agrees files words input budget = ran files words input budget ≡ meant files words input budget
