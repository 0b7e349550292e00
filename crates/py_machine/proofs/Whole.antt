-- A run of the machine, as the definition of runs has it.
use Rattle.std.proofs.Common.{◌≡◌, ℕ, ◌-◌, ◌<◌, List, [], ◌∷◌, length, Some, refl, sym, ap, ◌∙◌, subst, arith}
use Rattle.std.specs.Prelude.{slice_get}
use Rattle.cov_event.specs.declared.event.Event.{Event}
use Rattle.py_value.specs.HeapView.{plain_heap}
use Rattle.py_code.specs.Configurations.{End}
use Rattle.py_code.specs.Laws.{IsOver, NeverMisses}
use Rattle.py_code.specs.Machine.{outermost, outer_call, follows}
use Rattle.py_builtins.specs.Attributes.{or_raise}
use Rattle.py_builtins.specs.Faults.{name_unknown}
use Rattle.py_builtins.specs.World.{global_of}
use Rattle.py_code.specs.Programs.{Run, script, outcome_by, run_by, end_of_run, run, Request, Reply, reach_global, returned_by, reply_by, end_of_call, called}
use Rattle.py_code.specs.Slots.{by_slots}
use Rattle.py_code.specs.Units.{Code, Module}
use Rattle.py_code.specs.Valid.{AreCodes}
use Rattle.py_code.proofs.Codes.{never_misses}
use Rattle.py_machine.specs.declared.ending.Ending.{Ending}
use Rattle.py_machine.specs.declared.outcome.Outcome.{Outcome}
use Rattle.py_world.specs.declared.store.Store.{Store}
use Rattle.py_machine.specs.declared.outcome.Called.{Called}
use Rattle.py_machine.specs.Outcomes.{plain_outcome, plain_called}
use Rattle.py_machine.specs.Runs.{IsRun, IsCall}
use Rattle.py_instructions.specs.Reaching.{HasUnit}
use Rattle.py_machine.specs.Told.{OnInput, Ran, ended}
use Rattle.py_machine.specs.Endings.{plain_ended}
use Rattle.py_world.specs.Stores.{world_of}
use Rattle.py_instructions.specs.View.{Slots, effects_of}
use Rattle.py_machine.proofs.Hearing.{heard_as}

module _ (took : List Event → Type 0) (wrote : List ℕ → Type 0) (ms : List Module) (s s2 : Store) (budget steps : ℕ) (ending : Ending) (all rest : List ℕ) where
  end_is : (x : Ran took wrote (λ o. follows (by_slots ms) ms (outermost (by_slots ms) ms script [] budget (effects_of s o))) ending steps s2 all rest)
      → end_of_run (by_slots ms) ms (world_of s) all budget ≡ ended ending steps (effects_of s2 (record { input = rest; out = x.out; events = x.events }))
  unfolding end_of_run
  end_is x = x.is [] []

  run_is : (x : Ran took wrote (λ o. follows (by_slots ms) ms (outermost (by_slots ms) ms script [] budget (effects_of s o))) ending steps s2 all rest)
      → run (by_slots ms) ms (world_of s) all budget ≡ run_by budget (ended ending steps (effects_of s2 (record { input = rest; out = x.out; events = x.events })))
  unfolding run
  run_is x = ap (run_by budget) (end_is x)

  run_over : 0 < length ms → AreCodes ms → Ran took wrote (λ o. follows (by_slots ms) ms (outermost (by_slots ms) ms script [] budget (effects_of s o))) ending steps s2 all rest → IsOver (plain_ended ending)
  run_over some codes x = let law : NeverMisses Slots = never_misses in subst (λ (e : End). IsOver e.how) (end_is x) (law.run (by_slots ms) ms some codes (world_of s) all budget)

  one_run : (n : ℕ) (outcome : Outcome) → Ran took wrote (λ o. follows (by_slots ms) ms (outermost (by_slots ms) ms script [] budget (effects_of s o))) ending steps s2 all rest
      → plain_outcome outcome ≡ outcome_by (plain_heap s2.heap) (plain_ended ending) → n ≡ budget - steps → IsRun took wrote ms (world_of s) budget (record { outcome = outcome; steps = n }) (world_of s2) all rest
  one_run n outcome x e f = record {
    outcome = e ∙ ap (λ (r : Run). r.outcome) (sym (run_is x));
    steps = f ∙ ap (λ (r : Run). r.steps) (sym (run_is x));
    told = subst took (ap (λ (r : Run). r.events) (sym (run_is x))) x.has_told;
    written = subst wrote (ap (λ (r : Run). r.out) (sym (run_is x))) x.has_said;
    input = ap (λ (r : Run). r.input) (run_is x);
    world = ap (λ (r : Run). r.world) (run_is x);
  }

pub is_run : (tells : Type 0) (i0 i1 : List ℕ) (took : List Event → Type 0) (wrote : List ℕ → Type 0) (ms : List Module) (s s2 : Store) (budget steps n : ℕ) (ending : Ending) (outcome : Outcome)
    → OnInput tells i0 i1 (Ran took wrote (λ o. follows (by_slots ms) ms (outermost (by_slots ms) ms script [] budget (effects_of s o))) ending steps s2)
    → plain_outcome outcome ≡ outcome_by (plain_heap s2.heap) (plain_ended ending) → n ≡ budget - steps
    → OnInput tells i0 i1 (IsRun took wrote ms (world_of s) budget (record { outcome = outcome; steps = n }) (world_of s2))
is_run tells i0 i1 took wrote ms s s2 budget steps n ending outcome r e f =
    heard_as tells i0 (λ rest. rest ≡ i1) (Ran took wrote (λ o. follows (by_slots ms) ms (outermost (by_slots ms) ms script [] budget (effects_of s o))) ending steps s2)
    (IsRun took wrote ms (world_of s) budget (record { outcome = outcome; steps = n }) (world_of s2)) (λ all rest x. one_run took wrote ms s s2 budget steps ending all rest n outcome x e f) r

-- it isn't stuck
pub ran_over : (tells : Type 0) (i0 i1 : List ℕ) (took : List Event → Type 0) (wrote : List ℕ → Type 0) (ms : List Module) → 0 < length ms → AreCodes ms → (s s2 : Store) (budget steps : ℕ) (ending : Ending)
    → OnInput tells i0 i1 (Ran took wrote (λ o. follows (by_slots ms) ms (outermost (by_slots ms) ms script [] budget (effects_of s o))) ending steps s2) → IsOver (plain_ended ending)
ran_over tells i0 i1 took wrote ms some codes s s2 budget steps ending r = run_over took wrote ms s s2 budget steps ending r.input r.rest some codes (r.holds r.input r.rest r.fed)

first_unit : (us : List Code) → 0 < length us → (u : Code) × (slice_get us 0 ≡ Some u)
first_unit [] lt = absurd (omega arith)
first_unit (u ∷ us) lt = (u, refl)

-- the script has a body
pub script_unit : (ms : List Module) → 0 < length ms → AreCodes ms → HasUnit ms script
script_unit [] lt h = absurd (omega arith)
script_unit (m ∷ ms) lt h = first_unit m.units h.0.1.body

module _ (took : List Event → Type 0) (wrote : List ℕ → Type 0) (ms : List Module) (s s2 : Store) (r : Request) (budget steps : ℕ) (ending : Ending) (all rest : List ℕ) where
  abbrev Came : Type 0
  Came = Ran took wrote (λ o. follows (by_slots ms) ms (outer_call (by_slots ms) ms (reach_global ms (or_raise (name_unknown r.name) (global_of r.number r.name (world_of s))) r.values (effects_of s o)) budget (effects_of s o))) ending steps s2 all rest

  call_end_is : (x : Came) → end_of_call (by_slots ms) ms (world_of s) all r budget ≡ ended ending steps (effects_of s2 (record { input = rest; out = x.out; events = x.events }))
  unfolding end_of_call
  call_end_is x = x.is [] []

  call_is : (x : Came) → called (by_slots ms) ms (world_of s) all r budget ≡ reply_by budget (ended ending steps (effects_of s2 (record { input = rest; out = x.out; events = x.events })))
  unfolding called
  call_is x = ap (reply_by budget) (call_end_is x)

  call_over : 0 < length ms → AreCodes ms → Came → IsOver (plain_ended ending)
  call_over some codes x = let law : NeverMisses Slots = never_misses in subst (λ (e : End). IsOver e.how) (call_end_is x) (law.call (by_slots ms) ms some codes (world_of s) all r budget)

  one_call : (n : ℕ) (how : Called) → Came → plain_called how ≡ returned_by (plain_heap s2.heap) (plain_ended ending) → n ≡ budget - steps → IsCall took wrote ms (world_of s) r budget (record { called = how; steps = n }) (world_of s2) all rest
  one_call n how x e f = record {
    returned = e ∙ ap (λ (y : Reply). y.returned) (sym (call_is x));
    steps = f ∙ ap (λ (y : Reply). y.steps) (sym (call_is x));
    told = subst took (ap (λ (y : Reply). y.events) (sym (call_is x))) x.has_told;
    written = subst wrote (ap (λ (y : Reply). y.out) (sym (call_is x))) x.has_said;
    input = ap (λ (y : Reply). y.input) (call_is x);
    world = ap (λ (y : Reply). y.world) (call_is x);
  }

pub is_call : (tells : Type 0) (i0 i1 : List ℕ) (took : List Event → Type 0) (wrote : List ℕ → Type 0) (ms : List Module) (s s2 : Store) (r : Request) (budget steps n : ℕ) (ending : Ending) (how : Called)
    → OnInput tells i0 i1 (Came took wrote ms s s2 r budget steps ending)
    → plain_called how ≡ returned_by (plain_heap s2.heap) (plain_ended ending) → n ≡ budget - steps
    → OnInput tells i0 i1 (IsCall took wrote ms (world_of s) r budget (record { called = how; steps = n }) (world_of s2))
is_call tells i0 i1 took wrote ms s s2 r budget steps n ending how x e f =
    heard_as tells i0 (λ rest. rest ≡ i1) (Came took wrote ms s s2 r budget steps ending)
    (IsCall took wrote ms (world_of s) r budget (record { called = how; steps = n }) (world_of s2)) (λ all rest y. one_call took wrote ms s s2 r budget steps ending all rest n how y e f) x

-- it isn't stuck
pub called_over : (tells : Type 0) (i0 i1 : List ℕ) (took : List Event → Type 0) (wrote : List ℕ → Type 0) (ms : List Module) → 0 < length ms → AreCodes ms → (s s2 : Store) (r : Request) (budget steps : ℕ) (ending : Ending)
    → OnInput tells i0 i1 (Came took wrote ms s s2 r budget steps ending) → IsOver (plain_ended ending)
called_over tells i0 i1 took wrote ms some codes s s2 r budget steps ending x = call_over took wrote ms s s2 r budget steps ending x.input x.rest some codes (x.holds x.input x.rest x.fed)
