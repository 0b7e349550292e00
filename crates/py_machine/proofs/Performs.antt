-- What is left of an instruction.
use Rattle.std.proofs.Common.{◌≡◌, ℕ, suc, List, [], ◌∷◌, ◌++◌, Bool, map, Option, None, refl, sym, ap, ◌∙◌, subst, append-nil, inl}
use Rattle.std.specs.Prelude.{Vec, Result, Ok, Err, OnErr}
use Rattle.std.specs.declared.alloc.Global.{Global}
use Rattle.cov_event.specs.declared.event.Event.{Event}
use Rattle.cov_event.specs.Moves.{Takes}
use Rattle.cov_outside.specs.Prefixes.{GainsPrefix}
use Rattle.py_value.specs.declared.builtin.Builtin.{Builtin}
use Rattle.py_value.specs.declared.heap.Heap.{Heap}
use Rattle.py_value.specs.declared.value.Raised.{Raised}
use Rattle.py_value.specs.declared.value.Value.{Value}
use Rattle.py_value.specs.Plain.{PlainHeap}
use Rattle.py_value.specs.View.{plain, plains, plain_raised, plain_outcome}
use Rattle.py_value.specs.HeapView.{plain_heap}
use Rattle.py_builtins.specs.Arguments.{Answer}
use Rattle.py_builtins.specs.Builtins.{builtin_of}
use Rattle.py_builtins.specs.Inputs.{OnReads, Gives, Wrote}
use Rattle.py_builtins.specs.World.{World, with_heap}
use Rattle.py_code.specs.Configurations.{Effects, Configuration, Next}
use Rattle.py_code.specs.Machine.{throw, calls, by_answer}
use Rattle.py_code.specs.Run.{Goes}
use Rattle.py_code.specs.Slots.{by_slots}
use Rattle.py_code.specs.Units.{Module}
use Rattle.py_machine.specs.declared.ending.Ending.{Ending}
use Rattle.py_instructions.specs.declared.frame.State.{State}
use Rattle.py_instructions.specs.declared.operand.Operand.{Operand as RawOperand}
use Rattle.py_instructions.specs.declared.operand.Operand.TheVariants.{Value as OfValue}
use Rattle.py_world.specs.declared.store.Store.{Store}
use Rattle.py_instructions.specs.declared.turn.Turn.TheVariants.{Asks}
use Rattle.py_machine.specs.Told.{PartOnInput, IsAtEnd, Went, Tells, Part, Step}
use Rattle.py_world.specs.Stores.{world_of}
use Rattle.py_instructions.specs.View.{Slots, Outside, plain_operands, plain_frame, effects_of, seen, turned}
use Rattle.py_machine.proofs.Hearing.{hears_as, hears_nothing}
use Rattle.py_machine.proofs.Joins.{wrote_none}

-- a built-in function answers so
abbrev pub Given : Type 0 → List ℕ → List ℕ → Builtin → Vec Value Global → Store → Answer → List ℕ → List ℕ → Type 0
Given said o0 o1 which values s answer all rest = Gives (builtin_of which (plains values.items) (plain_heap s.heap) all) answer (Wrote said o0 o1) rest

abbrev outside : List ℕ → List ℕ → List Event → Outside
outside rest w es = record { input = rest; out = w; events = es }

module _ {T : Type 0} (moves : T → Event → T → Type 0) (said : Type 0) (tells : Type 0) (was : Bool) (before : Outside → Next Slots) (now : Outside → Configuration Slots) (how : Option Ending) where
  -- a part that tells events alone
  pub only_told : (a b : T) (o0 i0 : List ℕ) → IsAtEnd was tells i0 → Tells (λ es. Takes moves a es b) before now how → Step tells i0 i0 was was (λ es. Takes moves a es b) (Wrote said o0 o0) before now how
  only_told a b o0 i0 over p = hears_nothing tells was i0 over (Part (λ es. Takes moves a es b) (Wrote said o0 o0) before now how) part
    where
      part : (all : List ℕ) → Part (λ es. Takes moves a es b) (Wrote said o0 o0) before now how all all
      part all = record {
        events = p.events;
        out = [];
        has_told = p.has_told;
        has_said = wrote_none said o0;
        is = λ w es. subst (λ o. Went how (before (outside all w es)) (now o)) (ap (λ v. outside all v (es ++ p.events)) (sym (append-nil w))) (p.is (outside all w es));
      }

  -- one that tells nothing
  pub quiet : (a : T) (o0 i0 : List ℕ) → IsAtEnd was tells i0 → ((o : Outside) → Went how (before o) (now o)) → Step tells i0 i0 was was (λ es. Takes moves a es a) (Wrote said o0 o0) before now how
  quiet a o0 i0 over h =
      only_told a a o0 i0 over (record {
        events = [];
        has_told = refl;
        is = λ o. subst (λ x. Went how (before o) (now x)) (ap (λ z. outside o.input o.out z) (sym (append-nil o.events))) (h o);
      })

module _ {T : Type 0} (moves : T → Event → T → Type 0) (said : Type 0) (tells : Type 0) (o0 o1 i0 i1 : List ℕ) (was is : Bool) (ms : List Module) (which : Builtin) (values : Vec Value Global) (m : State) (s : Store) where
  abbrev asking : Outside → Next Slots
  asking o = turned ms (Asks which values) (seen m s o)

  abbrev effects : World → Outside → Effects
  effects v o = record { world = v; input = o.input; out = o.out; events = o.events }

  module _ (answer : Answer) (r : PartOnInput tells i0 i1 was is (Given said o0 o1 which values s answer)) (a b : T) (now : Outside → Configuration Slots) (how : Option Ending) (events : List Event) (took : Takes moves a events b)
      (goes : (o : Outside) → Went how (calls (by_slots ms) ms (by_answer answer (effects (world_of s) o)) (plain_operands m.top.operands) (seen m s o)) (now (record o { events = o.events ++ events }))) where
    part : (all rest : List ℕ) → Given said o0 o1 which values s answer all rest → Part (λ es. Takes moves a es b) (Wrote said o0 o1) asking now how all rest
    part all rest gives =
        let done = builtin_of which (plains values.items) (plain_heap s.heap) all in
        record {
          events = events;
          out = done.written;
          has_told = took;
          has_said = gives.1;
          is = λ w es.
              subst (λ n. Went how n (now (outside rest (w ++ done.written) (es ++ events))))
              (ap (λ x. calls (by_slots ms) ms (by_answer x (effects (world_of s) (outside rest (w ++ done.written) es))) (plain_operands m.top.operands) (seen m s (outside all w es))) gives.0
              ∙ ap (λ x. calls (by_slots ms) ms (by_answer done.answer (effects (world_of s) (outside x (w ++ done.written) es))) (plain_operands m.top.operands) (seen m s (outside all w es))) gives.2)
              (change all w es rest done.written);
        }
      where
        same : (x : Answer) (all w : List ℕ) (es : List Event) (rest written : List ℕ)
            → calls (by_slots ms) ms (by_answer x (effects (world_of s) (outside rest (w ++ written) es))) (plain_operands m.top.operands) (seen m s (outside rest (w ++ written) es))
            ≡ calls (by_slots ms) ms (by_answer x (effects (world_of s) (outside rest (w ++ written) es))) (plain_operands m.top.operands) (seen m s (outside all w es))
        same (Ok p) all w es rest written = refl
        same (Err e) all w es rest written = refl

        change : (all w : List ℕ) (es : List Event) (rest written : List ℕ)
            → Went how (calls (by_slots ms) ms (by_answer answer (effects (world_of s) (outside rest (w ++ written) es))) (plain_operands m.top.operands) (seen m s (outside all w es))) (now (outside rest (w ++ written) (es ++ events)))
        change all w es rest written = subst (λ n. Went how n (now (outside rest (w ++ written) (es ++ events)))) (same answer all w es rest written) (goes (outside rest (w ++ written) es))

    pub answered : Step tells i0 i1 was is (λ es. Takes moves a es b) (Wrote said o0 o1) asking now how
    answered = hears_as tells i0 i1 was is (Given said o0 o1 which values s answer) (Part (λ es. Takes moves a es b) (Wrote said o0 o1) asking now how) part r

-- another move, that is the same
pub step_as : (tells : Type 0) (i0 i1 : List ℕ) (was is : Bool) (took : List Event → Type 0) (wrote : List ℕ → Type 0) (before other : Outside → Next Slots) (now : Outside → Configuration Slots) (how : Option Ending)
    → ((o : Outside) → before o ≡ other o) → Step tells i0 i1 was is took wrote other now how → Step tells i0 i1 was is took wrote before now how
step_as tells i0 i1 was is took wrote before other now how h p = hears_as tells i0 i1 was is (Part took wrote other now how) (Part took wrote before now how) part p
  where
    part : (all rest : List ℕ) → Part took wrote other now how all rest → Part took wrote before now how all rest
    part all rest x = record {
      events = x.events;
      out = x.out;
      has_told = x.has_told;
      has_said = x.has_said;
      is = λ w es. subst (λ n. Went how n (now (outside rest (w ++ x.out) (es ++ x.events)))) (sym (h (outside all w es))) (x.is w es);
    }

-- the world of a machine in memory, taken from elsewhere
abbrev pub seen_in : State → World → Outside → Configuration Slots
seen_in m v o = record { top = plain_frame m.top; callers = map plain_frame m.callers; steps = m.steps; effects = record { world = v; input = o.input; out = o.out; events = o.events } }

-- the value of a built-in function is pushed
pub value_pushed : (ms : List Module) (m : State) (s s2 : Store) (v : Value) (h : PlainHeap) (place : ℕ) (pushed : List RawOperand) → world_of s2 ≡ with_heap h (world_of s) → place ≡ suc m.top.place → pushed ≡ OfValue v ∷ m.top.operands → (o : Outside)
    → Went None (calls (by_slots ms) ms (by_answer (Ok (plain v, h)) (effects_of s o)) (plain_operands m.top.operands) (seen m s o))
    (seen (record m { top = record m.top { place = place; operands = pushed } }) s2 (record o { events = o.events ++ [] }))
value_pushed ms m s s2 v h place pushed w e g o =
    let base : World → ℕ → List RawOperand → List Event → Next Slots = λ x p xs es. Goes (seen_in (record m { top = record m.top { place = p; operands = xs } }) x (record o { events = es })) in
    inl (ap (λ x. base x (suc m.top.place) (OfValue v ∷ m.top.operands) o.events) (sym w)
    ∙ ap (λ p. base (world_of s2) p (OfValue v ∷ m.top.operands) o.events) (sym e)
    ∙ ap (λ xs. base (world_of s2) place xs o.events) (sym g)
    ∙ ap (λ es. base (world_of s2) place pushed es) (sym (append-nil o.events)))

-- the exception of a built-in function is thrown
pub exception_thrown : (ms : List Module) (m : State) (s s2 : Store) (r : Raised) (took : List Event → Type 0) (now : Outside → Configuration Slots) (how : Option Ending) → world_of s2 ≡ world_of s
    → (p : Tells took (λ o. throw (by_slots ms) ms (plain_raised r) (seen m s2 o)) now how) (o : Outside)
    → Went how (calls (by_slots ms) ms (by_answer (Err (plain_raised r)) (effects_of s o)) (plain_operands m.top.operands) (seen m s o)) (now (record o { events = o.events ++ p.events }))
exception_thrown ms m s s2 r took now how w p o =
    subst (λ n. Went how n (now (record o { events = o.events ++ p.events }))) (ap (λ x. throw (by_slots ms) ms (plain_raised r) (seen_in m x o)) w) (p.is o)

-- a built-in function that the top frame asks for
module _ {T : Type 0} (moves : T → Event → T → Type 0) (said : Type 0) (tells : Type 0) (o0 o1 i0 i1 : List ℕ) (was is : Bool) (ms : List Module) (which : Builtin) (values : Vec Value Global) (m : State) (s s2 : Store)
    (answer : Result Value Raised) (h : PlainHeap) (r : PartOnInput tells i0 i1 was is (Given said o0 o1 which values s (plain_outcome answer h))) where
  abbrev given : Result Value Raised → Type 0
  given x = PartOnInput tells i0 i1 was is (Given said o0 o1 which values s (plain_outcome x h))

  pub asked_gives : (a : T) (v : Value) → answer ≡ Ok v → world_of s2 ≡ with_heap h (world_of s) → (place : ℕ) → place ≡ suc m.top.place → (pushed : List RawOperand) → pushed ≡ OfValue v ∷ m.top.operands
      → Step tells i0 i1 was is (λ es. Takes moves a es a) (Wrote said o0 o1) (λ o. turned ms (Asks which values) (seen m s o)) (seen (record m { top = record m.top { place = place; operands = pushed } }) s2) None
  asked_gives a v e w place f pushed g =
      answered moves said tells o0 o1 i0 i1 was is ms which values m s (Ok (plain v, h)) (subst given e r)
      a a (seen (record m { top = record m.top { place = place; operands = pushed } }) s2) None [] refl (value_pushed ms m s s2 v h place pushed w f g)

  pub asked_raises : (a b : T) (raised : Raised) → answer ≡ Err raised → world_of s2 ≡ world_of s → (now : Outside → Configuration Slots) (how : Option Ending)
      → Tells (λ es. Takes moves a es b) (λ o. throw (by_slots ms) ms (plain_raised raised) (seen m s2 o)) now how
      → Step tells i0 i1 was is (λ es. Takes moves a es b) (Wrote said o0 o1) (λ o. turned ms (Asks which values) (seen m s o)) now how
  asked_raises a b raised e w now how p =
      answered moves said tells o0 o1 i0 i1 was is ms which values m s (Err (plain_raised raised)) (subst given e r)
      a b now how p.events p.has_told (exception_thrown ms m s s2 raised (λ es. Takes moves a es b) now how w p)

-- a built-in function that raises leaves the world as it was
pub raised_keeps : (s : Store) (h : Heap) (answer : Result Value Raised) (raised : Raised) → answer ≡ Err raised → OnErr answer (plain_heap h ≡ plain_heap s.heap) → world_of (record s { heap = h }) ≡ world_of s
raised_keeps s h answer raised e k = ap (λ x. with_heap x (world_of s)) (subst (λ r. OnErr r (plain_heap h ≡ plain_heap s.heap)) e k)

-- what a built-in function said of equal values
pub reads_of : (tells : Type 0) (i0 i1 : List ℕ) (which : Builtin) (h : PlainHeap) (answer : Answer) (wrote : List ℕ → Type 0) (xs ys : List Value) → xs ≡ ys
    → OnReads tells i0 i1 (λ all rest. Gives (builtin_of which (plains xs) h all) answer wrote rest) → OnReads tells i0 i1 (λ all rest. Gives (builtin_of which (plains ys) h all) answer wrote rest)
reads_of tells i0 i1 which h answer wrote xs ys e r = subst (λ zs. OnReads tells i0 i1 (λ all rest. Gives (builtin_of which (plains zs) h all) answer wrote rest)) e r

pub hears_of : (tells : Type 0) (i0 i1 : List ℕ) (was is : Bool) (which : Builtin) (h : PlainHeap) (answer : Answer) (wrote : List ℕ → Type 0) (xs ys : List Value) → xs ≡ ys
    → PartOnInput tells i0 i1 was is (λ all rest. Gives (builtin_of which (plains xs) h all) answer wrote rest) → PartOnInput tells i0 i1 was is (λ all rest. Gives (builtin_of which (plains ys) h all) answer wrote rest)
hears_of tells i0 i1 was is which h answer wrote xs ys e r = subst (λ zs. PartOnInput tells i0 i1 was is (λ all rest. Gives (builtin_of which (plains zs) h all) answer wrote rest)) e r

pub gains_of : (said : Type 0) (o0 o1 : List ℕ) (which : Builtin) (h : PlainHeap) (i0 : List ℕ) (xs ys : List Value) → xs ≡ ys
    → (said → GainsPrefix o0 o1 (builtin_of which (plains xs) h i0).written) → said → GainsPrefix o0 o1 (builtin_of which (plains ys) h i0).written
gains_of said o0 o1 which h i0 xs ys e k t = subst (λ zs. GainsPrefix o0 o1 (builtin_of which (plains zs) h i0).written) e (k t)
