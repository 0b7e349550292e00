-- Calls that end at once.
use Rattle.std.proofs.Common.{◌≡◌, ℕ, List, [], ◌++◌, refl, sym, ap, ◌∙◌, append-nil}
use Rattle.std.specs.Prelude.{Vec, Result, Ok, Err}
use Rattle.std.specs.declared.alloc.Global.{Global}
use Rattle.cov_event.specs.declared.event.Event.{Event}
use Rattle.cov_event.specs.Moves.{Takes}
use Rattle.py_value.specs.declared.builtin.Builtin.{Builtin}
use Rattle.py_value.specs.declared.value.Raised.{Raised}
use Rattle.py_value.specs.declared.value.Value.{Value}
use Rattle.py_value.specs.HeapView.{plain_heap}
use Rattle.py_value.specs.Plain.{PlainValue, PlainHeap}
use Rattle.py_value.specs.View.{plains, plain_outcome}
use Rattle.py_builtins.specs.Arguments.{Answer}
use Rattle.py_builtins.specs.Attributes.{or_raise}
use Rattle.py_builtins.specs.Builtins.{builtin_of}
use Rattle.py_builtins.specs.Faults.{name_unknown}
use Rattle.py_builtins.specs.World.{with_heap, global_of}
use Rattle.py_builtins.specs.Inputs.{OnReads, Gives, Wrote}
use Rattle.py_code.specs.Configurations.{Effects, End}
use Rattle.py_code.specs.Machine.{by_answer, by_done, outer_call, follows}
use Rattle.py_code.specs.Slots.{by_slots}
use Rattle.py_code.specs.Units.{Module}
use Rattle.py_world.specs.declared.store.Store.{Store}
use Rattle.py_world.specs.Stores.{world_of}
use Rattle.py_instructions.specs.View.{Outside, effects_of}
use Rattle.py_code.specs.Programs.{reach_global}
use Rattle.py_machine.specs.declared.ending.Ending.{Ending}
use Rattle.py_machine.specs.declared.ending.Ending.TheVariants.{Gave, Failed}
use Rattle.py_instructions.specs.declared.reach.Reach.{Reach as RawReach}
use Rattle.py_instructions.specs.declared.reach.Reach.TheVariants.{Gives as GivesValue, Raises, Asks}
use Rattle.py_instructions.specs.Reaching.{plain_reach}
use Rattle.py_machine.specs.Told.{OnInput, Ran, ended}
use Rattle.py_machine.proofs.Hearing.{heard_as, heard_nothing, of_reads}
use Rattle.py_machine.proofs.Joins.{at, wrote_none}

-- the run is the same as another
pub ran_as : (tells : Type 0) (i0 i1 : List ℕ) (took : List Event → Type 0) (wrote : List ℕ → Type 0) (before other : Outside → End) (how : Ending) (steps : ℕ) (s : Store)
    → ((o : Outside) → before o ≡ other o) → OnInput tells i0 i1 (Ran took wrote other how steps s) → OnInput tells i0 i1 (Ran took wrote before how steps s)
ran_as tells i0 i1 took wrote before other how steps s h r =
    heard_as tells i0 (λ rest. rest ≡ i1) (Ran took wrote other how steps s) (Ran took wrote before how steps s) (λ all rest x. record {
      events = x.events;
      out = x.out;
      has_told = x.has_told;
      has_said = x.has_said;
      is = λ w es. h (record { input = all; out = w; events = es }) ∙ x.is w es;
    }) r

-- nothing is told, written and read
pub ends_at_once : {T : Type 0} (moves : T → Event → T → Type 0) (a : T) (said : Type 0) (o0 : List ℕ) (tells : Type 0) (i0 : List ℕ) (before : Outside → End) (how : Ending) (steps : ℕ) (s : Store)
    → ((o : Outside) → before o ≡ ended how steps (effects_of s o)) → OnInput tells i0 i0 (Ran (λ es. Takes moves a es a) (Wrote said o0 o0) before how steps s)
ends_at_once moves a said o0 tells i0 before how steps s h =
    heard_nothing tells i0 (Ran (λ es. Takes moves a es a) (Wrote said o0 o0) before how steps s) (λ all. record {
      events = [];
      out = [];
      has_told = refl;
      has_said = wrote_none said o0;
      is = λ w es.
          h (record { input = all; out = w; events = es })
          ∙ ap (λ o. ended how steps (effects_of s o)) (at all _ _ _ _ (sym (append-nil w)) (sym (append-nil es)));
    })

module _ {T : Type 0} (moves : T → Event → T → Type 0) (a : T) (said : Type 0) (o0 o1 : List ℕ) (tells : Type 0) (i0 i1 : List ℕ) (ms : List Module) (which : Builtin) (values : Vec Value Global) (budget : ℕ)
    (s s1 : Store) (answer : Answer) (how : Ending)
    (r : OnReads tells i0 i1 (λ all rest. Gives (builtin_of which (plains values.items) (plain_heap s.heap) all) answer (Wrote said o0 o1) rest))
    (h : (o : Outside) → follows (by_slots ms) ms (outer_call (by_slots ms) ms (by_answer answer (effects_of s o)) budget (effects_of s o)) ≡ ended how budget (effects_of s1 o)) where
  abbrev called : Answer → Effects → Effects → End
  called x e first = follows (by_slots ms) ms (outer_call (by_slots ms) ms (by_answer x e) budget first)

  same : (x : Answer) (e first other : Effects) → called x e first ≡ called x e other
  same (Ok p) e first other = refl
  same (Err raised) e first other = refl

  -- a built-in function
  pub asks_at_once : OnInput tells i0 i1 (Ran (λ es. Takes moves a es a) (Wrote said o0 o1)
      (λ o. follows (by_slots ms) ms (outer_call (by_slots ms) ms (by_done (builtin_of which (plains values.items) (plain_heap s.heap) o.input) (effects_of s o)) budget (effects_of s o))) how budget s1)
  asks_at_once =
      heard_as tells i0 (λ rest. rest ≡ i1) (λ all rest. Gives (builtin_of which (plains values.items) (plain_heap s.heap) all) answer (Wrote said o0 o1) rest) _ (λ all rest gives.
      let done = builtin_of which (plains values.items) (plain_heap s.heap) all in
      record {
        events = [];
        out = done.written;
        has_told = refl;
        has_said = gives.1;
        is = λ w es.
            let first : Outside = record { input = all; out = w; events = es } in
            let last : Outside = record { input = rest; out = w ++ done.written; events = es } in
            ap (λ x. called x (effects_of s (record { input = done.left; out = w ++ done.written; events = es })) (effects_of s first)) (sym gives.0)
            ∙ ap (λ x. called answer (effects_of s (record { input = x; out = w ++ done.written; events = es })) (effects_of s first)) (sym gives.2)
            ∙ same answer (effects_of s last) (effects_of s first) (effects_of s last)
            ∙ h last
            ∙ ap (λ z. ended how budget (effects_of s1 (record { input = rest; out = w ++ done.written; events = z }))) (sym (append-nil es));
      })
      (of_reads tells i0 i1 (λ all rest. Gives (builtin_of which (plains values.items) (plain_heap s.heap) all) answer (Wrote said o0 o1) rest) r)

-- its value, or its exception
module _ {T : Type 0} (moves : T → Event → T → Type 0) (a : T) (said : Type 0) (o0 o1 : List ℕ) (tells : Type 0) (i0 i1 : List ℕ) (ms : List Module) (which : Builtin) (values : Vec Value Global) (budget : ℕ)
    (s s1 : Store) (reach : RawReach) (is : reach ≡ Asks which values) (answer : Result Value Raised) (h : PlainHeap)
    (r : OnReads tells i0 i1 (λ all rest. Gives (builtin_of which (plains values.items) (plain_heap s.heap) all) (plain_outcome answer h) (Wrote said o0 o1) rest)) where
  abbrev leads : Outside → End
  leads o = follows (by_slots ms) ms (outer_call (by_slots ms) ms (plain_reach reach (effects_of s o)) budget (effects_of s o))

  abbrev answered : Result Value Raised → Outside → End
  answered x o = follows (by_slots ms) ms (outer_call (by_slots ms) ms (by_answer (plain_outcome x h) (effects_of s o)) budget (effects_of s o))

  asks_as : (how : Ending) → ((o : Outside) → answered answer o ≡ ended how budget (effects_of s1 o)) → OnInput tells i0 i1 (Ran (λ es. Takes moves a es a) (Wrote said o0 o1) leads how budget s1)
  asks_as how k =
      ran_as tells i0 i1 (λ es. Takes moves a es a) (Wrote said o0 o1) leads _ how budget s1 (λ o. ap (λ x. follows (by_slots ms) ms (outer_call (by_slots ms) ms (plain_reach x (effects_of s o)) budget (effects_of s o))) is)
      (asks_at_once moves a said o0 o1 tells i0 i1 ms which values budget s s1 (plain_outcome answer h) how r k)

  pub asks_gives : (v : Value) → answer ≡ Ok v → world_of s1 ≡ with_heap h (world_of s) → OnInput tells i0 i1 (Ran (λ es. Takes moves a es a) (Wrote said o0 o1) leads (Gave v) budget s1)
  asks_gives v e w =
      asks_as (Gave v) (λ o. ap (λ x. answered x o) e ∙ ap (λ z. let f : Effects = record { world = z; input = o.input; out = o.out; events = o.events } in ended (Gave v) budget f) (sym w))

  pub asks_raises : (raised : Raised) → answer ≡ Err raised → world_of s1 ≡ world_of s → OnInput tells i0 i1 (Ran (λ es. Takes moves a es a) (Wrote said o0 o1) leads (Failed raised) budget s1)
  asks_raises raised e w =
      asks_as (Failed raised) (λ o. ap (λ x. answered x o) e ∙ ap (λ z. let f : Effects = record { world = z; input = o.input; out = o.out; events = o.events } in ended (Failed raised) budget f) (sym w))

-- what a call led to
module _ {T : Type 0} (moves : T → Event → T → Type 0) (a : T) (said : Type 0) (o0 : List ℕ) (tells : Type 0) (i0 : List ℕ) (ms : List Module) (budget : ℕ) (s : Store) (reach : RawReach) where
  abbrev to : RawReach → Outside → End
  to x o = follows (by_slots ms) ms (outer_call (by_slots ms) ms (plain_reach x (effects_of s o)) budget (effects_of s o))

  pub gives_at_once : (v : Value) → reach ≡ GivesValue v → OnInput tells i0 i0 (Ran (λ es. Takes moves a es a) (Wrote said o0 o0) (to reach) (Gave v) budget s)
  gives_at_once v is = ends_at_once moves a said o0 tells i0 (to reach) (Gave v) budget s (λ o. ap (λ x. to x o) is)

  pub raises_at_once : (raised : Raised) → reach ≡ Raises raised → OnInput tells i0 i0 (Ran (λ es. Takes moves a es a) (Wrote said o0 o0) (to reach) (Failed raised) budget s)
  raises_at_once raised is = ends_at_once moves a said o0 tells i0 (to reach) (Failed raised) budget s (λ o. ap (λ x. to x o) is)

-- the call of a global, by what it led to
pub reach_is : (ms : List Module) (s : Store) (number : ℕ) (x name : List ℕ) (us vs : List PlainValue) (reach : RawReach) → x ≡ name → us ≡ vs
    → ((o : Outside) → reach_global ms (or_raise (name_unknown x) (global_of number x (world_of s))) us (effects_of s o) ≡ plain_reach reach (effects_of s o))
    → (o : Outside) → reach_global ms (or_raise (name_unknown name) (global_of number name (world_of s))) vs (effects_of s o) ≡ plain_reach reach (effects_of s o)
reach_is ms s number x name us vs reach e f h o =
    sym (ap (λ z. reach_global ms (or_raise (name_unknown z) (global_of number z (world_of s))) us (effects_of s o)) e
    ∙ ap (λ zs. reach_global ms (or_raise (name_unknown name) (global_of number name (world_of s))) zs (effects_of s o)) f)
    ∙ h o
