-- Calls, and whole runs, that are given up.
use Rattle.std.proofs.Common.{◌≡◌, ℕ, suc, List, [], ◌∷◌, ◌++◌, refl, sym, ap, ◌∙◌, subst, append_assoc, append-nil}
use Rattle.std.specs.Prelude.{Vec, Ok, Err}
use Rattle.std.specs.declared.alloc.Global.{Global}
use Rattle.cov_event.specs.declared.event.CodeId.{CodeId}
use Rattle.cov_event.specs.declared.event.Event.{Event}
use Rattle.cov_event.specs.declared.event.Event.TheVariants.{Call as Called}
use Rattle.cov_outside.specs.Prefixes.{IsPrefix, GainsPrefix, LosesPrefix}
use Rattle.py_value.specs.declared.builtin.Builtin.{Builtin}
use Rattle.py_value.specs.declared.value.Value.{Value}
use Rattle.py_value.specs.HeapView.{plain_heap}
use Rattle.py_value.specs.Plain.{PlainValue}
use Rattle.py_value.specs.View.{plains}
use Rattle.py_builtins.specs.declared.fault.RunFault.{RunFault}
use Rattle.py_builtins.specs.Arguments.{Answer}
use Rattle.py_builtins.specs.Attributes.{or_raise}
use Rattle.py_builtins.specs.Builtins.{Done, builtin_of}
use Rattle.py_builtins.specs.Faults.{name_unknown}
use Rattle.py_builtins.specs.World.{global_of}
use Rattle.py_code.specs.Configurations.{Effects, End}
use Rattle.py_code.specs.Machine.{by_answer, outer_call, outermost, follows}
use Rattle.py_code.specs.Programs.{Run, script, run_by, end_of_run, run, Request, Reply, reach_global, reply_by, end_of_call, called}
use Rattle.py_code.specs.Slots.{by_slots}
use Rattle.py_code.specs.Units.{Module}
use Rattle.py_world.specs.declared.store.Store.{Store}
use Rattle.py_world.specs.Stores.{world_of}
use Rattle.py_instructions.specs.View.{Outside, effects_of}
use Rattle.py_instructions.specs.declared.reach.Reach.{Reach as RawReach}
use Rattle.py_instructions.specs.declared.reach.Reach.TheVariants.{Asks}
use Rattle.py_instructions.specs.Reaching.{plain_reach}
use Rattle.py_machine.specs.Runs.{StopsRun, StopsCall}
use Rattle.py_machine.specs.Told.{Grown, TakesUntil, OnInputUntil, RunGivenUp}
use Rattle.py_machine.proofs.GivesUp.{takes_until_all}
use Rattle.py_machine.proofs.Grows.{grown_same, follows_grow, outermost_grows, outer_grows, global_reached}
use Rattle.py_machine.proofs.Hearing.{heard_as, heard_lost}
use Rattle.py_machine.proofs.Following.{same_written}
use Rattle.py_machine.proofs.Throws.{and_told}

-- a built-in function that nothing waits for, and that was given up
module _ {T : Type 0} (moves refused : T → Event → T → Type 0) (fault : RunFault) (said : Type 0) (tells : Type 0) (o0 o1 i0 i1 : List ℕ) (ms : List Module) (which : Builtin) (values : Vec Value Global) (budget : ℕ)
    (s : Store) (reach : RawReach) (is : reach ≡ Asks which values) where
  abbrev outside : List ℕ → List ℕ → List Event → Outside
  outside all w es = record { input = all; out = w; events = es }

  abbrev to : RawReach → Outside → End
  to x o = follows (by_slots ms) ms (outer_call (by_slots ms) ms (plain_reach x (effects_of s o)) budget (effects_of s o))

  abbrev done_with : List ℕ → Done
  done_with all = builtin_of which (plains values.items) (plain_heap s.heap) all

  begins : (all w out : List ℕ) (es : List Event) → IsPrefix out (done_with all).written → Grown (effects_of s (outside all (w ++ out) es)) (to reach (outside all w es)).effects
  begins all w out es p =
      let d = done_with all in
      let last : Effects = record { world = world_of s; input = d.left; out = w ++ d.written; events = es } in
      let written : IsPrefix (w ++ out) (w ++ d.written) = record { rest = p.rest; is = ap (λ z. w ++ z) p.is ∙ sym (append_assoc w out p.rest) } in
      subst (λ x. Grown (effects_of s (outside all (w ++ out) es)) (to x (outside all w es)).effects) (sym is) (at_end d.answer last (record { rest = []; is = sym (append-nil es) }, written))
    where
      at_end : (answer : Answer) (last : Effects) → Grown (effects_of s (outside all (w ++ out) es)) last
          → Grown (effects_of s (outside all (w ++ out) es)) (follows (by_slots ms) ms (outer_call (by_slots ms) ms (by_answer answer last) budget (effects_of s (outside all w es)))).effects
      at_end (Ok p) last g = g
      at_end (Err raised) last g = g

  pub ask_stops : (tells → LosesPrefix i0 i1) → (said → GainsPrefix o0 o1 (done_with i0).written) → (a : T) → OnInputUntil tells i0 i1 (RunGivenUp (λ es. TakesUntil moves refused fault a es a) said o0 o1 s (to reach))
  ask_stops lost gained a =
      heard_lost tells i0 i1 lost (RunGivenUp (λ es. TakesUntil moves refused fault a es a) said o0 o1 s (to reach)) (λ all. record {
        events = [];
        has_told = takes_until_all moves refused fault a a [] refl;
        is = λ w es. subst (λ z. Grown (effects_of s z) (to reach (outside all w es)).effects) (both all w es) (begins all w [] es (record { rest = (done_with all).written; is = refl }));
        wrote = λ t.
            let g = gained t in
            (g.front, g.is, λ w es. begins all w g.front es (subst (λ z. IsPrefix g.front z) (same_written which (plains values.items) (plain_heap s.heap) i0 all) g.prefix));
      })
    where
      both : (all w : List ℕ) (es : List Event) → outside all (w ++ []) es ≡ outside all w (es ++ [])
      both all w es = ap (λ z. outside all z es) (append-nil w) ∙ ap (λ z. outside all w z) (sym (append-nil es))

-- a whole run that was given up
module _ (took : List Event → Type 0) (said : Type 0) (o0 o1 : List ℕ) (ms : List Module) (s : Store) (budget : ℕ) where
  abbrev pub running : Outside → End
  running o = follows (by_slots ms) ms (outermost (by_slots ms) ms script [] budget (effects_of s o))

  end_same : (all : List ℕ) → end_of_run (by_slots ms) ms (world_of s) all budget ≡ running (record { input = all; out = []; events = [] })
  unfolding end_of_run
  end_same all = refl

  run_same : (all : List ℕ) → run (by_slots ms) ms (world_of s) all budget ≡ run_by budget (running (record { input = all; out = []; events = [] }))
  unfolding run
  run_same all = ap (run_by budget) (end_same all)

  one_stopped : (all : List ℕ) → RunGivenUp took said o0 o1 s running all → StopsRun took said o0 o1 ms (world_of s) budget all
  one_stopped all x = record {
    told = x.events;
    has_told = x.has_told;
    first = subst (λ (r : Run). IsPrefix x.events r.events) (sym (run_same all)) (x.is [] []).0;
    wrote = λ t. let z = x.wrote t in record { front = z.0; prefix = subst (λ (r : Run). IsPrefix z.0 r.out) (sym (run_same all)) (z.2 [] []).1; is = z.1 };
  }

  pub run_stops : (tells : Type 0) (i0 i1 : List ℕ) → OnInputUntil tells i0 i1 (RunGivenUp took said o0 o1 s running) → OnInputUntil tells i0 i1 (StopsRun took said o0 o1 ms (world_of s) budget)
  run_stops tells i0 i1 p = heard_as tells i0 (λ rest. LosesPrefix rest i1) (λ all rest. RunGivenUp took said o0 o1 s running all) (λ all rest. StopsRun took said o0 o1 ms (world_of s) budget all) (λ all rest. one_stopped all) p

-- a frame that nothing waits for begins with what there is
pub outermost_first : (ms : List Module) (code : CodeId) (vs : List PlainValue) (budget : ℕ) (s : Store) (o : Outside) → Grown (effects_of s o) (follows (by_slots ms) ms (outermost (by_slots ms) ms code vs budget (effects_of s o))).effects
outermost_first ms code vs budget s o =
    follows_grow (by_slots ms) ms (effects_of s o) (outermost (by_slots ms) ms code vs budget (effects_of s o)) (outermost_grows (by_slots ms) ms (effects_of s o) code vs budget (effects_of s o) (grown_same (effects_of s o)))

-- and where a step is left for it, with its call
pub outermost_called : (ms : List Module) (code : CodeId) (vs : List PlainValue) (less budget : ℕ) → budget ≡ suc less → (s : Store) (o : Outside)
    → Grown (effects_of s (and_told (Called code ∷ []) o)) (follows (by_slots ms) ms (outermost (by_slots ms) ms code vs budget (effects_of s o))).effects
outermost_called ms code vs less budget e s o =
    subst (λ n. Grown (effects_of s (and_told (Called code ∷ []) o)) (follows (by_slots ms) ms (outermost (by_slots ms) ms code vs n (effects_of s o))).effects) (sym e)
    (follows_grow (by_slots ms) ms (effects_of s (and_told (Called code ∷ []) o)) (outermost (by_slots ms) ms code vs (suc less) (effects_of s o)) (record { holds = grown_same (effects_of s (and_told (Called code ∷ []) o)) }))

-- a whole call that was given up
module _ (took : List Event → Type 0) (said : Type 0) (o0 o1 : List ℕ) (ms : List Module) (s : Store) (r : Request) (budget : ℕ) where
  abbrev pub calling : Outside → End
  calling o = follows (by_slots ms) ms (outer_call (by_slots ms) ms (reach_global ms (or_raise (name_unknown r.name) (global_of r.number r.name (world_of s))) r.values (effects_of s o)) budget (effects_of s o))

  call_end_same : (all : List ℕ) → end_of_call (by_slots ms) ms (world_of s) all r budget ≡ calling (record { input = all; out = []; events = [] })
  unfolding end_of_call
  call_end_same all = refl

  call_same : (all : List ℕ) → called (by_slots ms) ms (world_of s) all r budget ≡ reply_by budget (calling (record { input = all; out = []; events = [] }))
  unfolding called
  call_same all = ap (reply_by budget) (call_end_same all)

  one_call_stopped : (all : List ℕ) → RunGivenUp took said o0 o1 s calling all → StopsCall took said o0 o1 ms (world_of s) r budget all
  one_call_stopped all x = record {
    told = x.events;
    has_told = x.has_told;
    first = subst (λ (y : Reply). IsPrefix x.events y.events) (sym (call_same all)) (x.is [] []).0;
    wrote = λ t. let z = x.wrote t in record { front = z.0; prefix = subst (λ (y : Reply). IsPrefix z.0 y.out) (sym (call_same all)) (z.2 [] []).1; is = z.1 };
  }

  pub call_stops : (tells : Type 0) (i0 i1 : List ℕ) → OnInputUntil tells i0 i1 (RunGivenUp took said o0 o1 s calling) → OnInputUntil tells i0 i1 (StopsCall took said o0 o1 ms (world_of s) r budget)
  call_stops tells i0 i1 p = heard_as tells i0 (λ rest. LosesPrefix rest i1) (λ all rest. RunGivenUp took said o0 o1 s calling all) (λ all rest. StopsCall took said o0 o1 ms (world_of s) r budget all) (λ all rest. one_call_stopped all) p

  -- it begins with what there is
  pub calling_first : (o : Outside) → Grown (effects_of s o) (calling o).effects
  calling_first o =
      let found = or_raise (name_unknown r.name) (global_of r.number r.name (world_of s)) in
      follows_grow (by_slots ms) ms (effects_of s o) (outer_call (by_slots ms) ms (reach_global ms found r.values (effects_of s o)) budget (effects_of s o))
      (outer_grows (by_slots ms) ms (effects_of s o) (reach_global ms found r.values (effects_of s o)) budget (effects_of s o) (grown_same (effects_of s o)) (global_reached (by_slots ms) ms (effects_of s o) found r.values (effects_of s o) (grown_same (effects_of s o))))
