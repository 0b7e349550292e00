-- An exception that leaves a frame.
use Rattle.std.proofs.Common.{◌≡◌, ℕ, suc, List, [], ◌∷◌, ◌++◌, Option, Some, None, Bool, true, false, map, refl, sym, ap, ◌∙◌, subst, append_assoc, append-nil, inl}
use Rattle.cov_event.specs.declared.event.Event.{Event}
use Rattle.cov_event.specs.declared.event.Event.TheVariants.{Throw, Return as Returned}
use Rattle.cov_event.specs.Moves.{Takes}
use Rattle.py_value.specs.declared.value.Raised.{Raised}
use Rattle.py_value.specs.declared.value.Value.{Value}
use Rattle.py_value.specs.View.{plain, plain_raised}
use Rattle.py_code.specs.Configurations.{Effects, Configuration, Next, failed}
use Rattle.py_code.specs.Machine.{told, escaped, failed_by, land, leave, give}
use Rattle.py_code.specs.Run.{Goes, Ends}
use Rattle.py_code.specs.Slots.{by_slots}
use Rattle.py_code.specs.Units.{Module, handler_at}
use Rattle.py_machine.specs.declared.ending.Ending.{Ending}
use Rattle.py_machine.specs.declared.ending.Ending.TheVariants.{Failed}
use Rattle.py_instructions.specs.declared.frame.Frame.{Frame as RawFrame}
use Rattle.py_instructions.specs.declared.frame.State.{State}
use Rattle.py_instructions.specs.declared.operand.Operand.{Operand as RawOperand}
use Rattle.py_instructions.specs.declared.operand.Operand.TheVariants.{Value as OfValue}
use Rattle.py_world.specs.declared.store.Store.{Store}
use Rattle.py_machine.specs.Told.{Went, Tells, Passed}
use Rattle.py_world.specs.Stores.{world_of}
use Rattle.py_instructions.specs.View.{Slots, Outside, plain_frame, effects_of, seen, catching}
use Rattle.py_machine.proofs.Joins.{takes_then}

-- events told one after another
abbrev pub and_told : List Event → Outside → Outside
and_told es o = record o { events = o.events ++ es }

pub told_twice : (es fs : List Event) (o : Outside) → and_told fs (and_told es o) ≡ and_told (es ++ fs) o
told_twice es fs o = ap (λ z. let x : Outside = record o { events = z } in x) (append_assoc o.events es fs)

module _ {T : Type 0} (moves : T → Event → T → Type 0) (ms : List Module) (raised : Raised) (a b c : T) (before : Outside → Next Slots) (m : State) (s s1 : Store)
    (w : world_of s1 ≡ failed_by m.top.code m.top.code.unit (world_of s))
    (p : Passed (λ es. Takes moves a es b) before (λ o. leave (by_slots ms) ms (plain_raised raised) m.top.code (map plain_frame m.callers) m.steps (effects_of s o)))
    (h : moves b Returned c) where
  gone : (o : Outside) → escaped m.top.code (effects_of s o) ≡ effects_of s1 (and_told (Returned ∷ []) o)
  gone o = ap (λ x. let v : Effects = record { world = x; input = o.input; out = o.out; events = o.events ++ Returned ∷ [] } in v) (sym w)

  pub leaves_all : m.callers ≡ [] → (m2 : State) → m2.steps ≡ m.steps → Tells (λ es. Takes moves a es c) before (seen m2 s1) (Some (Failed raised))
  leaves_all cs m2 same = record {
    events = p.events ++ Returned ∷ [];
    has_told = takes_then moves a b c p.events (Returned ∷ []) p.has_told (c, h, refl);
    is = λ o.
        p.is o
        ∙ ap (λ fs. leave (by_slots ms) ms (plain_raised raised) m.top.code (map plain_frame fs) m.steps (effects_of s (and_told p.events o))) cs
        ∙ ap (λ v. let n : Next Slots = Ends (record { how = failed (plain_raised raised); steps = m.steps; effects = v }) in n) (gone (and_told p.events o) ∙ ap (effects_of s1) (told_twice p.events (Returned ∷ []) o))
        ∙ ap (λ k. let n : Next Slots = Ends (record { how = failed (plain_raised raised); steps = k; effects = effects_of s1 (and_told (p.events ++ Returned ∷ []) o) }) in n) (sym same);
  }

  module _ (d : T) (k : moves c (Throw raised.kind) d) (f : RawFrame) (fs : List RawFrame) (cs : m.callers ≡ f ∷ fs) (m2 m3 : State) (top : m2 ≡ record m { top = f; callers = fs }) (is : Bool)
      (caught : (o : Outside) (out : Next Slots) → land (by_slots ms) ms (handler_at ms m2.top.code m2.top.place) out (plain_raised raised) true (seen m2 s1 o) ≡ catching is out (seen m3 s1 o)) where
    abbrev both : List Event
    both = Returned ∷ Throw raised.kind ∷ []

    two : Takes moves a (p.events ++ both) d
    two = takes_then moves a b d p.events both p.has_told (c, h, (d, k, refl))

    thrown : (o : Outside) → told (Throw raised.kind) (escaped m.top.code (effects_of s o)) ≡ effects_of s1 (and_told both o)
    thrown o = ap (told (Throw raised.kind)) (gone o) ∙ ap (effects_of s1) (told_twice (Returned ∷ []) (Throw raised.kind ∷ []) o)

    abbrev leaving : Outside → Next Slots
    leaving o = leave (by_slots ms) ms (plain_raised raised) f.code (map plain_frame fs) m.steps (effects_of s1 o)

    at_once : (o : Outside) → before o ≡ catching is (leaving (and_told (p.events ++ both) o)) (seen m3 s1 (and_told (p.events ++ both) o))
    at_once o =
        p.is o
        ∙ ap (λ x. leave (by_slots ms) ms (plain_raised raised) m.top.code (map plain_frame x) m.steps (effects_of s (and_told p.events o))) cs
        ∙ ap (λ v. land (by_slots ms) ms (handler_at ms f.code f.place) (leave (by_slots ms) ms (plain_raised raised) f.code (map plain_frame fs) m.steps v) (plain_raised raised) true (record { top = plain_frame f; callers = map plain_frame fs; steps = m.steps; effects = v }))
        (thrown (and_told p.events o) ∙ ap (effects_of s1) (told_twice p.events both o))
        ∙ ap (λ x. land (by_slots ms) ms (handler_at ms x.top.code x.top.place) (leaving (and_told (p.events ++ both) o)) (plain_raised raised) true (seen x s1 (and_told (p.events ++ both) o))) (sym top)
        ∙ caught (and_told (p.events ++ both) o) (leaving (and_told (p.events ++ both) o))

    pub lands_here : is ≡ true → Tells (λ es. Takes moves a es d) before (seen m3 s1) None
    lands_here y = record {
      events = p.events ++ both;
      has_told = two;
      is = λ o. inl (at_once o ∙ ap (λ x. catching x (leaving (and_told (p.events ++ both) o)) (seen m3 s1 (and_told (p.events ++ both) o))) y);
    }

    pub goes_up : is ≡ false → m3 ≡ m2 → Passed (λ es. Takes moves a es d) before (λ o. leave (by_slots ms) ms (plain_raised raised) m3.top.code (map plain_frame m3.callers) m3.steps (effects_of s1 o))
    goes_up n same = record {
      events = p.events ++ both;
      has_told = two;
      is = λ o.
          at_once o
          ∙ ap (λ x. catching x (leaving (and_told (p.events ++ both) o)) (seen m3 s1 (and_told (p.events ++ both) o))) n
          ∙ ap (λ x. leave (by_slots ms) ms (plain_raised raised) x.top.code (map plain_frame x.callers) x.steps (effects_of s1 (and_told (p.events ++ both) o))) (sym (same ∙ top));
    }

-- nothing was told yet
pub passed_none : {T : Type 0} (moves : T → Event → T → Type 0) (a : T) (before : Outside → Next Slots) → Passed (λ es. Takes moves a es a) before before
passed_none moves a before = record {
  events = [];
  has_told = refl;
  is = λ o. ap (λ z. before (record o { events = z })) (sym (append-nil o.events));
}

untold : (o : Outside) → o ≡ and_told [] o
untold o = ap (λ z. let x : Outside = record o { events = z } in x) (sym (append-nil o.events))

-- the exception is caught in the frame
pub caught_here : {T : Type 0} (moves : T → Event → T → Type 0) (a : T) (before out : Outside → Next Slots) (m : State) (s : Store) (is : Bool)
    → is ≡ true → ((o : Outside) → before o ≡ catching is (out o) (seen m s o)) → Tells (λ es. Takes moves a es a) before (seen m s) None
caught_here moves a before out m s is y h = record {
  events = [];
  has_told = refl;
  is = λ o. inl (h o ∙ ap (λ b. catching b (out o) (seen m s o)) y ∙ ap (λ x. let n : Next Slots = Goes (seen m s x) in n) (untold o));
}

-- another move, that is the same
pub tells_as : (took : List Event → Type 0) (before other : Outside → Next Slots) (now : Outside → Configuration Slots) (how : Option Ending)
    → ((o : Outside) → before o ≡ other o) → Tells took other now how → Tells took before now how
tells_as took before other now how h p = record {
  events = p.events;
  has_told = p.has_told;
  is = λ o. subst (λ n. Went how n (now (and_told p.events o))) (sym (h o)) (p.is o);
}

-- an event, and then the rest
pub tells_after : {T : Type 0} (moves : T → Event → T → Type 0) (a b c : T) (event : Event) (before other : Outside → Next Slots) (now : Outside → Configuration Slots) (how : Option Ending)
    → moves a event b → ((o : Outside) → before o ≡ other (and_told (event ∷ []) o)) → Tells (λ es. Takes moves b es c) other now how → Tells (λ es. Takes moves a es c) before now how
tells_after moves a b c event before other now how k h p = record {
  events = event ∷ p.events;
  has_told = (b, k, p.has_told);
  is = λ o. subst (λ x. Went how (before o) (now x)) (told_twice (event ∷ []) p.events o) (subst (λ n. Went how n (now (and_told p.events (and_told (event ∷ []) o)))) (sym (h o)) (p.is (and_told (event ∷ []) o)));
}

-- one event alone
pub tells_one : {T : Type 0} (moves : T → Event → T → Type 0) (a b : T) (event : Event) (before : Outside → Next Slots) (now : Outside → Configuration Slots) (how : Option Ending)
    → moves a event b → ((o : Outside) → Went how (before o) (now (and_told (event ∷ []) o))) → Tells (λ es. Takes moves a es b) before now how
tells_one moves a b event before now how k h = record { events = event ∷ []; has_told = (b, k, refl); is = h }

-- the frame that waits goes on with the value
pub given_back : (ms : List Module) (m : State) (f : RawFrame) (fs : List RawFrame) → m.callers ≡ f ∷ fs → (v : Value) (place : ℕ) → place ≡ suc f.place → (pushed : List RawOperand) → pushed ≡ OfValue v ∷ f.operands → (s : Store) (o : Outside)
    → give (by_slots ms) ms (plain v) (map plain_frame m.callers) m.steps (effects_of s o)
    ≡ Goes (seen (record m { top = record f { place = place; operands = pushed }; callers = fs }) s (and_told (Returned ∷ []) o))
given_back ms m f fs cs v place e pushed g s o =
    ap (λ x. give (by_slots ms) ms (plain v) (map plain_frame x) m.steps (effects_of s o)) cs
    ∙ ap (λ p. let n : Next Slots = Goes (seen (record m { top = record f { place = p; operands = OfValue v ∷ f.operands }; callers = fs }) s (and_told (Returned ∷ []) o)) in n) (sym e)
    ∙ ap (λ xs. let n : Next Slots = Goes (seen (record m { top = record f { place = place; operands = xs }; callers = fs }) s (and_told (Returned ∷ []) o)) in n) (sym g)
