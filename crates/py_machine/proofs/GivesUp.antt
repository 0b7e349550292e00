-- Moves that are given up in the middle.
use Rattle.std.proofs.Common.{◌≡◌, List, [], ◌∷◌, ◌++◌, map, inl, inr, refl, sym, ap, ◌∙◌, subst, append_assoc, append-nil}
use Rattle.cov_event.specs.declared.event.Event.{Event}
use Rattle.cov_event.specs.declared.event.Event.TheVariants.{Throw, Return as Returned}
use Rattle.cov_event.specs.Moves.{Takes}
use Rattle.py_value.specs.declared.value.Raised.{Raised}
use Rattle.py_value.specs.View.{plain_raised}
use Rattle.py_builtins.specs.declared.fault.RunFault.{RunFault}
use Rattle.py_builtins.specs.declared.fault.RunFault.TheVariants.{ReadFault, WriteFault, NoMemory}
use Rattle.py_code.specs.Configurations.{Next}
use Rattle.py_code.specs.Machine.{told, leave}
use Rattle.py_code.specs.Run.{Goes, Ticks, Ends}
use Rattle.py_code.specs.Slots.{by_slots}
use Rattle.py_code.specs.Units.{Module}
use Rattle.py_world.specs.declared.store.Store.{Store}
use Rattle.py_instructions.specs.declared.frame.Frame.{Frame as RawFrame}
use Rattle.py_instructions.specs.declared.frame.State.{State}
use Rattle.py_instructions.specs.View.{Slots, Outside, plain_frame, effects_of}
use Rattle.py_machine.specs.Told.{Grown, Grows, Passed, TakesSome, TakesUntil, MoveGivenUp}
use Rattle.py_machine.proofs.Grows.{grown_same, left_first, thrown_by}
use Rattle.py_machine.proofs.Joins.{takes_then}
use Rattle.py_machine.proofs.Throws.{and_told, told_twice}

-- a tracer that may have refused the last event after those that it took
pub takes_some_then : {T : Type 0} (moves refused : T → Event → T → Type 0) (a b c : T) (es fs : List Event) → Takes moves a es b → TakesSome moves refused b fs c → TakesSome moves refused a (es ++ fs) c
takes_some_then moves refused a b c es fs h (inl k) = inl (takes_then moves a b c es fs h k)
takes_some_then moves refused a b c es fs h (inr k) =
    inr (record {
      taken = es ++ k.taken;
      last = k.last;
      is = ap (λ z. es ++ z) k.is ∙ sym (append_assoc es k.taken (k.last ∷ []));
      mid = k.mid;
      has_taken = takes_then moves a b k.mid es k.taken h k.has_taken;
      has_refused = k.has_refused;
    })

pub takes_all : {T : Type 0} (moves refused : T → Event → T → Type 0) (a b : T) (es : List Event) → Takes moves a es b → TakesSome moves refused a es b
takes_all moves refused a b es h = inl h

-- one that took these events and refused another
pub refuses_after : {T : Type 0} (moves refused : T → Event → T → Type 0) (a b c : T) (es : List Event) (event : Event) → Takes moves a es b → refused b event c → TakesSome moves refused a (es ++ event ∷ []) c
refuses_after moves refused a b c es event h k = inr (record { taken = es; last = event; is = refl; mid = b; has_taken = h; has_refused = k })

-- one that refused one event
pub refuses_one : {T : Type 0} (moves refused : T → Event → T → Type 0) (a b : T) (event : Event) → refused a event b → TakesSome moves refused a (event ∷ []) b
refuses_one moves refused a b event k = refuses_after moves refused a a b [] event refl k

-- the same, until a fault
pub takes_until_then : {T : Type 0} (moves refused : T → Event → T → Type 0) (fault : RunFault) (a b c : T) (es fs : List Event) → Takes moves a es b → TakesUntil moves refused fault b fs c → TakesUntil moves refused fault a (es ++ fs) c
takes_until_then moves refused ReadFault a b c es fs h k = takes_then moves a b c es fs h k
takes_until_then moves refused WriteFault a b c es fs h k = takes_then moves a b c es fs h k
takes_until_then moves refused NoMemory a b c es fs h k = takes_some_then moves refused a b c es fs h k

pub takes_until_all : {T : Type 0} (moves refused : T → Event → T → Type 0) (fault : RunFault) (a b : T) (es : List Event) → Takes moves a es b → TakesUntil moves refused fault a es b
takes_until_all moves refused ReadFault a b es h = h
takes_until_all moves refused WriteFault a b es h = h
takes_until_all moves refused NoMemory a b es h = inl h

-- the same of another move
pub given_up_as : (took : List Event → Type 0) (s : Store) (before other : Outside → Next Slots) → ((o : Outside) → before o ≡ other o) → MoveGivenUp took s other → MoveGivenUp took s before
given_up_as took s before other h p = record {
  events = p.events;
  has_told = p.has_told;
  is = λ o. subst (λ n. Grows (effects_of s (and_told p.events o)) n) (sym (h o)) (p.is o);
}

-- whatever the world is
pub elsewhere : (s s1 : Store) (o : Outside) (n : Next Slots) → Grows (effects_of s o) n → Grows (effects_of s1 o) n
elsewhere s s1 o (Goes c) h = record { holds = h.holds }
elsewhere s s1 o (Ticks c) h = record { holds = h.holds }
elsewhere s s1 o (Ends r) h = record { holds = h.holds }

-- these events, and then a move that was given up
pub given_up_after : {T : Type 0} (moves refused : T → Event → T → Type 0) (a b c : T) (es : List Event) (s s1 : Store) (before other : Outside → Next Slots)
    → Takes moves a es b → ((o : Outside) → before o ≡ other (and_told es o)) → MoveGivenUp (λ fs. TakesSome moves refused b fs c) s1 other → MoveGivenUp (λ fs. TakesSome moves refused a fs c) s before
given_up_after moves refused a b c es s s1 before other k h p = record {
  events = es ++ p.events;
  has_told = takes_some_then moves refused a b c es p.events k p.has_told;
  is = λ o.
      subst (λ x. Grows (effects_of s x) (before o)) (told_twice es p.events o)
      (elsewhere s1 s (and_told p.events (and_told es o)) (before o) (subst (λ n. Grows (effects_of s1 (and_told p.events (and_told es o))) n) (sym (h o)) (p.is (and_told es o))));
}

-- nothing more was told than a move begins with
pub gives_up : {T : Type 0} (moves refused : T → Event → T → Type 0) (a b : T) (es : List Event) (s : Store) (before : Outside → Next Slots)
    → TakesSome moves refused a es b → ((o : Outside) → Grows (effects_of s (and_told es o)) (before o)) → MoveGivenUp (λ fs. TakesSome moves refused a fs b) s before
gives_up moves refused a b es s before k h = record { events = es; has_told = k; is = h }

untold : (s : Store) (o : Outside) (n : Next Slots) → Grows (effects_of s o) n → Grows (effects_of s (and_told [] o)) n
untold s o n h = subst (λ z. Grows (effects_of s (record o { events = z })) n) (sym (append-nil o.events)) h

pub gives_up_first : {T : Type 0} (moves refused : T → Event → T → Type 0) (a : T) (s : Store) (before : Outside → Next Slots)
    → ((o : Outside) → Grows (effects_of s o) (before o)) → MoveGivenUp (λ fs. TakesSome moves refused a fs a) s before
gives_up_first moves refused a s before h = gives_up moves refused a a [] s before (inl refl) (λ o. untold s o (before o) (h o))

-- the first event of a move was refused
pub gives_up_refused : {T : Type 0} (moves refused : T → Event → T → Type 0) (a b : T) (event : Event) (s : Store) (before : Outside → Next Slots)
    → refused a event b → ((o : Outside) → Grows (effects_of s (and_told (event ∷ []) o)) (before o)) → MoveGivenUp (λ fs. TakesSome moves refused a fs b) s before
gives_up_refused moves refused a b event s before k h = gives_up moves refused a b (event ∷ []) s before (refuses_one moves refused a b event k) h

module _ {T : Type 0} (moves refused : T → Event → T → Type 0) (ms : List Module) (raised : Raised) (a b : T) (before : Outside → Next Slots) (m : State) (s0 s : Store)
    (p : Passed (λ es. Takes moves a es b) before (λ o. leave (by_slots ms) ms (plain_raised raised) m.top.code (map plain_frame m.callers) m.steps (effects_of s o))) where
  abbrev leaving : Outside → Next Slots
  leaving o = leave (by_slots ms) ms (plain_raised raised) m.top.code (map plain_frame m.callers) m.steps (effects_of s o)

  -- before the frame is left
  pub stays : (c : T) → refused b Returned c → MoveGivenUp (λ es. TakesSome moves refused a es c) s0 before
  stays c k =
      given_up_after moves refused a b c p.events s0 s before leaving p.has_told p.is
      (gives_up_refused moves refused b c Returned s leaving k (λ o. left_first (by_slots ms) ms (effects_of s (and_told (Returned ∷ []) o)) (plain_raised raised) m.top.code (map plain_frame m.callers) m.steps (effects_of s o) (grown_same (effects_of s (and_told (Returned ∷ []) o)))))

  module _ (f : RawFrame) (fs : List RawFrame) (cs : m.callers ≡ f ∷ fs) where
    abbrev both : List Event
    both = Returned ∷ Throw raised.kind ∷ []

    unfolded : (o : Outside) → leaving o ≡ leave (by_slots ms) ms (plain_raised raised) m.top.code (plain_frame f ∷ map plain_frame fs) m.steps (effects_of s o)
    unfolded o = ap (λ x. leave (by_slots ms) ms (plain_raised raised) m.top.code (map plain_frame x) m.steps (effects_of s o)) cs

    -- the exception is thrown once more
    throws : (o : Outside) → Grows (effects_of s (and_told both o)) (leaving o)
    throws o =
        subst (λ n. Grows (effects_of s (and_told both o)) n) (sym (unfolded o))
        (thrown_by (by_slots ms) ms (effects_of s (and_told both o)) (plain_raised raised) m.top.code (plain_frame f) (map plain_frame fs) m.steps (effects_of s o)
        (subst (λ z. Grown (effects_of s (record o { events = z })) (told (Throw raised.kind) (effects_of s (and_told (Returned ∷ []) o)))) (append_assoc o.events (Returned ∷ []) (Throw raised.kind ∷ [])) (grown_same (told (Throw raised.kind) (effects_of s (and_told (Returned ∷ []) o))))))

    -- after the frame
    pub stays_left : (c d : T) → moves b Returned c → refused c (Throw raised.kind) d → MoveGivenUp (λ es. TakesSome moves refused a es d) s0 before
    stays_left c d h k =
        given_up_after moves refused a b d p.events s0 s before leaving p.has_told p.is
        (gives_up moves refused b d both s leaving (refuses_after moves refused b c d (Returned ∷ []) (Throw raised.kind) (c, h, refl) k) throws)

    -- where the exception was thrown once more
    pub stays_thrown : (c d : T) → moves b Returned c → moves c (Throw raised.kind) d → MoveGivenUp (λ es. TakesSome moves refused a es d) s0 before
    stays_thrown c d h g =
        given_up_after moves refused a b d p.events s0 s before leaving p.has_told p.is
        (gives_up moves refused b d both s leaving (inl (c, h, (d, g, refl))) throws)
