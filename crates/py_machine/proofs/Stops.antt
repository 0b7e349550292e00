-- Parts of a run that are given up.
use Rattle.std.proofs.Common.{◌≡◌, ℕ, Bool, List, [], ◌++◌, inl, refl, sym, ap, ◌∙◌, subst, append_assoc, append-nil}
use Rattle.std.specs.Prelude.{Vec, Result, Ok, Err}
use Rattle.std.specs.declared.alloc.Global.{Global}
use Rattle.cov_event.specs.declared.event.Event.{Event}
use Rattle.cov_outside.specs.Prefixes.{IsPrefix, GainsPrefix, LosesPrefix}
use Rattle.py_value.specs.declared.builtin.Builtin.{Builtin}
use Rattle.py_value.specs.declared.value.Raised.{Raised}
use Rattle.py_value.specs.declared.value.Value.{Value}
use Rattle.py_value.specs.HeapView.{plain_heap}
use Rattle.py_value.specs.Plain.{PlainHeap}
use Rattle.py_value.specs.View.{plains, plain_raised, plain_outcome}
use Rattle.py_builtins.specs.declared.fault.RunFault.{RunFault}
use Rattle.py_builtins.specs.declared.fault.RunFault.TheVariants.{NoMemory}
use Rattle.py_builtins.specs.Arguments.{Answer}
use Rattle.py_builtins.specs.Builtins.{Done, builtin_of}
use Rattle.py_code.specs.Configurations.{Effects, Configuration, Next}
use Rattle.py_code.specs.Machine.{in_world, by_answer, calls, throw}
use Rattle.py_code.specs.Run.{Goes, Ticks, Ends}
use Rattle.py_code.specs.Slots.{by_slots}
use Rattle.py_code.specs.Units.{Module}
use Rattle.py_world.specs.declared.store.Store.{Store}
use Rattle.py_world.specs.Stores.{world_of}
use Rattle.py_instructions.specs.declared.frame.State.{State}
use Rattle.py_instructions.specs.declared.turn.Turn.TheVariants.{Asks}
use Rattle.py_instructions.specs.View.{Slots, Outside, plain_operands, effects_of, seen, turned}
use Rattle.py_machine.specs.Told.{IsAtEnd, PartOnInput, Grown, Grows, TakesSome, TakesUntil, MoveGivenUp, PartGivenUp, PartOnInputUntil}
use Rattle.py_builtins.specs.World.{with_heap}
use Rattle.py_machine.proofs.Grows.{grown_same, prefix_then, called_at_once}
use Rattle.py_machine.proofs.GivesUp.{takes_until_all, elsewhere}
use Rattle.py_machine.proofs.Hearing.{lost_none, hears_some_as, hears_some, hears_lost}
use Rattle.py_machine.proofs.Following.{same_written}
use Rattle.py_machine.proofs.Performs.{Given, seen_in}
use Rattle.py_machine.proofs.Throws.{and_told}

module _ (took : List Event → Type 0) (said : Type 0) (o0 : List ℕ) (s : Store) (before : Outside → Next Slots) where
  part_of : MoveGivenUp took s before → (all : List ℕ) → PartGivenUp took said o0 o0 s before all
  part_of p all = record {
    events = p.events;
    has_told = p.has_told;
    is = λ w es. p.is (record { input = all; out = w; events = es });
    wrote = λ t. ([], sym (append-nil o0), λ w es. fewer w es (before (record { input = all; out = w; events = es })) (p.is (record { input = all; out = w; events = es })));
  }
    where
      fewer : (w : List ℕ) (es : List Event) (n : Next Slots) → Grows (effects_of s (record { input = all; out = w; events = es ++ p.events })) n → Grows (effects_of s (record { input = all; out = w ++ []; events = es })) n
      fewer w es n h = subst (λ z. Grows (effects_of s (record { input = all; out = z; events = es })) n) (sym (append-nil w)) (less_events n h)
        where
          front : (fs : List Event) → IsPrefix (es ++ p.events) fs → IsPrefix es fs
          front fs q = prefix_then es (es ++ p.events) fs (record { rest = p.events; is = refl }) q

          less_events : (n : Next Slots) → Grows (effects_of s (record { input = all; out = w; events = es ++ p.events })) n → Grows (effects_of s (record { input = all; out = w; events = es })) n
          less_events (Goes c) h = record { holds = (front c.effects.events h.holds.0, h.holds.1) }
          less_events (Ticks c) h = record { holds = (front c.effects.events h.holds.0, h.holds.1) }
          less_events (Ends r) h = record { holds = (front r.effects.events h.holds.0, h.holds.1) }

  -- a part that neither wrote nor read
  pub only_given_up : (tells : Type 0) (was : Bool) (i0 : List ℕ) → IsAtEnd was tells i0 → MoveGivenUp took s before → PartOnInputUntil tells i0 i0 was (PartGivenUp took said o0 o0 s before)
  only_given_up tells was i0 over p = hears_lost tells was i0 i0 over (λ t. lost_none i0) (PartGivenUp took said o0 o0 s before) (part_of p)

-- another move, that is the same, on another store
pub broken_as : (tells : Type 0) (i0 i1 : List ℕ) (was : Bool) (took : List Event → Type 0) (said : Type 0) (o0 o1 : List ℕ) (s s1 : Store) (before other : Outside → Next Slots)
    → ((o : Outside) → before o ≡ other o) → PartOnInputUntil tells i0 i1 was (PartGivenUp took said o0 o1 s1 other) → PartOnInputUntil tells i0 i1 was (PartGivenUp took said o0 o1 s before)
broken_as tells i0 i1 was took said o0 o1 s s1 before other h p =
    hears_some_as tells i0 i1 was (PartGivenUp took said o0 o1 s1 other) (PartGivenUp took said o0 o1 s before) (λ all x. record {
      events = x.events;
      has_told = x.has_told;
      is = λ w es. same all w es _ (x.is w es);
      wrote = λ t.
          let y = x.wrote t in
          (y.0, y.1, λ w es. same all w es _ (y.2 w es));
    }) p
  where
    same : (all w : List ℕ) (es : List Event) (o : Outside) → Grows (effects_of s1 o) (other (record { input = all; out = w; events = es })) → Grows (effects_of s o) (before (record { input = all; out = w; events = es }))
    same all w es o g = subst (λ n. Grows (effects_of s o) n) (sym (h (record { input = all; out = w; events = es }))) (elsewhere s1 s o _ g)

module _ {T : Type 0} (moves refused : T → Event → T → Type 0) (fault : RunFault) (said : Type 0) (tells : Type 0) (o0 o1 i0 i1 : List ℕ) (was : Bool) (ms : List Module) (which : Builtin) (values : Vec Value Global) (m : State) (s : Store) where
  abbrev asking : Outside → Next Slots
  asking o = turned ms (Asks which values) (seen m s o)

  abbrev done_with : List ℕ → Done
  done_with all = builtin_of which (plains values.items) (plain_heap s.heap) all

  -- what a built-in function wrote of what it writes
  asks : (all w out : List ℕ) (es : List Event) → IsPrefix out (done_with all).written → Grows (effects_of s (record { input = all; out = w ++ out; events = es })) (asking (record { input = all; out = w; events = es }))
  asks all w out es p =
      let e = effects_of s (record { input = all; out = w ++ out; events = es }) in
      let d = done_with all in
      let written : IsPrefix (w ++ out) (w ++ d.written) = record { rest = p.rest; is = ap (λ z. w ++ z) p.is ∙ sym (append_assoc w out p.rest) } in
      let last : Effects = record { world = world_of s; input = d.left; out = w ++ d.written; events = es } in
      let c = seen m s (record { input = all; out = w; events = es }) in
      reach d.answer last c (record { rest = []; is = sym (append-nil es) }, written)
    where
      reach : (answer : Answer) (last : Effects) (c : Configuration Slots) → Grown (effects_of s (record { input = all; out = w ++ out; events = es })) last
          → Grows (effects_of s (record { input = all; out = w ++ out; events = es })) (calls (by_slots ms) ms (by_answer answer last) c.top.operands c)
      reach (Ok p) last c g = called_at_once (by_slots ms) ms (effects_of s (record { input = all; out = w ++ out; events = es })) (Ok p.0) (record last { world = record last.world { heap = p.1 } }) c.top.operands c g
      reach (Err raised) last c g = called_at_once (by_slots ms) ms (effects_of s (record { input = all; out = w ++ out; events = es })) (Err raised) last c.top.operands c g

  -- the function itself was given up
  pub asks_some : IsAtEnd was tells i0 → (tells → LosesPrefix i0 i1) → (said → GainsPrefix o0 o1 (done_with i0).written) → (a : T) → PartOnInputUntil tells i0 i1 was (PartGivenUp (λ es. TakesUntil moves refused fault a es a) said o0 o1 s asking)
  asks_some over lost gained a =
      hears_lost tells was i0 i1 over lost (PartGivenUp (λ es. TakesUntil moves refused fault a es a) said o0 o1 s asking) (λ all. record {
        events = [];
        has_told = takes_until_all moves refused fault a a [] refl;
        is = λ w es. subst (λ z. Grows (effects_of s z) (asking (record { input = all; out = w; events = es }))) (both all w es) (asks all w [] es (record { rest = (done_with all).written; is = refl }));
        wrote = λ t.
            let g = gained t in
            (g.front, g.is, λ w es. asks all w g.front es (subst (λ z. IsPrefix g.front z) (same_written which (plains values.items) (plain_heap s.heap) i0 all) g.prefix));
      })
    where
      both : (all w : List ℕ) (es : List Event) → let x : Outside = record { input = all; out = w ++ []; events = es } in let y : Outside = record { input = all; out = w; events = es ++ [] } in x ≡ y
      both all w es =
          ap (λ z. let x : Outside = record { input = all; out = z; events = es } in x) (append-nil w) ∙ ap (λ z. let x : Outside = record { input = all; out = w; events = z } in x) (sym (append-nil es))

  module _ (answer : Answer) (is : Bool) (r : PartOnInput tells i0 i1 was is (Given said o0 o1 which values s answer)) (a b : T) (events : List Event) (took : TakesUntil moves refused fault a events b)
      (goes : (o : Outside) → Grows (effects_of s (record o { events = o.events ++ events })) (calls (by_slots ms) ms (by_answer answer (effects_of s o)) (plain_operands m.top.operands) (seen m s o))) where
    abbrev after_call : Answer → Outside → Outside → Next Slots
    after_call x now then_seen = calls (by_slots ms) ms (by_answer x (effects_of s now)) (plain_operands m.top.operands) (seen m s then_seen)

    same : (x : Answer) (now then_seen other : Outside) → after_call x now then_seen ≡ after_call x now other
    same (Ok p) now then_seen other = refl
    same (Err e) now then_seen other = refl

    asked_is : (all rest : List ℕ) → Given said o0 o1 which values s answer all rest → (w : List ℕ) (es : List Event)
        → let last : Outside = record { input = rest; out = w ++ (done_with all).written; events = es } in asking (record { input = all; out = w; events = es }) ≡ after_call answer last last
    asked_is all rest gives w es =
        let first : Outside = record { input = all; out = w; events = es } in
        ap (λ x. after_call x (record { input = (done_with all).left; out = w ++ (done_with all).written; events = es }) first) (sym gives.0)
        ∙ ap (λ x. after_call answer (record { input = x; out = w ++ (done_with all).written; events = es }) first) (sym gives.2)
        ∙ same answer (record { input = rest; out = w ++ (done_with all).written; events = es }) first (record { input = rest; out = w ++ (done_with all).written; events = es })

    -- what followed the function was given up
    pub asks_then_some : PartOnInputUntil tells i0 i1 was (PartGivenUp (λ es. TakesUntil moves refused fault a es b) said o0 o1 s asking)
    asks_then_some = hears_some tells i0 i1 was is (Given said o0 o1 which values s answer) (PartGivenUp (λ es. TakesUntil moves refused fault a es b) said o0 o1 s asking) part r
      where
        fronts : {A : Type 0} (xs ys zs : List A) → IsPrefix (xs ++ ys) zs → IsPrefix xs zs
        fronts xs ys zs q = prefix_then xs (xs ++ ys) zs (record { rest = ys; is = refl }) q

        less : (all rest w : List ℕ) (es : List Event) (written : List ℕ) (n : Next Slots) → Grows (effects_of s (record { input = rest; out = w ++ written; events = es ++ events })) n
            → Grows (effects_of s (record { input = all; out = w; events = es ++ events })) n
        less all rest w es written (Goes c) h = record { holds = (h.holds.0, fronts w written c.effects.out h.holds.1) }
        less all rest w es written (Ticks c) h = record { holds = (h.holds.0, fronts w written c.effects.out h.holds.1) }
        less all rest w es written (Ends c) h = record { holds = (h.holds.0, fronts w written c.effects.out h.holds.1) }

        fewer : (all rest w : List ℕ) (es : List Event) (written : List ℕ) (n : Next Slots) → Grows (effects_of s (record { input = rest; out = w ++ written; events = es ++ events })) n
            → Grows (effects_of s (record { input = all; out = w ++ written; events = es })) n
        fewer all rest w es written (Goes c) h = record { holds = (fronts es events c.effects.events h.holds.0, h.holds.1) }
        fewer all rest w es written (Ticks c) h = record { holds = (fronts es events c.effects.events h.holds.0, h.holds.1) }
        fewer all rest w es written (Ends c) h = record { holds = (fronts es events c.effects.events h.holds.0, h.holds.1) }

        part : (all rest : List ℕ) → Given said o0 o1 which values s answer all rest → PartGivenUp (λ es. TakesUntil moves refused fault a es b) said o0 o1 s asking all
        part all rest gives =
            let written = (done_with all).written in
            record {
              events = events;
              has_told = took;
              is = λ w es. subst (λ n. Grows (effects_of s (record { input = all; out = w; events = es ++ events })) n) (sym (asked_is all rest gives w es))
                  (less all rest w es written _ (goes (record { input = rest; out = w ++ written; events = es })));
              wrote = λ t. (
                written,
                gives.1 t,
                λ w es. subst (λ n. Grows (effects_of s (record { input = all; out = w ++ written; events = es })) n) (sym (asked_is all rest gives w es))
                    (fewer all rest w es written _ (goes (record { input = rest; out = w ++ written; events = es }))),
              );
            }

-- a built-in function that was done grows what its call begins with
pub quiet_call : (ms : List Module) (m : State) (s : Store) (answer : Answer) (o : Outside)
    → Grows (effects_of s (record o { events = o.events ++ [] })) (calls (by_slots ms) ms (by_answer answer (effects_of s o)) (plain_operands m.top.operands) (seen m s o))
quiet_call ms m s answer o = by_case answer
  where
    same : Grown (effects_of s (record o { events = o.events ++ [] })) (effects_of s o)
    same = (record { rest = []; is = sym (append-nil o.events) ∙ sym (append-nil (o.events ++ [])) }, (grown_same (effects_of s o)).1)

    by_case : (x : Answer) → Grows (effects_of s (record o { events = o.events ++ [] })) (calls (by_slots ms) ms (by_answer x (effects_of s o)) (plain_operands m.top.operands) (seen m s o))
    by_case (Ok p) = called_at_once (by_slots ms) ms (effects_of s (record o { events = o.events ++ [] })) (Ok p.0) (in_world (with_heap p.1) (effects_of s o)) (plain_operands m.top.operands) (seen m s o) same
    by_case (Err e) = called_at_once (by_slots ms) ms (effects_of s (record o { events = o.events ++ [] })) (Err e) (effects_of s o) (plain_operands m.top.operands) (seen m s o) same

-- what followed a built-in function that the top frame asked for was given up
module _ {T : Type 0} (moves refused : T → Event → T → Type 0) (said : Type 0) (tells : Type 0) (o0 o1 i0 i1 : List ℕ) (was is : Bool) (ms : List Module) (which : Builtin) (values : Vec Value Global) (m : State) (s : Store)
    (answer : Result Value Raised) (h : PlainHeap) (r : PartOnInput tells i0 i1 was is (Given said o0 o1 which values s (plain_outcome answer h))) where
  -- for want of memory
  pub asked_stops : (a : T) → PartOnInputUntil tells i0 i1 was (PartGivenUp (λ es. TakesSome moves refused a es a) said o0 o1 s (λ o. turned ms (Asks which values) (seen m s o)))
  asked_stops a = asks_then_some moves refused NoMemory said tells o0 o1 i0 i1 was ms which values m s (plain_outcome answer h) is r a a [] (inl refl) (quiet_call ms m s (plain_outcome answer h))

  -- as its exception was thrown
  pub thrown_stops : (a b : T) (raised : Raised) (s2 : Store) → answer ≡ Err raised → world_of s2 ≡ world_of s
      → MoveGivenUp (λ es. TakesSome moves refused a es b) s2 (λ o. throw (by_slots ms) ms (plain_raised raised) (seen m s2 o))
      → PartOnInputUntil tells i0 i1 was (PartGivenUp (λ es. TakesSome moves refused a es b) said o0 o1 s (λ o. turned ms (Asks which values) (seen m s o)))
  thrown_stops a b raised s2 e w p =
      asks_then_some moves refused NoMemory said tells o0 o1 i0 i1 was ms which values m s (Err (plain_raised raised)) is (subst (λ x. PartOnInput tells i0 i1 was is (Given said o0 o1 which values s (plain_outcome x h))) e r)
      a b p.events p.has_told
      (λ o. elsewhere s2 s (and_told p.events o) _ (subst (λ n. Grows (effects_of s2 (and_told p.events o)) n) (ap (λ x. throw (by_slots ms) ms (plain_raised raised) (seen_in m x o)) w) (p.is o)))
