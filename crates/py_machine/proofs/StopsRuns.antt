-- Runs that are given up.
use Rattle.std.proofs.Common.{◌≡◌, ℕ, Bool, List, [], ◌∷◌, ◌++◌, refl, sym, ap, ◌∙◌, subst, append_assoc, append-nil}
use Rattle.cov_event.specs.declared.event.CodeId.{CodeId}
use Rattle.cov_event.specs.declared.event.Event.{Event}
use Rattle.cov_event.specs.Moves.{Takes}
use Rattle.cov_outside.specs.Prefixes.{IsPrefix, LosesPrefix}
use Rattle.py_builtins.specs.declared.fault.RunFault.{RunFault}
use Rattle.py_builtins.specs.Inputs.{Wrote}
use Rattle.py_code.specs.Configurations.{End}
use Rattle.py_code.specs.Machine.{move, machine}
use Rattle.py_code.specs.Run.{go}
use Rattle.py_code.specs.Slots.{by_slots}
use Rattle.py_code.specs.Units.{Module}
use Rattle.py_code.specs.Valid.{AreValid}
use Rattle.py_world.specs.declared.store.Store.{Store}
use Rattle.py_instructions.specs.declared.frame.State.{State}
use Rattle.py_instructions.specs.View.{Outside, effects_of, seen}
use Rattle.py_machine.specs.declared.ending.Ending.{Ending}
use Rattle.py_machine.specs.Told.{OnInput, PartOnInput, OnInputUntil, PartOnInputUntil, Grown, TakesSome, TakesUntil, PartGivenUp, Reached, Ran, RunGivenUp}
use Rattle.py_machine.proofs.Grows.{prefix_then, goes_grow}
use Rattle.py_machine.proofs.GivesUp.{takes_until_then, takes_until_all, refuses_one}
use Rattle.py_machine.proofs.Hearing.{lost_none, heard_as, heard_some, heard_lost, hears_some_then}
use Rattle.py_machine.proofs.Joins.{StandAt}
use Rattle.py_machine.proofs.Throws.{and_told}

fronts : {A : Type 0} (xs ys zs : List A) → IsPrefix (xs ++ ys) zs → IsPrefix xs zs
fronts xs ys zs q = prefix_then xs (xs ++ ys) zs (record { rest = ys; is = refl }) q

joined : {A : Type 0} (xs ys zs ws : List A) → IsPrefix ((xs ++ ys) ++ zs) ws → IsPrefix (xs ++ (ys ++ zs)) ws
joined xs ys zs ws q = subst (λ v. IsPrefix v ws) (append_assoc xs ys zs) q

module _ {T : Type 0} (moves refused : T → Event → T → Type 0) (fault : RunFault) (a b c : T) (said : Type 0) (o0 o1 o2 : List ℕ) (tells : Type 0) (i0 i1 i2 : List ℕ) (w0 w1 : Bool) (ms : List Module)
    (depths : CodeId → List ℕ) (valid : AreValid ms depths) (m m1 : State) (s s1 : Store) (stand : StandAt ms depths valid m1 s1) where
  abbrev runs : Outside → End
  runs o = go (machine (by_slots ms) ms) (seen m s o)

  abbrev on : Outside → End
  on o = go (machine (by_slots ms) ms) (seen m1 s1 o)

  abbrev Came : List ℕ → List ℕ → Type 0
  Came = Reached (λ es. Takes moves a es b) (Wrote said o0 o1) ms (seen m s) (seen m1 s1)

  abbrev Gone : List ℕ → Type 0
  Gone = PartGivenUp (λ es. TakesUntil moves refused fault b es c) said o1 o2 s1 (λ o. move (by_slots ms) ms (seen m1 s1 o))

  stops_one : (all mid : List ℕ) → Came all mid → Gone mid → RunGivenUp (λ es. TakesUntil moves refused fault a es c) said o0 o2 s runs all
  stops_one all mid x y = record {
    events = x.events ++ y.events;
    has_told = takes_until_then moves refused fault a b c x.events y.events x.has_told y.has_told;
    is = λ w es.
        let g = goes_grow (by_slots ms) ms depths valid (effects_of s1 (record { input = mid; out = w ++ x.out; events = (es ++ x.events) ++ y.events })) (seen m1 s1 (record { input = mid; out = w ++ x.out; events = es ++ x.events })) (stand _) (y.is (w ++ x.out) (es ++ x.events)) in
        let last = on (record { input = mid; out = w ++ x.out; events = es ++ x.events }) in
        subst (λ (e : End). Grown (effects_of s (record { input = all; out = w; events = es ++ (x.events ++ y.events) })) e.effects) (sym (x.is w es))
        (joined es x.events y.events last.effects.events g.0, fronts w x.out last.effects.out g.1);
    wrote = λ t.
        let z = y.wrote t in (
          x.out ++ z.0,
          z.1 ∙ ap (λ v. v ++ z.0) (x.has_said t) ∙ append_assoc o0 x.out z.0,
          λ w es.
              let g = goes_grow (by_slots ms) ms depths valid (effects_of s1 (record { input = mid; out = (w ++ x.out) ++ z.0; events = es ++ x.events })) (seen m1 s1 (record { input = mid; out = w ++ x.out; events = es ++ x.events })) (stand _) (z.2 (w ++ x.out) (es ++ x.events)) in
              let last = on (record { input = mid; out = w ++ x.out; events = es ++ x.events }) in
              subst (λ (e : End). Grown (effects_of s (record { input = all; out = w ++ (x.out ++ z.0); events = es })) e.effects) (sym (x.is w es))
              (fronts es x.events last.effects.events g.0, joined w x.out z.0 last.effects.out g.1),
        );
  }

  -- a run of which an instruction was given up
  pub stops_on : PartOnInput tells i0 i1 w0 w1 Came → PartOnInputUntil tells i1 i2 w1 Gone → OnInputUntil tells i0 i2 (RunGivenUp (λ es. TakesUntil moves refused fault a es c) said o0 o2 s runs)
  stops_on r p = hears_some_then tells i0 i1 i2 w0 w1 Came Gone (RunGivenUp (λ es. TakesUntil moves refused fault a es c) said o0 o2 s runs) stops_one r p

-- a run that ended, but for its answer
pub stops_after_events : {T : Type 0} (moves refused : T → Event → T → Type 0) (fault : RunFault) (a b : T) (said : Type 0) (o0 o1 : List ℕ) (tells : Type 0) (i0 i1 : List ℕ) (before : Outside → End) (how : Ending) (steps : ℕ) (s s1 : Store)
    → OnInput tells i0 i1 (Ran (λ es. Takes moves a es b) (Wrote said o0 o1) before how steps s1) → OnInputUntil tells i0 i1 (RunGivenUp (λ es. TakesUntil moves refused fault a es b) said o0 o1 s before)
stops_after_events moves refused fault a b said o0 o1 tells i0 i1 before how steps s s1 r =
    heard_some tells i0 i1 (Ran (λ es. Takes moves a es b) (Wrote said o0 o1) before how steps s1) (RunGivenUp (λ es. TakesUntil moves refused fault a es b) said o0 o1 s before) (λ all rest x. record {
      events = x.events;
      has_told = takes_until_all moves refused fault a b x.events x.has_told;
      is = λ w es. subst (λ (e : End). Grown (effects_of s (record { input = all; out = w; events = es ++ x.events })) e.effects) (sym (x.is w es))
          (record { rest = []; is = sym (append-nil (es ++ x.events)) }, record { rest = x.out; is = refl });
      wrote = λ t. (
        x.out,
        x.has_said t,
        λ w es. subst (λ (e : End). Grown (effects_of s (record { input = all; out = w ++ x.out; events = es })) e.effects) (sym (x.is w es))
            (record { rest = x.events; is = refl }, record { rest = []; is = sym (append-nil (w ++ x.out)) }),
      );
    }) r

-- nothing was told, written and read, and a run begins with all that there is
pub stops_first : {T : Type 0} (moves refused : T → Event → T → Type 0) (fault : RunFault) (a : T) (said : Type 0) (o0 : List ℕ) (tells : Type 0) (i0 : List ℕ) (before : Outside → End) (s : Store)
    → ((o : Outside) → Grown (effects_of s o) (before o).effects) → OnInputUntil tells i0 i0 (RunGivenUp (λ es. TakesUntil moves refused fault a es a) said o0 o0 s before)
stops_first moves refused fault a said o0 tells i0 before s h =
    heard_lost tells i0 i0 (λ t. lost_none i0) (RunGivenUp (λ es. TakesUntil moves refused fault a es a) said o0 o0 s before) (λ all. record {
      events = [];
      has_told = takes_until_all moves refused fault a a [] refl;
      is = λ w es. let g = h (record { input = all; out = w; events = es }) in
          (subst (λ z. IsPrefix z (before (record { input = all; out = w; events = es })).effects.events) (sym (append-nil es)) g.0, g.1);
      wrote = λ t. (
        [],
        sym (append-nil o0),
        λ w es. let g = h (record { input = all; out = w; events = es }) in
            (g.0, subst (λ z. IsPrefix z (before (record { input = all; out = w; events = es })).effects.out) (sym (append-nil w)) g.1),
      );
    })

-- the first event was refused, and nothing was written and read
pub stops_refused : {T : Type 0} (moves refused : T → Event → T → Type 0) (a b : T) (event : Event) (said : Type 0) (o0 : List ℕ) (tells : Type 0) (i0 : List ℕ) (before : Outside → End) (s : Store)
    → refused a event b → ((o : Outside) → Grown (effects_of s (and_told (event ∷ []) o)) (before o).effects) → OnInputUntil tells i0 i0 (RunGivenUp (λ es. TakesSome moves refused a es b) said o0 o0 s before)
stops_refused moves refused a b event said o0 tells i0 before s k h =
    heard_lost tells i0 i0 (λ t. lost_none i0) (RunGivenUp (λ es. TakesSome moves refused a es b) said o0 o0 s before) (λ all. record {
      events = event ∷ [];
      has_told = refuses_one moves refused a b event k;
      is = λ w es. h (record { input = all; out = w; events = es });
      wrote = λ t. (
        [],
        sym (append-nil o0),
        λ w es. let g = h (record { input = all; out = w; events = es }) in (
          fronts es (event ∷ []) (before (record { input = all; out = w; events = es })).effects.events g.0,
          subst (λ z. IsPrefix z (before (record { input = all; out = w; events = es })).effects.out) (sym (append-nil w)) g.1,
        ),
      );
    })

-- the same of another run
pub stops_as : (tells : Type 0) (i0 i1 : List ℕ) (took : List Event → Type 0) (said : Type 0) (o0 o1 : List ℕ) (s s1 : Store) (before other : Outside → End)
    → ((o : Outside) → before o ≡ other o) → OnInputUntil tells i0 i1 (RunGivenUp took said o0 o1 s1 other) → OnInputUntil tells i0 i1 (RunGivenUp took said o0 o1 s before)
stops_as tells i0 i1 took said o0 o1 s s1 before other h p =
    heard_as tells i0 (λ rest. LosesPrefix rest i1) (λ all rest. RunGivenUp took said o0 o1 s1 other all) (λ all rest. RunGivenUp took said o0 o1 s before all) (λ all rest x. record {
      events = x.events;
      has_told = x.has_told;
      is = λ w es. subst (λ (e : End). Grown (effects_of s (record { input = all; out = w; events = es ++ x.events })) e.effects) (sym (h (record { input = all; out = w; events = es }))) (x.is w es);
      wrote = λ t.
          let y = x.wrote t in
          (y.0, y.1, λ w es. subst (λ (e : End). Grown (effects_of s (record { input = all; out = w ++ y.0; events = es })) e.effects) (sym (h (record { input = all; out = w; events = es }))) (y.2 w es));
    }) p

-- an event, and then a run that was given up
pub stops_after : {T : Type 0} (moves refused : T → Event → T → Type 0) (fault : RunFault) (a b c : T) (event : Event) (said : Type 0) (o0 o1 : List ℕ) (tells : Type 0) (i0 i1 : List ℕ) (before other : Outside → End) (s s1 : Store)
    → moves a event b → ((o : Outside) → before o ≡ other (record o { events = o.events ++ event ∷ [] })) → OnInputUntil tells i0 i1 (RunGivenUp (λ es. TakesUntil moves refused fault b es c) said o0 o1 s1 other)
    → OnInputUntil tells i0 i1 (RunGivenUp (λ es. TakesUntil moves refused fault a es c) said o0 o1 s before)
stops_after moves refused fault a b c event said o0 o1 tells i0 i1 before other s s1 k h p =
    heard_as tells i0 (λ rest. LosesPrefix rest i1) (λ all rest. RunGivenUp (λ es. TakesUntil moves refused fault b es c) said o0 o1 s1 other all) (λ all rest. RunGivenUp (λ es. TakesUntil moves refused fault a es c) said o0 o1 s before all) (λ all rest x. record {
      events = event ∷ x.events;
      has_told = takes_until_then moves refused fault a b c (event ∷ []) x.events (b, k, refl) x.has_told;
      is = λ w es.
          let g = x.is w (es ++ event ∷ []) in
          subst (λ (e : End). Grown (effects_of s (record { input = all; out = w; events = es ++ event ∷ x.events })) e.effects) (sym (h (record { input = all; out = w; events = es })))
          (joined es (event ∷ []) x.events (other (record { input = all; out = w; events = es ++ event ∷ [] })).effects.events g.0, g.1);
      wrote = λ t.
          let y = x.wrote t in (
            y.0,
            y.1,
            λ w es.
                let g = y.2 w (es ++ event ∷ []) in
                subst (λ (e : End). Grown (effects_of s (record { input = all; out = w ++ y.0; events = es })) e.effects) (sym (h (record { input = all; out = w; events = es })))
                (fronts es (event ∷ []) (other (record { input = all; out = w; events = es ++ event ∷ [] })).effects.events g.0, g.1),
          );
    }) p
