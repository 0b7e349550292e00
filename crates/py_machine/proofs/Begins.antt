-- Where a run begins.
use Rattle.std.proofs.Common.{◌≡◌, ℕ, suc, append_assoc, ◌<◌, false, List, [], ◌∷◌, ◌++◌, length, map, Some, refl, sym, ap, ◌∙◌, subst, append-nil}
use Rattle.std.specs.Prelude.{slice_get}
use Rattle.cov_event.specs.declared.event.CodeId.{CodeId}
use Rattle.cov_event.specs.declared.event.Event.{Event}
use Rattle.cov_event.specs.declared.event.Event.TheVariants.{Call as Called}
use Rattle.cov_event.specs.Moves.{Takes}
use Rattle.py_value.specs.Plain.{PlainValue}
use Rattle.py_builtins.specs.Inputs.{Wrote}
use Rattle.py_code.specs.Configurations.{Effects, Configuration, End}
use Rattle.py_code.specs.Machine.{machine, new_frame, begun_by, entered, outermost, follows}
use Rattle.py_code.specs.Run.{go}
use Rattle.py_code.specs.Slots.{by_slots}
use Rattle.py_code.specs.Units.{Module}
use Rattle.py_code.specs.Valid.{AreValid, AreCodes}
use Rattle.py_code.proofs.Codes.{depths_of, are_valid}
use Rattle.py_code.proofs.Standing.{AllWait}
use Rattle.py_instructions.specs.declared.frame.State.{State}
use Rattle.py_world.specs.declared.store.Store.{Store}
use Rattle.py_machine.specs.declared.ending.Ending.{Ending}
use Rattle.py_machine.specs.declared.ending.Ending.TheVariants.{Spent}
use Rattle.py_machine.specs.Told.{OnInput, PartOnInput, Reached, Ran, AtStart, ended}
use Rattle.py_world.specs.Stores.{world_of}
use Rattle.py_instructions.specs.View.{Slots, Outside, plain_frame, effects_of, seen}
use Rattle.py_machine.proofs.Hearing.{heard_as, heard_nothing, hears_nothing}
use Rattle.py_machine.proofs.Joins.{StandAt, at, wrote_none}

-- nothing happened yet
pub begun : {T : Type 0} (moves : T → Event → T → Type 0) (a : T) (said : Type 0) (o0 : List ℕ) (tells : Type 0) (i0 : List ℕ) (ms : List Module) (m : State) (s : Store)
    → PartOnInput tells i0 i0 false false (Reached (λ es. Takes moves a es a) (Wrote said o0 o0) ms (seen m s) (seen m s))
begun moves a said o0 tells i0 ms m s =
    hears_nothing tells false i0 (λ e. absurd (cc)) (Reached (λ es. Takes moves a es a) (Wrote said o0 o0) ms (seen m s) (seen m s)) (λ all. record {
      events = [];
      out = [];
      has_told = refl;
      has_said = wrote_none said o0;
      is = λ w es. ap (λ o. go (machine (by_slots ms) ms) (seen m s o)) (at all _ _ _ _ (sym (append-nil w)) (sym (append-nil es)));
    })

-- the first frame stands
pub starts : (ms : List Module) (some : 0 < length ms) (h : AreCodes ms) (m : State) (s : Store) → AtStart ms m
    → (depths : CodeId → List ℕ) × (valid : AreValid ms depths) × StandAt ms depths valid m s
starts ms some h m s b =
    let valid = are_valid ms some h in (
      depths_of ms h,
      valid,
      λ o. record {
        top = record {
          unit = b.unit;
          is = b.is;
          stands = ap (λ p. slice_get (depths_of ms h m.top.code) p) b.place ∙ (valid.units m.top.code b.unit b.is).begins ∙ ap (λ xs. Some (length xs)) (sym b.operands);
        };
        callers = subst (λ fs. AllWait (by_slots ms) ms (depths_of ms h) valid (map plain_frame fs)) (sym b.callers) tt;
      },
    )

module _ (ms : List Module) (code : CodeId) (vs : List PlainValue) (m : State) (s s1 : Store) (n budget : ℕ) (is : budget ≡ suc n)
    (frame : plain_frame m.top ≡ new_frame (by_slots ms) ms code vs 1) (callers : m.callers ≡ []) (left : m.steps ≡ n) (w : world_of s1 ≡ begun_by ms code code.unit (world_of s)) where
  abbrev called : Outside → Outside
  called o = record o { events = o.events ++ Called code ∷ [] }

  first_effects : (o : Outside) → entered ms code (effects_of s o) ≡ effects_of s1 (called o)
  first_effects o = ap (λ v. let e : Effects = record { world = v; input = o.input; out = o.out; events = o.events ++ Called code ∷ [] } in e) (sym w)

  first_is : (o : Outside) → let d : Configuration Slots = record { top = new_frame (by_slots ms) ms code vs 1; callers = []; steps = n; effects = entered ms code (effects_of s o) } in d ≡ seen m s1 (called o)
  first_is o =
      ap (λ t. let d : Configuration Slots = record { top = t; callers = []; steps = n; effects = entered ms code (effects_of s o) } in d) (sym frame)
      ∙ ap (λ fs. let d : Configuration Slots = record { top = plain_frame m.top; callers = map plain_frame fs; steps = n; effects = entered ms code (effects_of s o) } in d) (sym callers)
      ∙ ap (λ k. let d : Configuration Slots = record { top = plain_frame m.top; callers = map plain_frame m.callers; steps = k; effects = entered ms code (effects_of s o) } in d) (sym left)
      ∙ ap (λ e. let d : Configuration Slots = record { top = plain_frame m.top; callers = map plain_frame m.callers; steps = m.steps; effects = e } in d) (first_effects o)

  -- the frame begins, and then the run goes on
  pub first_goes : (o : Outside) → follows (by_slots ms) ms (outermost (by_slots ms) ms code vs budget (effects_of s o)) ≡ go (machine (by_slots ms) ms) (seen m s1 (called o))
  first_goes o = ap (λ k. follows (by_slots ms) ms (outermost (by_slots ms) ms code vs k (effects_of s o))) is ∙ ap (go (machine (by_slots ms) ms)) (first_is o)

-- an event, and then a run
pub ran_after : {T : Type 0} (moves : T → Event → T → Type 0) (a b c : T) (event : Event) (wrote : List ℕ → Type 0) (tells : Type 0) (i0 i1 : List ℕ) (before other : Outside → End) (how : Ending) (steps : ℕ) (s : Store)
    → moves a event b → ((o : Outside) → before o ≡ other (record o { events = o.events ++ event ∷ [] }))
    → OnInput tells i0 i1 (Ran (λ es. Takes moves b es c) wrote other how steps s) → OnInput tells i0 i1 (Ran (λ es. Takes moves a es c) wrote before how steps s)
ran_after moves a b c event wrote tells i0 i1 before other how steps s k h r =
    heard_as tells i0 (λ rest. rest ≡ i1) (Ran (λ es. Takes moves b es c) wrote other how steps s) (Ran (λ es. Takes moves a es c) wrote before how steps s) (λ all rest x. record {
      events = event ∷ x.events;
      out = x.out;
      has_told = (b, k, x.has_told);
      has_said = x.has_said;
      is = λ v es.
          h (record { input = all; out = v; events = es })
          ∙ x.is v (es ++ event ∷ [])
          ∙ ap (λ z. ended how steps (effects_of s (record { input = rest; out = v ++ x.out; events = z }))) (append_assoc es (event ∷ []) x.events);
    }) r

-- no step is left for the first frame
pub spent_first : {T : Type 0} (moves : T → Event → T → Type 0) (a : T) (said : Type 0) (o0 : List ℕ) (tells : Type 0) (i0 : List ℕ) (ms : List Module) (code : CodeId) (vs : List PlainValue) (s : Store) (budget : ℕ)
    → budget ≡ 0 → OnInput tells i0 i0 (Ran (λ es. Takes moves a es a) (Wrote said o0 o0) (λ o. follows (by_slots ms) ms (outermost (by_slots ms) ms code vs budget (effects_of s o))) Spent 0 s)
spent_first moves a said o0 tells i0 ms code vs s budget e =
    heard_nothing tells i0 (Ran (λ es. Takes moves a es a) (Wrote said o0 o0) (λ o. follows (by_slots ms) ms (outermost (by_slots ms) ms code vs budget (effects_of s o))) Spent 0 s) (λ all. record {
      events = [];
      out = [];
      has_told = refl;
      has_said = wrote_none said o0;
      is = λ w es.
          ap (λ k. follows (by_slots ms) ms (outermost (by_slots ms) ms code vs k (effects_of s (record { input = all; out = w; events = es })))) e
          ∙ ap (λ o. ended Spent 0 (effects_of s o)) (at all _ _ _ _ (sym (append-nil w)) (sym (append-nil es)));
    })
