-- Instructions that were done at once, on the way of a run.
use Rattle.std.proofs.Common.{◌≡◌, ℕ, zero, suc, ◌≤◌, Bool, List, sym, ap, ◌∙◌, subst, arith}
use Rattle.cov_event.specs.declared.event.CodeId.{CodeId}
use Rattle.cov_event.specs.declared.event.Event.{Event}
use Rattle.py_code.specs.Configurations.{Configuration}
use Rattle.py_code.specs.Machine.{machine}
use Rattle.py_code.specs.Run.{go}
use Rattle.py_code.specs.Slots.{by_slots}
use Rattle.py_code.specs.Units.{Module}
use Rattle.py_code.specs.Valid.{AreValid}
use Rattle.py_code.proofs.Ahead.{distance, goes_on}
use Rattle.py_code.proofs.Standing.{Stands}
use Rattle.py_instructions.specs.declared.frame.State.{State}
use Rattle.py_instructions.specs.AtOnce.{GoesOn, HasGoneOn}
use Rattle.py_instructions.specs.View.{Slots, Outside, seen}
use Rattle.py_world.specs.declared.store.Store.{Store}
use Rattle.py_machine.specs.Told.{PartOnInput, Reached}
use Rattle.py_machine.proofs.Hearing.{hears_as}
use Rattle.py_machine.proofs.Joins.{StandAt}

module _ (ms : List Module) (depths : CodeId → List ℕ) (valid : AreValid ms depths) where
  -- the same run goes on there, no farther from its end
  pub record Led (c d : Configuration Slots) : Type 0 where
    pub same : go (machine (by_slots ms) ms) c ≡ go (machine (by_slots ms) ms) d
    pub near : distance (by_slots ms) ms d ≤ distance (by_slots ms) ms c
    pub stands : Stands (by_slots ms) ms depths valid d

  led : (n : ℕ) (c d : Configuration Slots) → Stands (by_slots ms) ms depths valid c → GoesOn ms n c d → Led c d
  led zero c d s e = record {
    same = ap (go (machine (by_slots ms) ms)) (sym e);
    near = subst (λ x. distance (by_slots ms) ms x ≤ distance (by_slots ms) ms c) (sym e) (omega arith);
    stands = subst (Stands (by_slots ms) ms depths valid) (sym e) s;
  }
  led (suc n) c d s h =
      let l = goes_on (by_slots ms) ms depths valid c h.0 s h.1 in
      let r = led n h.0 d l.stands h.2 in
      record { same = l.same ∙ r.same; near = omega (arith, l.nearer, r.near); stands = r.stands }

  module _ (m m2 : State) (s s2 : Store) (stand : StandAt ms depths valid m s) (ahead : (o : Outside) → HasGoneOn ms (seen m s o) (seen m2 s2 o)) where
    led_at : (o : Outside) → Led (seen m s o) (seen m2 s2 o)
    led_at o = let a = ahead o in led a.0 (seen m s o) (seen m2 s2 o) (stand o) a.1

    pub stands_ahead : StandAt ms depths valid m2 s2
    stands_ahead = λ o. (led_at o).stands

    pub near_ahead : (o : Outside) → distance (by_slots ms) ms (seen m2 s2 o) ≤ distance (by_slots ms) ms (seen m s o)
    near_ahead o = (led_at o).near

    pub reached_ahead : (took : List Event → Type 0) (wrote : List ℕ → Type 0) (before : Outside → Configuration Slots) (tells : Type 0) (i0 i1 : List ℕ) (was is : Bool)
        → PartOnInput tells i0 i1 was is (Reached took wrote ms before (seen m s)) → PartOnInput tells i0 i1 was is (Reached took wrote ms before (seen m2 s2))
    reached_ahead took wrote before tells i0 i1 was is =
        hears_as tells i0 i1 was is (Reached took wrote ms before (seen m s)) (Reached took wrote ms before (seen m2 s2)) (λ all rest x. record {
          events = x.events;
          out = x.out;
          has_told = x.has_told;
          has_said = x.has_said;
          is = λ w es. x.is w es ∙ (led_at _).same;
        })
