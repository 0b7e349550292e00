-- What a call leads to, in other words.
use Rattle.std.proofs.Common.{◌≡◌, List, Result, Ok, Err, IfOk, ap, ◌∙◌}
use Rattle.py_code.specs.Configurations.{Effects}
use Rattle.py_code.specs.Machine.{Reach, calls}
use Rattle.py_code.specs.Slots.{by_slots}
use Rattle.py_code.specs.Units.{Module}
use Rattle.py_instructions.specs.declared.frame.State.{State}
use Rattle.py_instructions.specs.declared.turn.Turn.{Turn}
use Rattle.py_instructions.specs.View.{Outside, plain_operands, effects_of, seen, Calls}
use Rattle.py_world.specs.declared.store.Store.{Store}

-- a call that leads to the same does the same
pub leads_as : (ms : List Module) (f g : Effects → Reach) (m m2 : State) (s s2 : Store) → ((o : Outside) → f (effects_of s o) ≡ g (effects_of s o))
    → {E : Type 0} (r : Result Turn E) → IfOk r (Calls ms g m s m2 s2) → IfOk r (Calls ms f m s m2 s2)
leads_as ms f g m m2 s s2 same (Ok t) is = λ o. ap (λ x. calls (by_slots ms) ms x (plain_operands m.top.operands) (seen m s o)) (same o) ∙ is o
leads_as ms f g m m2 s s2 same (Err e) is = tt
