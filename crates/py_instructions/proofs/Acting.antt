-- What an instruction does, by what the function of its form does.
use Rattle.std.proofs.Common.{◌≡◌, List, Result, Ok, Err, IfOk, ap, ◌∙◌}
use Rattle.py_code.specs.declared.instr.Instr.{Instr}
use Rattle.py_code.specs.declared.unit.Unit.{Unit as RawUnit}
use Rattle.py_code.specs.Machine.{act}
use Rattle.py_code.specs.Slots.{by_slots}
use Rattle.py_code.specs.Units.{Module, plain_unit}
use Rattle.py_world.specs.declared.store.Store.{Store}
use Rattle.py_instructions.specs.declared.frame.State.{State}
use Rattle.py_instructions.specs.declared.turn.Turn.{Turn}
use Rattle.py_instructions.specs.View.{plain_operands, seen, Acts, ActsIn, ActsAlone}

module _ (ms : List Module) (u : RawUnit) (i j : Instr) (same : i ≡ j) (m m2 : State) (s : Store) where
  -- an instruction that leaves the store as it is
  pub alone : (t : Turn) → ActsAlone u j m m2 t → Acts ms (plain_unit u) i m s m2 s t
  alone t is = λ o. ap (λ k. act (by_slots ms) ms (plain_unit u) k (plain_operands m.top.operands) (seen m s o)) same ∙ is ms s o

  pub if_alone : {E : Type 0} (r : Result Turn E) → IfOk r (ActsAlone u j m m2) → IfOk r (Acts ms (plain_unit u) i m s m2 s)
  if_alone (Ok t) is = alone t is
  if_alone (Err e) is = tt

  -- one that may change the store
  pub within : (s2 : Store) (t : Turn) → ActsIn u j m s m2 s2 t → Acts ms (plain_unit u) i m s m2 s2 t
  within s2 t is = λ o. ap (λ k. act (by_slots ms) ms (plain_unit u) k (plain_operands m.top.operands) (seen m s o)) same ∙ is ms o

  pub if_within : {E : Type 0} (s2 : Store) (r : Result Turn E) → IfOk r (ActsIn u j m s m2 s2) → IfOk r (Acts ms (plain_unit u) i m s m2 s2)
  if_within s2 (Ok t) is = within s2 t is
  if_within s2 (Err e) is = tt

  -- one for which the modules are given
  pub if_given : {E : Type 0} (s2 : Store) (r : Result Turn E) → IfOk r (Acts ms (plain_unit u) j m s m2 s2) → IfOk r (Acts ms (plain_unit u) i m s m2 s2)
  if_given s2 (Ok t) is = λ o. ap (λ k. act (by_slots ms) ms (plain_unit u) k (plain_operands m.top.operands) (seen m s o)) same ∙ is o
  if_given s2 (Err e) is = tt

  -- one for which the modules are given, and that leaves any store as it is
  pub if_kept : {E : Type 0} (r : Result Turn E) → IfOk r (λ t. (k : Store) → Acts ms (plain_unit u) j m k m2 k t) → IfOk r (Acts ms (plain_unit u) i m s m2 s)
  if_kept (Ok t) is = λ o. ap (λ k. act (by_slots ms) ms (plain_unit u) k (plain_operands m.top.operands) (seen m s o)) same ∙ is s o
  if_kept (Err e) is = tt
