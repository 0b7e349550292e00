-- Instructions that are done at once, one after another.
--     DoneAtOnce            an instruction is done, and the machine goes on; or nothing was done
--     PushedAtOnce          a value was put on top so
--     WentOn                the top operand was taken away, for a jump or for none
--     GoesOn, HasGoneOn     moves that go on, one after another
--     IsNextTurn            such moves, and then one with what is left to do of it
use Rattle.std.specs.Prelude.{◌≡◌, ℕ, zero, suc, Bool, true, false, if◌then◌else◌, List, ◌∷◌}
use Rattle.py_value.specs.Plain.{PlainValue}
use Rattle.py_code.specs.declared.instr.Instr.{Instr}
use Rattle.py_code.specs.declared.unit.Unit.{Unit as RawUnit}
use Rattle.py_code.specs.Configurations.{Configuration, of_value}
use Rattle.py_code.specs.Machine.{falls, move}
use Rattle.py_code.specs.Run.{Goes}
use Rattle.py_code.specs.Slots.{by_slots}
use Rattle.py_code.specs.Units.{Module}
use Rattle.py_instructions.specs.declared.frame.State.{State}
use Rattle.py_instructions.specs.declared.operand.Operand.{Operand as RawOperand}
use Rattle.py_instructions.specs.declared.turn.Turn.{Turn}
use Rattle.py_instructions.specs.declared.turn.Turn.TheVariants.{Goes as TurnGoes}
use Rattle.py_instructions.specs.View.{Slots, Outside, seen, turned, ActsIn, DoesAlone}
use Rattle.py_world.specs.declared.store.Store.{Store}

-- all of an instruction was done, in the same code, and the machine goes on; or nothing was done
abbrev pub DoneAtOnce : Bool → RawUnit → Instr → State → Store → State → Type 0
DoneAtOnce true u i m s m2 = (m2.top.code ≡ m.top.code) × ActsIn u i m s m2 s TurnGoes
DoneAtOnce false u i m s m2 = m2 ≡ m

-- a value was put on top and the machine goes on; or nothing was done
abbrev pub PushedAtOnce : Bool → PlainValue → State → State → Type 0
PushedAtOnce true v m m2 =
    (m2.top.code ≡ m.top.code) × DoesAlone (λ xs. falls (of_value v ∷ xs)) m m2 TurnGoes
PushedAtOnce false v m m2 = m2 ≡ m

-- the top operand was taken away, and the machine jumps or goes on; or nothing was done
abbrev pub WentOn : Bool → Bool → ℕ → State → State → Type 0
WentOn true jump to m m2 =
    (x : RawOperand) × (xs : List RawOperand) × (m.top.operands ≡ x ∷ xs)
    × (m2 ≡ record m {
      top = record m.top {
        place = if jump then to else suc m.top.place;
        operands = xs;
      };
    })
WentOn false jump to m m2 = m2 ≡ m

-- so many moves lead from one configuration to another, and each of them goes on without a step
abbrev pub GoesOn : List Module → ℕ → Configuration Slots → Configuration Slots → Type 0
GoesOn ms zero c d = d ≡ c
GoesOn ms (suc n) c d =
    (e : Configuration Slots) × (move (by_slots ms) ms c ≡ Goes e) × GoesOn ms n e d

-- some moves lead so from one configuration to another
abbrev pub HasGoneOn : List Module → Configuration Slots → Configuration Slots → Type 0
HasGoneOn ms c d = (n : ℕ) × GoesOn ms n c d

-- moves that go on lead to a machine and a store, whose move is a turn, and what came of it
pub record IsNextTurn (ms : List Module) (m : State) (s : Store) (t : Turn) (m2 : State)
    (s2 : Store) : Type 0 where
  pub mid : State
  pub kept : Store
  pub ahead : (o : Outside) → HasGoneOn ms (seen m s o) (seen mid kept o)
  pub turn : (o : Outside)
      → move (by_slots ms) ms (seen mid kept o) ≡ turned ms t (seen m2 s2 o)
