-- What a machine in memory is: a configuration, but for what lies outside of it.
--     Slots, Outside                   slots, and what lies outside
--     plain_operands, plain_frame      operands, and a frame
--     effects_of                       what the program has changed
--     seen_with, seen                  a configuration
--     turned                           what is left to do of an instruction
--     Does, DoesAlone                  what the machine did is what the definition does
--     Calls                            what a call does
--     Acts, ActsIn, ActsAlone          what an instruction does
--     Discards, Inserts, TakesValues   operands taken away, and put below others
--     TakesValue, TakesTwoValues       one and two of them taken away as values
--     TakesTwo, TakesTruth             two operands taken away, and the truth of one
--     catching                         where an exception goes on
use Rattle.std.specs.Prelude.{◌≡◌, ◌⊎◌, ℕ, nat_le, Bool, true, false, List, [], ◌∷◌, ◌++◌, length, map, take, drop, reverse, Option, Some, None, Vec}
use Rattle.std.specs.declared.alloc.Global.{Global}
use Rattle.cov_event.specs.declared.event.Event.{Event}
use Rattle.py_value.specs.declared.value.Value.{Value}
use Rattle.py_value.specs.Operators.{truth_of}
use Rattle.py_value.specs.Plain.{PlainValue, PlainHeap}
use Rattle.py_value.specs.View.{plain, plains, plain_raised}
use Rattle.py_builtins.specs.Builtins.{builtin_of}
use Rattle.py_code.specs.declared.instr.Instr.{Instr}
use Rattle.py_code.specs.declared.unit.Unit.{Unit as RawUnit}
use Rattle.py_code.specs.Configurations.{Operand, Frame, Effects, Configuration, Next, spent, stuck}
use Rattle.py_code.specs.Machine.{told, with_effects, halted, throw, escapes, give, Reach, calls, by_done, heap_of, act}
use Rattle.py_code.specs.Operands.{value_in}
use Rattle.py_code.specs.Run.{Goes, Ticks}
use Rattle.py_code.specs.Slots.{by_slots}
use Rattle.py_code.specs.Units.{Code, Module, plain_unit}
use Rattle.py_instructions.specs.declared.frame.Frame.{Frame as RawFrame}
use Rattle.py_instructions.specs.declared.frame.State.{State}
use Rattle.py_instructions.specs.declared.operand.Operand.{Operand as RawOperand}
use Rattle.py_world.specs.declared.store.Store.{Store}
use Rattle.py_instructions.specs.declared.turn.Turn.{Turn}
use Rattle.py_instructions.specs.declared.turn.Turn.TheVariants.{Goes as TurnGoes, Steps, Tells, Throws, Escapes, Gives, Asks, Spent, Stuck}
use Rattle.py_world.specs.Stores.{world_of}
use Rattle.py_instructions.specs.Locals.{slots_of}
use Rattle.py_instructions.specs.Operands.{plain_operand}

-- each slot with its value, or unset
abbrev pub Slots : Type 0
Slots = List (Option PlainValue)

-- the bytes of the input that are left, those that were written, and the events
pub record Outside : Type 0 where
  pub input : List ℕ
  pub out : List ℕ
  pub events : List Event

-- the operands of a frame, the topmost first
abbrev pub plain_operands : List RawOperand → List Operand
plain_operands xs = map plain_operand xs

-- a frame in memory as such
abbrev pub plain_frame : RawFrame → Frame Slots
plain_frame f = record {
  code = f.code;
  place = f.place;
  operands = plain_operands f.operands;
  locals = slots_of f.slots;
  line = f.line;
  depth = f.depth;
}

-- what the program has changed: the store, and what lies outside
abbrev pub effects_of : Store → Outside → Effects
effects_of s o = record { world = world_of s; input = o.input; out = o.out; events = o.events }

-- the machine in memory, with these effects
abbrev pub seen_with : State → Effects → Configuration Slots
seen_with m e = record {
  top = plain_frame m.top;
  callers = map plain_frame m.callers;
  steps = m.steps;
  effects = e;
}

-- the machine and the store in memory, as a configuration
abbrev pub seen : State → Store → Outside → Configuration Slots
seen m s o = seen_with m (effects_of s o)

-- what is left to do of an instruction
abbrev pub turned : List Module → Turn → Configuration Slots → Next Slots
turned ms TurnGoes c = Goes c
turned ms Steps c = Ticks c
turned ms (Tells e) c = Ticks (with_effects (told e c.effects) c)
turned ms (Throws e) c = throw (by_slots ms) ms (plain_raised e) c
turned ms (Escapes e t) c = escapes (by_slots ms) ms (plain_raised e) t c
turned ms (Gives v) c = give (by_slots ms) ms (plain v) c.callers c.steps c.effects
turned ms (Asks which vs) c =
    let done = builtin_of which (plains vs.items) (heap_of c) c.effects.input in
    calls (by_slots ms) ms (by_done done c.effects) c.top.operands c
turned ms Spent c = halted spent c
turned ms Stuck c = halted stuck c

-- what the machine did, with what is left to do, is what the definition does with its operands and
-- its configuration
abbrev pub Does : List Module → (List Operand → Configuration Slots → Next Slots) → State → Store
    → State → Store → Turn → Type 0
Does ms does m s m2 s2 t =
    (o : Outside) → does (plain_operands m.top.operands) (seen m s o) ≡ turned ms t (seen m2 s2 o)

-- the same, whatever the effects are, which stay as they are
abbrev pub DoesAlone : (List Operand → Configuration Slots → Next Slots) → State → State → Turn
    → Type 0
DoesAlone does m m2 t =
    (ms : List Module) (e : Effects)
    → does (plain_operands m.top.operands) (seen_with m e) ≡ turned ms t (seen_with m2 e)

-- what a call does that leads there
abbrev pub Calls : List Module → (Effects → Reach) → State → Store → State → Store → Turn → Type 0
Calls ms leads m s m2 s2 t =
    Does ms (λ xs c. calls (by_slots ms) ms (leads c.effects) xs c) m s m2 s2 t

-- what an instruction does, as far as the machine does it alone
abbrev pub Acts : List Module → Code → Instr → State → Store → State → Store → Turn → Type 0
Acts ms u i m s m2 s2 t = Does ms (act (by_slots ms) ms u i) m s m2 s2 t

-- the same, whatever the modules are
abbrev pub ActsIn : RawUnit → Instr → State → Store → State → Store → Turn → Type 0
ActsIn u i m s m2 s2 t = (ms : List Module) → Acts ms (plain_unit u) i m s m2 s2 t

-- the same of one that leaves the store as it is, whatever that holds
abbrev pub ActsAlone : RawUnit → Instr → State → State → Turn → Type 0
ActsAlone u i m m2 t = (ms : List Module) (s : Store) → Acts ms (plain_unit u) i m s m2 s t

-- so many operands were taken away, or there are fewer
abbrev pub Discards : Bool → ℕ → List Operand → List Operand → Type 0
Discards true n xs ys = (nat_le n (length xs) ≡ true) × (ys ≡ drop n xs)
Discards false n xs ys = nat_le n (length xs) ≡ false

-- an operand was put below so many others, or there are fewer
abbrev pub Inserts : Bool → ℕ → Operand → List Operand → List Operand → Type 0
Inserts true n x xs ys = (nat_le n (length xs) ≡ true) × (ys ≡ take n xs ++ x ∷ drop n xs)
Inserts false n x xs ys = nat_le n (length xs) ≡ false

-- so many values were taken away, the lowest first, or there are fewer
abbrev pub TakesValues : Option (Vec Value Global) → ℕ → List Operand → List Operand → Type 0
TakesValues (Some vs) n xs ys =
    (nat_le n (length xs) ≡ true) × (plains vs.items ≡ map value_in (reverse (take n xs)))
    × (ys ≡ drop n xs)
TakesValues None n xs ys = nat_le n (length xs) ≡ false

-- the topmost operand was taken away, as this value, or there is none
abbrev pub TakesValue : Option Value → List Operand → List Operand → Type 0
TakesValue (Some v) xs ys = (x : Operand) × (xs ≡ x ∷ ys) × (plain v ≡ value_in x)
TakesValue None xs ys = xs ≡ []

-- two operands were taken away, as these values, the lower one first, or there are fewer
abbrev pub TakesTwoValues : Option (Value × Value) → List Operand → List Operand → Type 0
TakesTwoValues (Some p) xs ys =
    (x : Operand) × (y : Operand) × (xs ≡ y ∷ x ∷ ys) × (plain p.0 ≡ value_in x)
    × (plain p.1 ≡ value_in y)
TakesTwoValues None xs ys = (xs ≡ []) ⊎ ((x : Operand) × (xs ≡ x ∷ []))

-- two operands were taken away, the lower one first, or there are fewer
abbrev pub TakesTwo : Option (RawOperand × RawOperand) → List RawOperand → List RawOperand
    → Type 0
TakesTwo (Some p) xs ys = xs ≡ p.1 ∷ p.0 ∷ ys
TakesTwo None xs ys = (xs ≡ []) ⊎ ((x : RawOperand) × (xs ≡ x ∷ []))

-- the topmost operand was taken away, which has this truth, or there is none
abbrev pub TakesTruth : Option Bool → PlainHeap → List Operand → List Operand → Type 0
TakesTruth (Some b) h xs ys =
    (x : Operand) × (xs ≡ x ∷ ys) × (truth_of (value_in x) h ≡ b)
TakesTruth None h xs ys = xs ≡ []

-- goes on at a handler, or what follows outside
abbrev pub catching : Bool → Next Slots → Configuration Slots → Next Slots
catching true out c = Goes c
catching false out c = out
