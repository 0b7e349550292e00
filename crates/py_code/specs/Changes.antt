-- What a machine changes, and what an instruction finds.
--     told .. escaped                what was told and the world
--     with_operands .. heap_of       a configuration with one thing changed
--     halted, jumps, falls, pushes   the end, and where an instruction goes on
--     dropping, one .. many          operands
--     numbered, stepping             what has a number, and a step
use Rattle.std.specs.Prelude.{ℕ, zero, suc, ◌==◌, nat_le, if◌then◌else◌, List, [], ◌∷◌, ◌++◌, length, map, take, drop, reverse, Option, Some, None, slice_get}
use Rattle.cov_event.specs.declared.event.CodeId.{CodeId}
use Rattle.cov_event.specs.declared.event.Event.{Event}
use Rattle.cov_event.specs.declared.event.Event.TheVariants.{Call as Called, Line, Return as Returned}
use Rattle.py_value.specs.Plain.{PlainValue, PlainHeap}
use Rattle.py_builtins.specs.World.{World, with_heap, with_begun, without_begun, first_names}
use Rattle.py_code.specs.Configurations.{Operand, of_value, Effects, Configuration, Ended, spent, stuck, Next}
use Rattle.py_code.specs.Run.{Goes, Ends}
use Rattle.py_code.specs.Units.{Module}
use Rattle.py_code.specs.Operands.{value_in}

-- ---- effects

-- an event is told after the earlier ones
abbrev pub told : Event → Effects → Effects
told event e = record e { events = e.events ++ event ∷ [] }

-- the world is changed, and nothing outside of it
abbrev pub in_world : (World → World) → Effects → Effects
in_world f e = record e { world = f e.world }

-- a line begins, unless it is kept
abbrev pub told_line : ℕ → ℕ → Effects → Effects
told_line kept l e = if l == kept then e else told (Line l) e

-- the name of a module, empty where there is none
abbrev pub name_at : Option Module → List ℕ
name_at None = []
name_at (Some m) = m.name

-- the body of a module begins it, and a function none
abbrev pub begun_by : List Module → CodeId → ℕ → World → World
begun_by ms code zero w =
    with_begun code.module (first_names (name_at (slice_get ms code.module))) w
begun_by ms code (suc k) w = w

-- a module whose body raised counts as not begun
abbrev pub failed_by : CodeId → ℕ → World → World
failed_by code zero w = without_begun code.module w
failed_by code (suc k) w = w

-- a frame of a code begins: that is told, and the body of a module begins it
abbrev pub entered : List Module → CodeId → Effects → Effects
entered ms code e = told (Called code) (in_world (begun_by ms code code.unit) e)

-- an exception leaves the frame of a code: its end is told, and the module of a body failed
abbrev pub escaped : CodeId → Effects → Effects
escaped code e = told Returned (in_world (failed_by code code.unit) e)

-- ---- configurations

-- the same configuration with other operands in its top frame
abbrev pub with_operands : {L : Type 0} → List Operand → Configuration L → Configuration L
with_operands xs c = record c { top = record c.top { operands = xs } }

-- the same configuration with other local names in its top frame
abbrev pub with_locals : {L : Type 0} → L → Configuration L → Configuration L
with_locals l c = record c { top = record c.top { locals = l } }

-- the same configuration with other effects
abbrev pub with_effects : {L : Type 0} → Effects → Configuration L → Configuration L
with_effects e c = record c { effects = e }

-- the same configuration with its world changed
abbrev pub on_world : {L : Type 0} → (World → World) → Configuration L → Configuration L
on_world f c = with_effects (in_world f c.effects) c

-- the same configuration with another heap
abbrev pub on_heap : {L : Type 0} → PlainHeap → Configuration L → Configuration L
on_heap h c = on_world (with_heap h) c

-- the heap of a configuration
abbrev pub heap_of : {L : Type 0} → Configuration L → PlainHeap
heap_of c = c.effects.world.heap

-- the end at a configuration
abbrev pub halted : {L : Type 0} → Ended → Configuration L → Next L
halted how c = Ends (record { how = how; steps = c.steps; effects = c.effects })

-- goes to a place, with these operands
abbrev pub jumps : {L : Type 0} → ℕ → List Operand → Configuration L → Next L
jumps to xs c = Goes (record c { top = record c.top { place = to; operands = xs } })

-- goes on at the next place, with these operands
abbrev pub falls : {L : Type 0} → List Operand → Configuration L → Next L
falls xs c = jumps (suc c.top.place) xs c

-- goes on at the next place, with a value on top of these operands
abbrev pub pushes : {L : Type 0} → PlainValue → List Operand → Configuration L → Next L
pushes v xs c = falls (of_value v ∷ xs) c

-- takes so many operands away
abbrev pub dropping : {L : Type 0} → ℕ → List Operand → Configuration L
    → (List Operand → Next L) → Next L
dropping n xs c k = if nat_le n (length xs) then k (drop n xs) else halted stuck c

-- ---- what an instruction finds

-- the topmost operand, and those below it
abbrev pub one : {L : Type 0} → List Operand → Configuration L
    → (Operand → List Operand → Next L) → Next L
one [] c k = halted stuck c
one (x ∷ xs) c k = k x xs

-- the lower operand first
abbrev pub two : {L : Type 0} → List Operand → Configuration L
    → (Operand → Operand → List Operand → Next L) → Next L
two xs c k = one xs c (λ y ys. one ys c (λ x zs. k x y zs))

-- three operands, the lowest first
abbrev pub three : {L : Type 0} → List Operand → Configuration L
    → (Operand → Operand → Operand → List Operand → Next L) → Next L
three xs c k = one xs c (λ z ys. two ys c (λ x y zs. k x y z zs))

-- so many values, the lowest first
abbrev pub many : {L : Type 0} → ℕ → List Operand → Configuration L
    → (List PlainValue → List Operand → Next L) → Next L
many n xs c k = dropping n xs c (λ ys. k (map value_in (reverse (take n xs))) ys)

-- what stands at a number of a list
abbrev pub where_found : {L A : Type 0} → Option A → Configuration L → (A → Next L) → Next L
where_found None c k = halted stuck c
where_found (Some x) c k = k x

-- what has a number in a list
abbrev pub numbered : {L A : Type 0} → List A → ℕ → Configuration L → (A → Next L) → Next L
numbered xs n c k = where_found (slice_get xs n) c k

-- a step is taken
abbrev pub stepping : {L : Type 0} → ℕ → Configuration L → (ℕ → Next L) → Next L
stepping zero c k = halted spent c
stepping (suc n) c k = k n
