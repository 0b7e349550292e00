-- What becomes of a tracer, a source and a sink in a part of a run.
--     OnInputs             what holds of every input that gives the answers which were read
--     OnInput               the same, and what the source has left then
--     Opens, PartOnInput        the same of a part of a run, and whether the source was at its end
--     Went                where a move leads
--     Tells, Passed       a part that only tells events, and one that is left in the middle
--     Part                any part
--     After               what holds after moves that go on
--     Step                one instruction
--     Reached, Ran        a run on its way, and one that ended
--     AtStart             where it begins
--     Grown, Grows        events and bytes that only grow
--     RefusesLast         a tracer that refused the last of its events
--     TakesSome           one that may have refused the last
--     TakesUntil          one that may have, where memory was wanting
--     CallsSome           one that was called, whatever it did
--     OnInputUntil           what holds of every input, where a read may have been given up
--     PartOnInputUntil           the same of a part of a run
--     MoveGivenUp, PartGivenUp     a part of a run that was given up
--     RunGivenUp             a run that was given up
use Rattle.std.specs.Prelude.{◌≡◌, ℕ, Bool, true, false, List, [], ◌∷◌, ◌++◌, Option, Some, None, ◌⊎◌}
use Rattle.cov_event.specs.declared.event.Event.{Event}
use Rattle.cov_event.specs.Moves.{Takes, Calls}
use Rattle.cov_outside.specs.Prefixes.{IsPrefix, LosesPrefix}
use Rattle.py_builtins.specs.declared.fault.RunFault.{RunFault}
use Rattle.py_builtins.specs.declared.fault.RunFault.TheVariants.{ReadFault, WriteFault, NoMemory}
use Rattle.py_builtins.specs.Inputs.{Fed}
use Rattle.py_code.specs.Configurations.{Effects, Configuration, End, Next}
use Rattle.py_code.specs.Machine.{halted, machine}
use Rattle.py_code.specs.Run.{Goes, Ticks, Ends, go}
use Rattle.py_code.specs.Slots.{by_slots}
use Rattle.py_code.specs.Units.{Code, Module, unit_at}
use Rattle.py_machine.specs.declared.ending.Ending.{Ending}
use Rattle.py_machine.specs.Endings.{plain_ended}
use Rattle.py_instructions.specs.declared.frame.State.{State}
use Rattle.py_world.specs.declared.store.Store.{Store}
use Rattle.py_instructions.specs.AtOnce.{HasGoneOn}
use Rattle.py_instructions.specs.View.{Slots, Outside, plain_operands, effects_of, seen}

-- It holds of every input that gives the answers which were read, and of what this input has left
-- then. There is such an input. The bytes of a source that tells them are one, and what it left of
-- them is told.
pub record OnInputs (tells : Type 0) (before : List ℕ) (left : List ℕ → Type 0)
    (P : List ℕ → List ℕ → Type 0) : Type 0 where
  pub heard : List (Option ℕ)
  pub input : List ℕ
  pub rest : List ℕ
  pub fed : Fed heard input rest
  pub told : tells → (input ≡ before) × left rest
  pub holds : (all rest : List ℕ) → Fed heard all rest → P all rest

-- a source that tells its bytes has these left
abbrev pub OnInput : Type 0 → List ℕ → List ℕ → (List ℕ → List ℕ → Type 0) → Type 0
OnInput tells before after P = OnInputs tells before (λ rest. rest ≡ after) P

-- It holds also with these bytes in front of any others, which are left then. Either they are those
-- that were read, or the end of the input was met.
pub record Opens (P : List ℕ → List ℕ → Type 0) (input rest : List ℕ) : Type 0 where
  pub bytes : List ℕ
  pub holds : (more : List ℕ) → P (bytes ++ more) more
  pub shape : (input ≡ bytes ++ rest) ⊎ (rest ≡ [])

-- A part of a run, and whether the source was at its end before it and after it. At its end it
-- gives no byte and stays there; before its end any bytes may follow.
pub record PartOnInput (tells : Type 0) (before after : List ℕ) (was is : Bool)
    (P : List ℕ → List ℕ → Type 0) : Type 0 where
  pub hears : OnInput tells before after P
  pub stays : was ≡ true → (hears.input ≡ []) × (is ≡ true)
  pub closes : is ≡ true → hears.rest ≡ []
  pub opens : is ≡ false → Opens P hears.input hears.rest

-- a source that tells its bytes has none left at its end
abbrev pub IsAtEnd : Bool → Type 0 → List ℕ → Type 0
IsAtEnd is tells left = is ≡ true → tells → left ≡ []

-- the move goes on to this configuration, or ends the run there
abbrev pub Went : Option Ending → Next Slots → Configuration Slots → Type 0
Went None n c = (n ≡ Goes c) ⊎ (n ≡ Ticks c)
Went (Some how) n c = n ≡ halted (plain_ended how) c

-- what lies outside: the input that is left, the bytes that were written, and the events
abbrev pub outside : List ℕ → List ℕ → List Event → Outside
outside input out events = record { input = input; out = out; events = events }

-- events that were told while this move was made
pub record Tells (took : List Event → Type 0) (before : Outside → Next Slots)
    (now : Outside → Configuration Slots) (how : Option Ending) : Type 0 where
  pub events : List Event
  pub has_told : took events
  pub is : (o : Outside) → Went how (before o) (now (record o { events = o.events ++ events }))

-- events that were told, and bytes that were written, while this move was made with this input
pub record Part (took : List Event → Type 0) (wrote : List ℕ → Type 0)
    (before : Outside → Next Slots) (now : Outside → Configuration Slots) (how : Option Ending)
    (all rest : List ℕ) : Type 0 where
  pub events : List Event
  pub out : List ℕ
  pub has_told : took events
  pub has_said : wrote out
  pub is : (w : List ℕ) (es : List Event)
      → Went how (before (outside all w es)) (now (outside rest (w ++ out) (es ++ events)))

-- it holds of a machine and a store to which some moves lead that go on
pub record After (ms : List Module) (m : State) (s : Store) (P : State → Store → Type 0) : Type 0
  where
    pub mid : State
    pub kept : Store
    pub ahead : (o : Outside) → HasGoneOn ms (seen m s o) (seen mid kept o)
    pub holds : P mid kept

-- one instruction, and whether the source was at its end
abbrev pub Step : Type 0 → List ℕ → List ℕ → Bool → Bool → (List Event → Type 0)
    → (List ℕ → Type 0) → (Outside → Next Slots) → (Outside → Configuration Slots)
    → Option Ending → Type 0
Step tells left after was is took wrote before now how =
    PartOnInput tells left after was is (Part took wrote before now how)

-- a run on its way: it goes on as one from another configuration, with these events told and bytes
-- written in between
pub record Reached (took : List Event → Type 0) (wrote : List ℕ → Type 0) (ms : List Module)
    (before now : Outside → Configuration Slots) (all rest : List ℕ) : Type 0 where
  pub events : List Event
  pub out : List ℕ
  pub has_told : took events
  pub has_said : wrote out
  pub is : (w : List ℕ) (es : List Event)
      → go (machine (by_slots ms) ms) (before (outside all w es))
      ≡ go (machine (by_slots ms) ms) (now (outside rest (w ++ out) (es ++ events)))

-- what an end leaves
abbrev pub ended : Ending → ℕ → Effects → End
ended how steps e = record { how = plain_ended how; steps = steps; effects = e }

-- a run that ended
pub record Ran (took : List Event → Type 0) (wrote : List ℕ → Type 0) (before : Outside → End)
    (how : Ending) (steps : ℕ) (s : Store) (all rest : List ℕ) : Type 0 where
  pub events : List Event
  pub out : List ℕ
  pub has_told : took events
  pub has_said : wrote out
  pub is : (w : List ℕ) (es : List Event)
      → before (outside all w es)
      ≡ ended how steps (effects_of s (outside rest (w ++ out) (es ++ events)))

-- the machine at the begin of a frame that nothing waits for
pub record AtStart (ms : List Module) (m : State) : Type 0 where
  pub unit : Code
  pub is : unit_at ms m.top.code ≡ Some unit
  pub place : m.top.place ≡ 0
  pub operands : plain_operands m.top.operands ≡ []
  pub callers : m.callers ≡ []

-- the move is the same as another, that is made after these events
pub record Passed (took : List Event → Type 0) (before now : Outside → Next Slots) : Type 0 where
  pub events : List Event
  pub has_told : took events
  pub is : (o : Outside) → before o ≡ now (record o { events = o.events ++ events })

-- the events and the bytes of the second begin with those of the first
abbrev pub Grown : Effects → Effects → Type 0
Grown e f = IsPrefix e.events f.events × IsPrefix e.out f.out

-- those of the effects that a move leads to begin with these
abbrev pub GrowsTo : {L : Type 0} → Effects → Next L → Type 0
GrowsTo e (Goes c) = Grown e c.effects
GrowsTo e (Ticks c) = Grown e c.effects
GrowsTo e (Ends r) = Grown e r.effects

-- so do those of a move
pub record Grows {L : Type 0} (e : Effects) (n : Next L) : Type 0 where
  pub holds : GrowsTo e n

-- the last of these events was refused, and each before it was taken
pub record RefusesLast {T : Type 0} (moves refused : T → Event → T → Type 0) (old : T)
    (events : List Event) (new : T) : Type 0 where
  pub taken : List Event
  pub last : Event
  pub is : events ≡ taken ++ last ∷ []
  pub mid : T
  pub has_taken : Takes moves old taken mid
  pub has_refused : refused mid last new

-- a tracer that was told these events: each was taken, or the last was refused
abbrev pub TakesSome : {T : Type 0} → (T → Event → T → Type 0) → (T → Event → T → Type 0) → T
    → List Event → T → Type 0
TakesSome moves refused old events new =
    Takes moves old events new ⊎ RefusesLast moves refused old events new

-- so it is for want of memory; where reading or writing failed, each was taken
abbrev pub TakesUntil : {T : Type 0} → (T → Event → T → Type 0) → (T → Event → T → Type 0)
    → RunFault → T → List Event → T → Type 0
TakesUntil moves refused ReadFault old events new = Takes moves old events new
TakesUntil moves refused WriteFault old events new = Takes moves old events new
TakesUntil moves refused NoMemory old events new = TakesSome moves refused old events new

-- a tracer that was called, each event taken or refused
abbrev pub CallsSome : {T : Type 0} → (T → Event → T → Type 0) → (T → Event → T → Type 0) → T → T
    → Type 0
CallsSome moves refused old new = (calls : List (Event × Bool)) × Calls moves refused old calls new

-- a move that was given up: the events that were told are those that the move begins with
pub record MoveGivenUp (took : List Event → Type 0) (s : Store)
    (before : Outside → Next Slots) : Type 0 where
  pub events : List Event
  pub has_told : took events
  pub is : (o : Outside)
      → Grows (effects_of s (record o { events = o.events ++ events })) (before o)

-- It holds of every input that gives the answers which were read before the last one. There is such
-- an input, and the bytes of a source that tells them are one: it lost a prefix of them.
abbrev pub OnInputUntil : Type 0 → List ℕ → List ℕ → (List ℕ → Type 0) → Type 0
OnInputUntil tells before after P =
    OnInputs tells before (λ rest. LosesPrefix rest after) (λ all rest. P all)

-- a part of a run, and whether the source was at its end before it
pub record PartOnInputUntil (tells : Type 0) (before after : List ℕ) (was : Bool)
    (P : List ℕ → Type 0) : Type 0 where
  pub hears : OnInputUntil tells before after P
  pub stays : was ≡ true → hears.input ≡ []

-- a move that was given up with this input: what was told, and what was written, is what it begins
-- with
pub record PartGivenUp (took : List Event → Type 0) (said : Type 0) (o0 o1 : List ℕ) (s : Store)
    (before : Outside → Next Slots) (all : List ℕ) : Type 0 where
  pub events : List Event
  pub has_told : took events
  pub is : (w : List ℕ) (es : List Event)
      → Grows (effects_of s (outside all w (es ++ events))) (before (outside all w es))
  pub wrote : said
      → (out : List ℕ) × (o1 ≡ o0 ++ out)
      × ((w : List ℕ) (es : List Event)
      → Grows (effects_of s (outside all (w ++ out) es)) (before (outside all w es)))

-- a run that was given up with this input
pub record RunGivenUp (took : List Event → Type 0) (said : Type 0) (o0 o1 : List ℕ) (s : Store)
    (before : Outside → End) (all : List ℕ) : Type 0 where
  pub events : List Event
  pub has_told : took events
  pub is : (w : List ℕ) (es : List Event)
      → Grown (effects_of s (outside all w (es ++ events))) (before (outside all w es)).effects
  pub wrote : said
      → (out : List ℕ) × (o1 ≡ o0 ++ out)
      × ((w : List ℕ) (es : List Event)
      → Grown (effects_of s (outside all (w ++ out) es)) (before (outside all w es)).effects)
