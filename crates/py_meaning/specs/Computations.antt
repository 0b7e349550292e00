-- What a program changes as it runs, and how computations over it are put together.
--     Setting, State, Res, M          what changes, and computations over it
--     give, chain, step, tick         nothing, one after the other, and steps
--     read, write, say, note          the setting, bytes and items
--     within, stop                    steps that are left, and none
--     Ans, value, ask, work           computations that answer a value or raise
--     branch                          by the truth of a value
use Rattle.std.specs.Prelude.{ℕ, zero, suc, if◌then◌else◌, List, ◌++◌, Result, Ok, Err}
use Rattle.py_value.specs.Plain.{PlainValue, PlainHeap, PlainRaised}
use Rattle.py_value.specs.Operators.{truth_of}
use Rattle.py_builtins.specs.World.{World, Names, with_heap}
use Rattle.py_meaning.specs.Activations.{Item, Items, more}

-- What statements change: the world, the local names of the present frame, the number of frames,
-- and the bytes of the input that are left.
pub record Setting : Type 0 where
  pub world : World
  pub locals : Names
  pub frames : ℕ
  pub input : List ℕ

-- The setting, the bytes that were written so far, and what happened so far in the present
-- activation. These two only grow.
pub record State : Type 0 where
  pub now : Setting
  pub out : List ℕ
  pub items : Items

-- what a computation gives: an answer, with the state and the steps that are left, or it is cut
pub data Res (A : Type 0) : Type 0 where
  done : (a : A) (s : State) (left : ℕ) → Res A
  cut : (s : State) → Res A

-- a computation, from a state and the number of steps that it may take
abbrev pub M : Type 0 → Type 0
M A = State → ℕ → Res A

-- a value, or an exception
abbrev pub Ans : Type 0 → Type 0
Ans A = Result A PlainRaised

-- goes on after a result, unless that was cut
abbrev pub bind : {A B : Type 0} → Res A → (A → M B) → Res B
bind (done a s n) f = f a s n
bind (cut s) f = cut s

-- with one item more
abbrev pub add : Item → State → State
add i s = record s { items = more s.items i }

-- with another setting
abbrev pub put : (Setting → Setting) → State → State
put f s = record s { now = f s.now }

-- gives a value, and does nothing
unfoldable pub give : {A : Type 0} → A → M A
give a s n = done a s n

-- one after the other
unfoldable pub chain : {A B : Type 0} → M A → (A → M B) → M B
chain m f s n = bind (m s n) f

-- takes a step and notes what happens, or is cut
unfoldable pub step : {A : Type 0} → Item → M A → M A
step i m s zero = cut s
step i m s (suc n) = m (add i s) n

-- takes a step
unfoldable pub tick : {A : Type 0} → M A → M A
tick m s zero = cut s
tick m s (suc n) = m s n

-- an item happens in front
unfoldable pub note : {A : Type 0} → Item → M A → M A
note i m s n = m (add i s) n

-- by the setting
unfoldable pub read : {A : Type 0} → (Setting → M A) → M A
read f s n = f s.now s n

-- with another setting in front
unfoldable pub write : {A : Type 0} → (Setting → Setting) → M A → M A
write f m s n = m (put f s) n

-- writes bytes
unfoldable pub say : {A : Type 0} → List ℕ → M A → M A
say bytes m s n = m (record s { out = s.out ++ bytes }) n

-- with the number of the steps left
unfoldable pub within : {A : Type 0} → (ℕ → M A) → M A
within f s n = f n s n

-- cut at once
unfoldable pub stop : {A : Type 0} → M A
stop s n = cut s

-- ---- answers

-- goes on with the value; an exception stays
abbrev pub on_value : {A B : Type 0} → Ans A → (A → M (Ans B)) → M (Ans B)
on_value (Ok a) f = f a
on_value (Err e) f = give (Err e)

-- goes on with the value of an answer
unfoldable pub value : {A B : Type 0} → M (Ans A) → (A → M (Ans B)) → M (Ans B)
value m f = chain m (λ a. on_value a f)

-- what the setting answers
unfoldable pub ask : {A : Type 0} → (Setting → Ans A) → M (Ans A)
ask f = read (λ w. give (f w))

-- the setting with this world
abbrev pub set_world : World → Setting → Setting
set_world world w = record w { world = world }

-- the setting with this heap
abbrev pub set_heap : PlainHeap → Setting → Setting
set_heap h w = record w { world = with_heap h w.world }

-- the heap that an answer leaves is kept
abbrev pub worked : {A : Type 0} → Ans (A × PlainHeap) → M (Ans A)
worked (Ok r) = write (set_heap r.1) (give (Ok r.0))
worked (Err e) = give (Err e)

-- an operation on the heap
unfoldable pub work : {A : Type 0} → (PlainHeap → Ans (A × PlainHeap)) → M (Ans A)
work f = read (λ w. worked (f w.world.heap))

-- a choice by the truth of a value
unfoldable pub branch : {A : Type 0} → PlainValue → M A → M A → M A
branch v m k = read (λ w. if truth_of v w.world.heap then m else k)
