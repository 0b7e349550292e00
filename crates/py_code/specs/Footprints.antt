-- The table of instructions: what each finds on the operands and what it leaves there, where it
-- goes on, and whether it may raise an exception.
--     Exit, exit                      a place where an instruction goes on
--     Footprint                       what an instruction needs, takes and leaves
--     quiet, risky                    one that goes on at the next place
--     forked, risky_fork, ways        one that goes on at several
--     footprint                       each instruction
--     is_mark                         whether an instruction marks a line
use Rattle.std.specs.Prelude.{ℕ, suc, ◌+◌, Bool, true, false, List, [], ◌∷◌}
use Rattle.py_code.specs.declared.instr.Bounds.TheVariants.{Neither, From, To, Both}
use Rattle.py_code.specs.declared.instr.Instr.{Instr}
use Rattle.py_code.specs.declared.instr.Instr.TheVariants.{Constant, Pop, Copy, Sink, Roll, LoadLocal, StoreLocal, UnsetLocal, LoadGlobal, StoreGlobal, UnsetGlobal, Text, Extend, Tuple, List as MakeList, Dict, AddPair, Not, Binary, InPlace, Compare, Index, Slice, Attribute, StoreIndex, Unpack}
use Rattle.py_code.specs.declared.instr.Instr.TheVariants.{Goto, IfFalse, IfTrue, And, Or, Link, Unless, Sequence, Mark, Again, Walk, Next as NextItem, Method, Call, Return, Function, FunctionWith, Import, Module as LoadModule, Take}
use Rattle.py_code.specs.declared.instr.Instr.TheVariants.{Raise, Reraise, Assertion, AssertionWith, Catches, Caught, Uncaught, Leave, Ending, Breaking, Continuing, Returning, Settle, Release}

-- a place where an instruction goes on, and how many operands it leaves there above those that it
-- doesn't take
pub record Exit : Type 0 where
  pub to : ℕ
  pub leaves : ℕ

-- the exit to this place with so many operands left
abbrev pub exit : ℕ → ℕ → Exit
exit to leaves = record { to = to; leaves = leaves }

-- How many operands must be there, how many of them are taken, where it goes on, and whether it may
-- raise an exception.
pub record Footprint : Type 0 where
  pub needs : ℕ
  pub takes : ℕ
  pub exits : List Exit
  pub raises : Bool

-- takes and leaves so many, and goes on at the next place
abbrev pub quiet : ℕ → ℕ → ℕ → Footprint
quiet p takes leaves =
    record { needs = takes; takes = takes; exits = exit (suc p) leaves ∷ []; raises = false }

-- the same, or raises an exception
abbrev pub risky : ℕ → ℕ → ℕ → Footprint
risky p takes leaves =
    record { needs = takes; takes = takes; exits = exit (suc p) leaves ∷ []; raises = true }

-- takes so many, and goes on at one of these places
abbrev pub forked : ℕ → List Exit → Footprint
forked takes exits = record { needs = takes; takes = takes; exits = exits; raises = false }

-- the same, or raises an exception
abbrev pub risky_fork : ℕ → List Exit → Footprint
risky_fork takes exits = record { needs = takes; takes = takes; exits = exits; raises = true }

-- the four places after a way out
abbrev pub ways : ℕ → List Exit
ways p = exit (4 + p) 0 ∷ exit (1 + p) 0 ∷ exit (2 + p) 0 ∷ exit (3 + p) 1 ∷ []

-- an instruction at a place
abbrev pub footprint : ℕ → Instr → Footprint
footprint p (Constant n) = quiet p 0 1
footprint p Pop = quiet p 1 0
footprint p (Copy n) = quiet p (suc n) (suc (suc n))
footprint p (Sink n) = quiet p (suc n) (suc n)
footprint p (Roll n) = quiet p (suc n) (suc n)
footprint p (LoadLocal n) = risky p 0 1
footprint p (StoreLocal n) = quiet p 1 0
footprint p (UnsetLocal n) = quiet p 0 0
footprint p (LoadGlobal n) = risky p 0 1
footprint p (StoreGlobal n) = quiet p 1 0
footprint p (UnsetGlobal n) = quiet p 0 0
footprint p Text = risky p 1 1
footprint p Extend = risky p 2 1
footprint p (Tuple n) = risky p n 1
footprint p (MakeList n) = risky p n 1
footprint p Dict = quiet p 0 1
footprint p AddPair = risky p 3 1
footprint p Not = quiet p 1 1
footprint p (Binary op) = risky p 2 1
footprint p (InPlace op) = risky p 2 1
footprint p (Compare q) = risky p 2 1
footprint p Index = risky p 2 1
footprint p (Slice Neither) = risky p 1 1
footprint p (Slice From) = risky p 2 1
footprint p (Slice To) = risky p 2 1
footprint p (Slice Both) = risky p 3 1
footprint p (Attribute n) = risky p 1 1
footprint p StoreIndex = risky p 3 0
footprint p (Unpack n) = risky p 1 n
footprint p (Goto to) = forked 0 (exit to 0 ∷ [])
footprint p (IfFalse to) = forked 1 (exit (suc p) 0 ∷ exit to 0 ∷ [])
footprint p (IfTrue to) = forked 1 (exit (suc p) 0 ∷ exit to 0 ∷ [])
footprint p (And to) = forked 1 (exit (suc p) 0 ∷ exit to 1 ∷ [])
footprint p (Or to) = forked 1 (exit (suc p) 0 ∷ exit to 1 ∷ [])
footprint p (Link q to) = risky_fork 2 (exit (suc p) 1 ∷ exit to 1 ∷ [])
footprint p (Unless n to) = forked (suc n) (exit (suc p) n ∷ exit to 0 ∷ [])
footprint p (Sequence k n to) = forked (suc n) (exit (suc p) (k + n) ∷ exit to 0 ∷ [])
footprint p (Mark n) = quiet p 0 0
footprint p (Again n) = quiet p 0 0
footprint p Walk = risky p 1 1
footprint p (NextItem to) = risky_fork 1 (exit (suc p) 2 ∷ exit to 0 ∷ [])
footprint p (Method n) = risky p 1 1
footprint p (Call n) = risky p (suc n) 1
footprint p Return = forked 1 []
footprint p (Function k) = quiet p 0 1
footprint p (FunctionWith k) = quiet p 1 1
footprint p (Import n) = risky p 0 1
footprint p (LoadModule n) = risky p 0 1
footprint p (Take m n) = risky p 1 2
footprint p Raise = risky_fork 1 []
footprint p (Reraise n) = record { needs = suc n; takes = 0; exits = []; raises = true }
footprint p Assertion = risky_fork 0 []
footprint p AssertionWith = risky_fork 1 []
footprint p Catches = risky p 2 2
footprint p Caught = quiet p 1 2
footprint p Uncaught = risky_fork 1 []
footprint p (Leave n to) = forked n (exit to 0 ∷ [])
footprint p Ending = quiet p 0 1
footprint p (Breaking n to) = forked n (exit to 1 ∷ [])
footprint p (Continuing n to) = forked n (exit to 1 ∷ [])
footprint p (Returning n to) = forked (suc n) (exit to 1 ∷ [])
footprint p Settle = risky_fork 1 (ways p)
footprint p Release = risky_fork 1 (ways p)

-- whether an instruction marks a line, so that a jump back may lead to it
abbrev pub is_mark : Instr → Bool
is_mark (Constant n) = false
is_mark Pop = false
is_mark (Copy n) = false
is_mark (Sink n) = false
is_mark (Roll n) = false
is_mark (LoadLocal n) = false
is_mark (StoreLocal n) = false
is_mark (UnsetLocal n) = false
is_mark (LoadGlobal n) = false
is_mark (StoreGlobal n) = false
is_mark (UnsetGlobal n) = false
is_mark Text = false
is_mark Extend = false
is_mark (Tuple n) = false
is_mark (MakeList n) = false
is_mark Dict = false
is_mark AddPair = false
is_mark Not = false
is_mark (Binary op) = false
is_mark (InPlace op) = false
is_mark (Compare q) = false
is_mark Index = false
is_mark (Slice bounds) = false
is_mark (Attribute n) = false
is_mark StoreIndex = false
is_mark (Unpack n) = false
is_mark (Goto to) = false
is_mark (IfFalse to) = false
is_mark (IfTrue to) = false
is_mark (And to) = false
is_mark (Or to) = false
is_mark (Link q to) = false
is_mark (Unless n to) = false
is_mark (Sequence k n to) = false
is_mark (Mark n) = true
is_mark (Again n) = true
is_mark Walk = false
is_mark (NextItem to) = false
is_mark (Method n) = false
is_mark (Call n) = false
is_mark Return = false
is_mark (Function k) = false
is_mark (FunctionWith k) = false
is_mark (Import n) = false
is_mark (LoadModule n) = false
is_mark (Take m n) = false
is_mark Raise = false
is_mark (Reraise n) = false
is_mark Assertion = false
is_mark AssertionWith = false
is_mark Catches = false
is_mark Caught = false
is_mark Uncaught = false
is_mark (Leave n to) = false
is_mark Ending = false
is_mark (Breaking n to) = false
is_mark (Continuing n to) = false
is_mark (Returning n to) = false
is_mark Settle = false
is_mark Release = false
