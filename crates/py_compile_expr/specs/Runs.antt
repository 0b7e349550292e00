-- What a machine does with the code of an expression, beside what the expression means.
--     Spot, conf, from               where a machine stands, in the state of a computation, and its
--                                    run from there
--     thrown, after                  what follows an exception, and an answer
--     Fits, Matches                  handlers that lead ahead; units of the code beside functions
--                                    of the text
--     CallsRun, ExpressionsRun       the law of calls, and of expressions
use Rattle.std.specs.Prelude.{◌≡◌, ℕ, ◌+◌, ◌-◌, ◌<◌, ◌≤◌, true, List, ◌∷◌, length, drop, Option, Some, None, Ok, Err}
use Rattle.cov_event.specs.declared.event.CodeId.{CodeId}
use Rattle.cov_event.specs.declared.event.Event.{Event}
use Rattle.py_value.specs.Plain.{PlainValue, PlainRaised}
use Rattle.py_syntax.specs.Functions.{Function}
use Rattle.py_syntax.specs.Tree.{Expr}
use Rattle.py_builtins.specs.World.{Names}
use Rattle.py_meaning.specs.Activations.{throw as throw_item, kept_line}
use Rattle.py_meaning.specs.Calls.{Calls}
use Rattle.py_meaning.specs.Computations.{State, Res, done, cut, Ans, add}
use Rattle.py_meaning.specs.Events.{told}
use Rattle.py_meaning.specs.Expressions.{eval}
use Rattle.py_meaning.specs.Laws.{AreSteady}
use Rattle.py_meaning.specs.Modules.{LoadedModule, function_found}
use Rattle.py_meaning.specs.Places.{Place}
use Rattle.py_code.specs.Configurations.{Operand, of_value, of_way, by_raise, Frame, Effects, Configuration, spent, End}
use Rattle.py_code.specs.Machine.{leave, begins, stepping, machine, follows}
use Rattle.py_code.specs.Run.{go}
use Rattle.py_code.specs.Slots.{by_names}
use Rattle.py_code.specs.Units.{Code, Module, unit_at, handler_of}
use Rattle.py_compile_expr.specs.Cells.{Guard}
use Rattle.py_compile_expr.specs.Expressions.{expr_size, expr_code}
use Rattle.py_compile_expr.specs.Stands.{Guards, HasAt}

-- A frame of this code, on these that wait for it, with the events in front of what happens in it.
pub record Spot : Type 0 where
  pub code : CodeId
  pub callers : List (Frame Names)
  pub before : List Event

-- the effects of a run so far, after the events that were told before
abbrev pub effects_of : List Event → State → Effects
effects_of before s = record {
  world = s.now.world;
  input = s.now.input;
  out = s.out;
  events = told before s.items;
}

-- at a place, with these operands, in the state of a computation that has so many steps left
abbrev pub conf : Spot → ℕ → List Operand → State → ℕ → Configuration Names
conf w p st s n = record {
  top =
      record {
        code = w.code;
        place = p;
        operands = st;
        locals = s.now.locals;
        line = kept_line s.items;
        depth = s.now.frames;
      };
  callers = w.callers;
  steps = n;
  effects = effects_of w.before s;
}

-- the run of a machine from a place on
abbrev pub from : List Module → Spot → ℕ → List Operand → State → ℕ → End
from cs w p st s n = go (machine (by_names cs) cs) (conf w p st s n)

-- an exception is thrown where this handler holds
abbrev pub thrown : List Module → Spot → Option Guard → List Operand → PlainRaised → State → ℕ → End
thrown cs w None st e s n =
    follows (by_names cs) cs
    (leave (by_names cs) cs e w.code w.callers n
    (effects_of w.before (add (throw_item e.kind) s)))
thrown cs w (Some g) st e s n =
    from cs w g.target (of_way (by_raise e true) ∷ drop (length st - g.depth) st)
    (add (throw_item e.kind) s) n

-- An answer leaves something on the operands that were there, and the machine goes on at a place;
-- an exception is thrown.
abbrev pub after : {A : Type 0} → List Module → Spot → (A → List Operand → List Operand)
    → Option Guard → ℕ → List Operand → Res (Ans A) → End
after cs w leaves g end st (done (Ok a) s n) = from cs w end (leaves a st) s n
after cs w leaves g end st (done (Err e) s n) = thrown cs w g st e s n
after cs w leaves g end st (cut s) = record {
  how = spent;
  steps = 0;
  effects = effects_of w.before s;
}

-- a value on the operands that were there
abbrev pub on_top : PlainValue → List Operand → List Operand
on_top v st = of_value v ∷ st

-- a handler leads to a place or beyond, with no more operands than stand there
abbrev pub Fits : Option Guard → (end depth : ℕ) → Type 0
Fits None end depth = Unit {0}
Fits (Some g) end depth = (end ≤ g.target) × (g.depth ≤ depth)

-- a unit is of a function with its parameters, and none is of none
abbrev pub IsLike : Option Code → Option Function → Type 0
IsLike None None = Unit {0}
IsLike None (Some f) = ⊥
IsLike (Some u) None = ⊥
IsLike (Some u) (Some f) = u.params ≡ f.params

-- each function has a unit with its parameters, and each unit is one of a function
abbrev pub Matches : List Module → List LoadedModule → Type 0
Matches cs ms = (code : CodeId) → IsLike (unit_at cs code) (function_found ms code)

-- a part of the text of a unit, in the clause of an exception or in none
abbrev pub part_of : List LoadedModule → Code → CodeId → Option PlainRaised → Place
part_of ms u code handled = record {
  modules = ms;
  scope = record { number = code.module; own = u.locals };
  handled = handled;
}

-- With fewer than k steps, a frame that a call begins runs as these calls say.
pub record CallsRun (cs : List Module) (c : Calls) (k : ℕ) : Type 0 where
  pub steady : AreSteady c
  pub runs : (w : Spot) (u : Code) → unit_at cs w.code ≡ Some u → (g : Option Guard) (p : ℕ)
      → p < length u.instrs → Guards g (handler_of p u.handlers) → (st : List Operand)
      → Fits g (p + 1) (length st) → (f : CodeId) (v : Code) → unit_at cs f ≡ Some v
      → (vs : List PlainValue) (s : State) (n : ℕ) → n < k
      → follows (by_names cs) cs
      (stepping n (conf w p st s n)
      (λ m. begins (by_names cs) cs f vs (conf w p st s n).top (conf w p st s n) m))
      ≡ after cs w on_top g (p + 1) st (c f.module f.unit vs s n)

-- Where the code of an expression stands, and calls run, a machine gives its value, throws its
-- exception or is cut as it means, with the state and the steps that it leaves.
abbrev pub ExpressionsRun : Type 0
ExpressionsRun =
    (cs : List Module) (ms : List LoadedModule) → Matches cs ms → (c : Calls) (k : ℕ)
    → CallsRun cs c k → (w : Spot) (u : Code) → unit_at cs w.code ≡ Some u
    → (handled : Option PlainRaised) (e : Expr) (g : Option Guard) (p : ℕ)
    → HasAt u p (expr_code g p e) → (st : List Operand) → Fits g (p + expr_size e) (length st)
    → (s : State) (n : ℕ) → n < k
    → from cs w p st s n
    ≡ after cs w on_top g (p + expr_size e) st (eval c (part_of ms u w.code handled) e s n)
