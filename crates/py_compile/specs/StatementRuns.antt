-- What a machine does with the code of statements, beside what they mean.
--     ends_with, raised, leaves, returns     what follows a way out
--     after_out                              all of them
--     FitsWays                               ways that lead ahead
--     StatementsRun                          the law of statements
use Rattle.std.specs.Prelude.{◌≡◌, ℕ, ◌+◌, ◌-◌, ◌<◌, ◌≤◌, Bool, true, false, List, ◌∷◌, length, drop, Option, Some, None, slice_get}
use Rattle.py_value.specs.Plain.{PlainValue, none_value, PlainRaised}
use Rattle.py_syntax.specs.Functions.{functions}
use Rattle.py_syntax.specs.Tree.{Text, Stmts}
use Rattle.py_meaning.specs.Calls.{Calls}
use Rattle.py_meaning.specs.Computations.{State, Res, done, cut}
use Rattle.py_meaning.specs.Modules.{LoadedModule, body_of, imported_number}
use Rattle.py_meaning.specs.Statements.{Out, normal, breaks, continues, returns as returned, raises, exec}
use Rattle.py_code.specs.Configurations.{Way, by_break, by_continue, by_return, by_raise, Operand, of_way, spent, End}
use Rattle.py_code.specs.Machine.{leave, give, follows}
use Rattle.py_code.specs.Operands.{exception_in}
use Rattle.py_code.specs.Slots.{by_names}
use Rattle.py_code.specs.Units.{Code, Module, unit_at, imported_number as numbered}
use Rattle.py_compile_expr.specs.Cells.{Guard}
use Rattle.py_compile_expr.specs.Runs.{Spot, effects_of, from as going, Fits, Matches, part_of, CallsRun}
use Rattle.py_compile_expr.specs.Stands.{HasAt}
use Rattle.py_compile.specs.Proper.{AreProper}
use Rattle.py_compile.specs.Statements.{stmts_size, stmts_code}
use Rattle.py_compile.specs.Ways.{Route, out, straight, through, Ways, in_hand}

-- the frame ends with a value
abbrev pub ends_with : List Module → Spot → PlainValue → State → ℕ → End
ends_with cs w v s n =
    follows (by_names cs) cs (give (by_names cs) cs v w.callers n (effects_of w.before s))

-- an exception arrives where this handler holds, with whether it was thrown in the frame
abbrev pub raised : List Module → Spot → Option Guard → List Operand → PlainRaised → Bool → State
    → ℕ → End
raised cs w None st e t s n =
    follows (by_names cs) cs (leave (by_names cs) cs e w.code w.callers n (effects_of w.before s))
raised cs w (Some g) st e t s n =
    going cs w g.target (of_way (by_raise e t) ∷ drop (length st - g.depth) st) s n

-- a way out is taken
abbrev pub leaves : List Module → Spot → Route → Way → List Operand → State → ℕ → End
leaves cs w out way st s n = ends_with cs w none_value s n
leaves cs w (straight drops to) way st s n = going cs w to (drop drops st) s n
leaves cs w (through drops to) way st s n = going cs w to (of_way way ∷ drop drops st) s n

-- a value is returned by a way out
abbrev pub returns : List Module → Spot → Route → PlainValue → List Operand → State → ℕ → End
returns cs w out v st s n = ends_with cs w v s n
returns cs w (straight drops to) v st s n = ends_with cs w v s n
returns cs w (through drops to) v st s n = going cs w to (of_way (by_return v) ∷ drop drops st) s n

-- what follows statements that end at a place, on the operands that stood below them
abbrev pub after_out : List Module → Spot → Ways → ℕ → List Operand → Res Out → End
after_out cs w v end st (done normal s n) = going cs w end st s n
after_out cs w v end st (done breaks s n) = leaves cs w v.on_break by_break st s n
after_out cs w v end st (done continues s n) = leaves cs w v.on_continue by_continue st s n
after_out cs w v end st (done (returned x) s n) = returns cs w v.on_return x st s n
after_out cs w v end st (done (raises e t) s n) = raised cs w v.guard st e t s n
after_out cs w v end st (cut s) = record { how = spent; steps = 0; effects = effects_of w.before s }

-- it leads to a place or beyond, with no more operands taken away than stand there; one that is
-- needed leads somewhere
abbrev pub RouteFits : (needed : Bool) → Route → (end depth : ℕ) → Type 0
RouteFits true out end depth = ⊥
RouteFits false out end depth = Unit {0}
RouteFits b (straight drops to) end depth = (end ≤ to) × (drops ≤ depth)
RouteFits b (through drops to) end depth = (end ≤ to) × (drops ≤ depth)

-- the exception that is handled stands above so many operands
abbrev pub HandledFits : Option ℕ → Option PlainRaised → List Operand → Type 0
HandledFits None None st = Unit {0}
HandledFits None (Some e) st = ⊥
HandledFits (Some below) None st = ⊥
HandledFits (Some below) (Some e) st =
    (below < length st) × (x : Operand) × (slice_get st (length st - below - 1) ≡ Some x)
    × (exception_in x ≡ e)

-- ways out that fit the operands and the end of the statements
pub record FitsWays (v : Ways) (now : Option PlainRaised) (end : ℕ) (st : List Operand) :
    Type 0 where
  pub on_break : RouteFits true v.on_break end (length st)
  pub on_continue : RouteFits true v.on_continue end (length st)
  pub on_return : RouteFits false v.on_return end (length st)
  pub guard : Fits v.guard end (length st)
  pub depth : v.depth ≡ length st
  pub handled : HandledFits v.handled now st

-- imports find the modules of the text
abbrev pub NamesMatch : List Module → List LoadedModule → Type 0
NamesMatch cs ms = (x : Text) → numbered cs x ≡ imported_number ms x

-- Where the code of statements stands, and calls run, a machine goes on as they mean: in each way
-- out, with the state and the steps that they leave.
abbrev pub StatementsRun : Type 0
StatementsRun =
    (cs : List Module) (ms : List LoadedModule) → Matches cs ms → NamesMatch cs ms
    → (c : Calls) (k : ℕ) → CallsRun cs c k → (w : Spot) (u : Code) → unit_at cs w.code ≡ Some u
    → (handled : Option PlainRaised) (ss : Stmts) → AreProper ss → (v : Ways) (p : ℕ)
    → HasAt u p (stmts_code (functions (body_of ms w.code.module)) v p ss) → (st : List Operand)
    → FitsWays v handled (p + stmts_size (in_hand v) ss) st → (s : State) (n : ℕ) → n < k
    → going cs w p st s n
    ≡ after_out cs w v (p + stmts_size (in_hand v) ss) st
    (exec c (part_of ms u w.code handled) ss s n)
