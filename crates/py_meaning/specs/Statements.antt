-- What a statement does (Python Language Reference, "Simple statements", "Compound statements").
--     Out, using, next             how statements are left
--     Loop, turns, loop            loops
--     raise_value, handle          exceptions, clauses and `finally`
--     on_match, guarded            cases
--     default_list, function_at    functions
--     exec, exec_kind              statements
use Rattle.std.specs.Prelude.{ℕ, zero, suc, Bool, true, false, if◌then◌else◌, Option, Some, None, Ok, Err}
use Rattle.py_value.specs.declared.cause.Cause.TheVariants.{NotException}
use Rattle.py_value.specs.declared.exception.ExcKind.TheVariants.{AssertionError}
use Rattle.py_value.specs.declared.value.FuncId.{FuncId}
use Rattle.py_value.specs.Causes.{raised_by}
use Rattle.py_value.specs.Plain.{PlainValue, none_value, func_value, kind_value, exc_value, no_argument, PlainRaised}
use Rattle.py_syntax.specs.Functions.{functions}
use Rattle.py_syntax.specs.Tree.{Text, Expr, Exprs, no_exprs, Stmts, no_stmts, stmt, suite, OptSuite, no_suite, has_suite, Arms, no_arms, arm, Clauses, no_clauses, clause, Cases, no_cases, case, StmtKind, expr, assign, aug_assign, pass, break, continue, return, raise, assert, global, import, from, if', while, for, try, def, match}
use Rattle.py_builtins.specs.Methods.{new_list}
use Rattle.py_builtins.specs.World.{Names}
use Rattle.py_meaning.specs.Activations.{Item, mark, again, throw}
use Rattle.py_meaning.specs.Assignments.{assign_to, assign_all, augment}
use Rattle.py_meaning.specs.Calls.{Calls}
use Rattle.py_builtins.specs.Catching.{catches, assertion_error}
use Rattle.py_meaning.specs.Computations.{Setting, Ans, M, give, chain, step, note, write, within, stop, value, ask, work, branch}
use Rattle.py_meaning.specs.Expressions.{gives, eval, eval_each}
use Rattle.py_meaning.specs.Imports.{module_of, import_each, take_each}
use Rattle.py_builtins.specs.Items.{walk_length, item_of}
use Rattle.py_meaning.specs.Modules.{unit_at, body_of}
use Rattle.py_meaning.specs.Patterns.{Match, matched, bind_all}
use Rattle.py_meaning.specs.Places.{Scope, Place, bound, unbound}
use Rattle.py_builtins.specs.Parameters.{address_of}

-- how a statement is left; an exception with whether it was thrown there, and not raised by its own
-- `raise`
pub data Out : Type 0 where
  normal : Out
  breaks : Out
  continues : Out
  returns : PlainValue → Out
  raises : (e : PlainRaised) (is_thrown : Bool) → Out

-- an exception is thrown here
abbrev pub throwing : PlainRaised → M Out
throwing e = note (throw e.kind) (give (raises e true))

-- goes on with the value; an exception is thrown
abbrev pub on_answer : {A : Type 0} → Ans A → (A → M Out) → M Out
on_answer (Ok a) f = f a
on_answer (Err e) f = throwing e

-- goes on with the value of a computation; an exception is thrown
unfoldable pub using : {A : Type 0} → M (Ans A) → (A → M Out) → M Out
using m f = chain m (λ a. on_answer a f)

-- nothing more is done with the answer
abbrev pub simply : {A : Type 0} → M (Ans A) → M Out
simply m = using m (λ a. give normal)

-- goes on after a statement that ended normally
abbrev pub next : Out → M Out → M Out
next normal m = m
next breaks m = give breaks
next continues m = give continues
next (returns v) m = give (returns v)
next (raises e t) m = give (raises e t)

-- ---- loops (8.2, 8.3)

-- what the suite of a loop leaves to the loop
abbrev pub looped : Out → M Out → M Out
looped normal m = m
looped breaks m = give normal
looped continues m = m
looped (returns v) m = give (returns v)
looped (raises e t) m = give (raises e t)

-- A loop: its line, what its header answers, what a turn does, and the `else`. In front of each
-- turn the header answers which turn comes after the one before, or first; where none comes, the
-- `else` does.
pub record Loop (T : Type 0) : Type 0 where
  pub line : ℕ
  pub header : Option T → M (Ans (Option T))
  pub turn : T → M Out
  pub orelse : M Out

-- a turn, where there is one, and else the `else`
abbrev pub if_turn : {T : Type 0} → Option T → M Out → (T → M Out) → M Out
if_turn None orelse f = orelse
if_turn (Some t) orelse f = f t

-- the turn after another one, where the header marks the item, and what follows it
abbrev pub one_turn : {T : Type 0} → Loop T → Item → Option T → (T → M Out) → M Out
one_turn l i before rest =
    step i
    (using (l.header before) (λ found.
    if_turn found l.orelse (λ t. chain (l.turn t) (λ o. looped o (rest t)))))

-- at most the given number of turns; in front of each further one the header marks its line again
unfoldable pub turns : {T : Type 0} → Loop T → ℕ → Item → Option T → M Out
turns l zero i before = stop
turns l (suc k) i before = one_turn l i before (λ t. turns l k (again l.line) (Some t))

-- as many turns as there are steps, since each takes one
unfoldable pub loop : {T : Type 0} → Loop T → Item → Option T → M Out
loop l i before = within (λ n. turns l n i before)

-- what a `while` asks: its test
abbrev pub while_header : M (Ans PlainValue) → M (Ans (Option (Unit {0})))
while_header test = value test (λ v. branch v (gives (Some tt)) (gives None))

-- a `while` on a line, of what its test, its suite and its `else` do
abbrev pub while_loop : ℕ → M (Ans PlainValue) → M Out → M Out → Loop (Unit {0})
while_loop l test body orelse = record {
  line = l;
  header = λ before. while_header test;
  turn = λ t. body;
  orelse = orelse;
}

-- how far a `for` has come: the value that it walks, its number of items at the start, the place of
-- the next item, and this turn's
pub record Walked : Type 0 where
  pub value : PlainValue
  pub length : ℕ
  pub place : ℕ
  pub item : PlainValue

-- a turn of a `for`, where the value has an item there
abbrev pub walked : PlainValue → ℕ → ℕ → Option PlainValue → Option Walked
walked v n i None = None
walked v n i (Some x) = Some (record { value = v; length = n; place = suc i; item = x })

-- the turn with an item
abbrev pub at_item : PlainValue → ℕ → ℕ → M (Ans (Option Walked))
at_item v n i = value (ask (λ w. item_of v n i w.world.heap)) (λ x. gives (walked v n i x))

-- what a `for` asks: at first for the value, and then for the next item
abbrev pub for_header : M (Ans PlainValue) → Option Walked → M (Ans (Option Walked))
for_header over None =
    value over (λ v. value (ask (λ w. walk_length v w.world.heap)) (λ n. at_item v n 0))
for_header over (Some t) = at_item t.value t.length t.place

-- a `for` on a line, of what its value, the binding of an item, its suite and its `else` do
abbrev pub for_loop : ℕ → M (Ans PlainValue) → (PlainValue → M (Ans (Unit {0}))) → M Out → M Out
    → Loop Walked
for_loop l over bind_item body orelse = record {
  line = l;
  header = for_header over;
  turn = λ t. using (bind_item t.item) (λ u. body);
  orelse = orelse;
}

-- ---- exceptions (7.3, 7.8, 8.4)

-- an exception is raised by itself, and a kind without an argument
abbrev pub raise_value : PlainValue → M Out
raise_value (exc_value kind arg) = give (raises (record { kind = kind; arg = arg }) false)
raise_value (kind_value kind) = give (raises (record { kind = kind; arg = no_argument }) false)
raise_value v = throwing (raised_by NotException)

-- a bare `raise`, which stands in a clause
abbrev pub reraise : Option PlainRaised → M Out
reraise (Some e) = give (raises e false)
reraise None = throwing (raised_by NotException)

-- the failure of an `assert`, with its value where there is one
abbrev pub failed_assertion : Calls → Place → Option Expr → M Out
failed_assertion c p None = throwing (record { kind = AssertionError; arg = no_argument })
failed_assertion c p (Some e) = using (value (eval c p e) (λ v. give (assertion_error v))) throwing

-- whether there is a clause
abbrev pub has_clauses : Clauses → Bool
has_clauses no_clauses = false
has_clauses (clause kind x body rest) = true

-- how the body of a `try` is left, where it has clauses and an `else`
abbrev pub handle : Bool → Out → (PlainRaised → M Out) → M Out → M Out
handle has normal clauses orelse = orelse
handle has breaks clauses orelse = give breaks
handle has continues clauses orelse = give continues
handle has (returns v) clauses orelse = give (returns v)
handle true (raises e t) clauses orelse = clauses e
handle false (raises e t) clauses orelse = give (raises e t)

-- the outcome of `finally`, and the pending one: an exception that was thrown is thrown once more
abbrev pub settle : Out → Out → M Out
settle normal (raises e true) = throwing e
settle normal pending = give pending
settle o pending = give o

-- the name of a clause bound to the exception, and unset again
abbrev pub bound_to : Scope → Option Text → PlainRaised → Setting → Setting
bound_to p None e w = w
bound_to p (Some x) e w = bound p x (exc_value e.kind e.arg) w

-- the name of a clause is unset, where it has one
abbrev pub released : Scope → Option Text → Setting → Setting
released p None w = w
released p (Some x) w = unbound p x w

-- whether a clause catches an exception; one without an expression catches each
abbrev pub caught_by : Calls → Place → Option Expr → PlainRaised → M (Ans Bool)
caught_by c p None e = gives true
caught_by c p (Some k) e = value (eval c p k) (λ v. give (catches v e.kind))

-- the suite of a clause, with its name bound to the exception; the name is unset in every way out
abbrev pub handled : Scope → Option Text → PlainRaised → M Out → M Out
handled p x e body = write (bound_to p x e) (chain body (λ o. write (released p x) (give o)))

-- the place in a clause that handles an exception
abbrev pub in_clause : Place → PlainRaised → Place
in_clause p e = record p { handled = Some e }

-- ---- `match` (8.6)

-- what follows a match, or else what follows none
abbrev pub on_match : Match → (Names → M Out) → M Out → M Out
on_match None f m = m
on_match (Some names) f m = f names

-- the guard of a case
abbrev pub guarded : Calls → Place → Option Expr → M Out → M Out → M Out
guarded c p None body rest = body
guarded c p (Some e) body rest = using (eval c p e) (λ v. branch v body rest)

-- ---- functions (8.7)

-- the address of the defaults, which stand in a new list, where there are any
abbrev pub default_list : Calls → Place → Exprs → M (Ans (Option ℕ))
default_list c p no_exprs = gives None
default_list c p es =
    value (eval_each c p es) (λ vs. value (work (new_list vs)) (λ d. gives (address_of d)))

-- the function whose `def` begins at a line
abbrev pub function_at : Place → ℕ → FuncId
function_at p l = record {
  «module» = p.scope.number;
  unit = unit_at l (functions (body_of p.modules p.scope.number));
}

-- ---- statements

-- `return`
abbrev pub returned : Calls → Place → Option Expr → M Out
returned c p None = give (returns none_value)
returned c p (Some e) = using (eval c p e) (λ v. give (returns v))

-- `raise`
abbrev pub raised : Calls → Place → Option Expr → M Out
raised c p None = reraise p.handled
raised c p (Some e) = using (eval c p e) raise_value

unfoldable mutual
  -- statements in a row
  pub exec : Calls → Place → Stmts → M Out
  exec c p no_stmts = give normal
  exec c p (stmt first last kind end rest) =
      chain (exec_kind c p first kind) (λ o. next o (exec c p rest))

  -- a statement with this first line
  pub exec_kind : Calls → Place → ℕ → StmtKind → M Out
  exec_kind c p l (expr e) = step (mark l) (simply (eval c p e))
  exec_kind c p l (assign targets e) =
      step (mark l) (simply (value (eval c p e) (λ v. assign_all c p targets v)))
  exec_kind c p l (aug_assign place op e) = step (mark l) (simply (augment c p place op e))
  exec_kind c p l pass = step (mark l) (give normal)
  exec_kind c p l break = step (mark l) (give breaks)
  exec_kind c p l continue = step (mark l) (give continues)
  exec_kind c p l (return e) = step (mark l) (returned c p e)
  exec_kind c p l (raise e) = step (mark l) (raised c p e)
  exec_kind c p l (assert test why) =
      step (mark l) (using (eval c p test) (λ v. branch v (give normal) (failed_assertion c p why)))
  exec_kind c p l (global xs) = give normal
  exec_kind c p l (import names) = step (mark l) (simply (import_each c p names))
  exec_kind c p l (from m names) =
      step (mark l) (simply (value (module_of c p.modules m) (λ v. take_each p m v names)))
  exec_kind c p l (if' arms orelse) = exec_arms c p arms (exec_opt c p orelse)
  exec_kind c p l (while test (suite first last inline body) orelse) =
      loop (while_loop l (eval c p test) (exec c p body) (exec_opt c p orelse)) (mark l) None
  exec_kind c p l (for target over (suite first last inline body) orelse) =
      loop (for_loop l (eval c p over) (assign_to c p target) (exec c p body) (exec_opt c p orelse))
      (mark l) None
  exec_kind c p l (try (suite first last inline body) clauses orelse finally) =
      step (mark l)
      (chain
      (chain (exec c p body) (λ o.
      handle (has_clauses clauses) o (exec_clauses c p clauses) (exec_opt c p orelse))) (λ o.
      exec_finally c p finally o))
  exec_kind c p l (def x params defaults comma body) =
      step (mark l)
      (using (default_list c p defaults) (λ a.
      write (bound p.scope x (func_value (function_at p l) a)) (give normal)))
  exec_kind c p l (match subject header cases) =
      step (mark l) (using (eval c p subject) (λ v. exec_cases c p cases v))

  -- an `else`
  pub exec_opt : Calls → Place → OptSuite → M Out
  exec_opt c p no_suite = give normal
  exec_opt c p (has_suite (suite first last inline body)) = exec c p body

  -- each test marks its line (8.1)
  pub exec_arms : Calls → Place → Arms → M Out → M Out
  exec_arms c p no_arms orelse = orelse
  exec_arms c p (arm test (suite first last inline body) rest) orelse =
      step (mark first)
      (using (eval c p test) (λ v. branch v (exec c p body) (exec_arms c p rest orelse)))

  -- each clause that is tried marks its line
  pub exec_clauses : Calls → Place → Clauses → PlainRaised → M Out
  exec_clauses c p no_clauses e = throwing e
  exec_clauses c p (clause kind x (suite first last inline body) rest) e =
      step (mark first) (using (caught_by c p kind e) (λ yes.
      if yes then handled p.scope x e (exec c (in_clause p e) body) else exec_clauses c p rest e))

  -- a pending outcome goes through `finally`
  pub exec_finally : Calls → Place → OptSuite → Out → M Out
  exec_finally c p no_suite pending = give pending
  exec_finally c p (has_suite (suite first last inline body)) pending =
      chain (exec c p body) (λ o. settle o pending)

  -- Each case that is tried marks its line. Its names are bound before its guard is evaluated.
  pub exec_cases : Calls → Place → Cases → PlainValue → M Out
  exec_cases c p no_cases v = give normal
  exec_cases c p (case q guard (suite first last inline body) rest) v =
      step (mark first)
      (using (ask (λ w. matched p.scope w q v)) (λ found.
      on_match found
      (λ names.
      write (bind_all p.scope names)
      (guarded c p guard (exec c p body) (exec_cases c p rest v)))
      (exec_cases c p rest v)))
