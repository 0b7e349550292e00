-- Codes written down, and their runs computed.
use Rattle.std.proofs.Common.{◌≡◌, ℕ, List, [], ◌∷◌, map, pos, refl}
use Rattle.std.specs.Prelude.{codes, take}
use Rattle.std.specs.Fmt as F
use Rattle.std.specs.Str as str_
use Rattle.cov_event.specs.declared.event.CodeId.{CodeId}
use Rattle.cov_event.specs.declared.event.Event.{Event}
use Rattle.cov_event.specs.declared.event.Event.TheVariants.{Call as Called, Line, Throw, Return as Returned}
use Rattle.py_value.specs.Comparison as compare_
use Rattle.py_value.specs.declared.exception.ExcKind.TheVariants.{ZeroDivisionError}
use Rattle.py_operator.specs.declared.operator.BinOp.TheVariants.{Floor}
use Rattle.py_builtins.specs.Builtins as builtins_
use Rattle.py_builtins.specs.Outcomes.{Outcome, finished}
use Rattle.py_builtins.specs.Outcomes as outcomes
use Rattle.py_builtins.specs.Texts as texts_
use Rattle.py_builtins.specs.World as world_
use Rattle.py_code.specs.declared.instr.Instr.TheVariants.{Constant, Pop, LoadLocal, StoreLocal, LoadGlobal, StoreGlobal, Tuple, Binary}
use Rattle.py_code.specs.declared.instr.Instr.TheVariants.{Goto, IfFalse, Mark, Again, Walk, Next as NextItem, Call, Return, Function}
use Rattle.py_code.specs.declared.instr.Instr.TheVariants.{Catches, Uncaught, Leave, Ending, Returning, Settle}
use Rattle.py_code.specs.declared.unit.Constant.TheVariants.{None as NoneConstant, Int as IntConstant, Str as StrConstant}
use Rattle.py_code.specs.Programs.{Run, run, first_world}
use Rattle.py_code.specs.Programs as programs_
use Rattle.py_code.specs.Slots.{by_slots}
use Rattle.py_code.specs.Units.{Code, Module}
use Rattle.py_code.specs.Units as units_

-- what has to unfold for a run to compute
unfoldable pub runs : Unit {0}
unfolding F.digits str_.chars str_.is_utf8 builtins_.numbers_before compare_.equal_within compare_.order_within world_.value_of world_.with_name world_.without_name world_.names_at world_.with_names_at world_.is_among world_.without_number programs_.run programs_.end_of_run units_.number_from texts_.str_text texts_.repr_text texts_.text_within texts_.display_within lib.Utf8.encode
runs = tt

-- what a row shows of a run
pub record Row : Type 0 where
  pub outcome : Outcome
  pub out : List ℕ
  pub steps : ℕ
  pub events : List Event

-- the script alone, with an empty input
abbrev row : Code → List Code → ℕ → Row
row body functions budget =
    let ms : List Module = record { name = codes "__main__"; units = body ∷ functions } ∷ [] in
    let r = run (by_slots ms) ms (first_world ms []) [] budget in record { outcome = r.outcome; out = r.out; steps = r.steps; events = r.events }

abbrev unit : ℕ → CodeId
unit k = record { «module» = 0; unit = k }

abbrev handler : ℕ → ℕ → ℕ → ℕ → Rattle.py_code.specs.declared.unit.Handler.Handler
handler from to target depth = record { from = from; to = to; target = target; depth = depth }

-- First run
--  1  x = 1
--  2  if x:
--  3      print(x)
--  4  else:
--  5      print(0)
abbrev first_run_code : Code
first_run_code = record {
  name = [];
  first = 1;
  params = [];
  defaults = 0;
  locals = [];
  names = codes "x" ∷ codes "print" ∷ [];
  constants = IntConstant (pos 1) ∷ IntConstant (pos 0) ∷ NoneConstant ∷ [];
  instrs =
      Mark 0 ∷ Constant 0 ∷ StoreGlobal 0 ∷ Mark 1 ∷ LoadGlobal 0 ∷ IfFalse 12 ∷ Mark 2 ∷ LoadGlobal 1 ∷ LoadGlobal 0 ∷ Call 1 ∷ Pop ∷ Goto 17 ∷
      Mark 3 ∷ LoadGlobal 1 ∷ Constant 1 ∷ Call 1 ∷ Pop ∷ Constant 2 ∷ Return ∷ [];
  lines = 1 ∷ 2 ∷ 3 ∷ 5 ∷ [];
  handlers = [];
}

first_run : row first_run_code [] 100 ≡ record { outcome = finished; out = codes "1\n"; steps = 4; events = Called (unit 0) ∷ Line 1 ∷ Line 2 ∷ Line 3 ∷ Returned ∷ [] }
unfolding runs
first_run = refl

-- Two returns
--  1  v = 0
--  2  def f():
--  3      try:
--  4          return 1
--  5      finally:
--  6          return 2
--  7  print(f())
abbrev two_returns_body : Code
two_returns_body = record {
  name = [];
  first = 1;
  params = [];
  defaults = 0;
  locals = [];
  names = codes "v" ∷ codes "f" ∷ codes "print" ∷ [];
  constants = IntConstant (pos 0) ∷ NoneConstant ∷ [];
  instrs =
      Mark 0 ∷ Constant 0 ∷ StoreGlobal 0 ∷ Mark 1 ∷ Function 1 ∷ StoreGlobal 1 ∷ Mark 2 ∷ LoadGlobal 2 ∷ LoadGlobal 1 ∷ Call 0 ∷ Call 1 ∷ Pop ∷
      Constant 1 ∷ Return ∷ [];
  lines = 1 ∷ 2 ∷ 7 ∷ [];
  handlers = [];
}

abbrev two_returns_function : Code
two_returns_function = record {
  name = codes "f";
  first = 2;
  params = [];
  defaults = 0;
  locals = [];
  names = [];
  constants = IntConstant (pos 1) ∷ IntConstant (pos 2) ∷ NoneConstant ∷ [];
  instrs =
      Mark 0 ∷ Mark 1 ∷ Constant 0 ∷ Returning 0 5 ∷ Ending ∷ Mark 2 ∷ Constant 1 ∷ Return ∷ Settle ∷ Goto 12 ∷ Goto 12 ∷ Return ∷
      Constant 2 ∷ Return ∷ [];
  lines = 3 ∷ 4 ∷ 6 ∷ [];
  handlers = handler 1 4 5 0 ∷ [];
}

abbrev two_returns_events : List Event
two_returns_events =
    Called (unit 0) ∷ Line 1 ∷ Line 2 ∷ Line 7 ∷ Called (unit 1) ∷ Line 3 ∷ Line 4 ∷ Line 6 ∷ Returned ∷ Returned ∷ []

two_returns : row two_returns_body (two_returns_function ∷ []) 100 ≡ record { outcome = finished; out = codes "2\n"; steps = 8; events = two_returns_events }
unfolding runs
two_returns = refl

-- Every smaller budget: the run is cut, and its events are the first ones
abbrev cut_events : ℕ → Outcome × List Event
cut_events budget = let r = row two_returns_body (two_returns_function ∷ []) budget in (r.outcome, r.events)

smaller_budgets : map cut_events (0 ∷ 1 ∷ 2 ∷ 3 ∷ 4 ∷ 5 ∷ 6 ∷ 7 ∷ []) ≡ map (λ n. (outcomes.cut, take n two_returns_events)) (0 ∷ 1 ∷ 2 ∷ 3 ∷ 4 ∷ 5 ∷ 6 ∷ 7 ∷ [])
unfolding runs
smaller_budgets = refl

-- Two `try` in a loop
--  1  n = 0
--  2  def f():
--  3      for k in (0, 1):
--  4          try:
--  5              try:
--  6                  n // k
--  7              finally:
--  8                  print("f", k)
--  9          except ZeroDivisionError:
-- 10              continue
-- 11          else:
-- 12              return k
-- 13  print(f())
abbrev two_tries_body : Code
two_tries_body = record {
  name = [];
  first = 1;
  params = [];
  defaults = 0;
  locals = [];
  names = codes "n" ∷ codes "f" ∷ codes "print" ∷ [];
  constants = IntConstant (pos 0) ∷ NoneConstant ∷ [];
  instrs =
      Mark 0 ∷ Constant 0 ∷ StoreGlobal 0 ∷ Mark 1 ∷ Function 1 ∷ StoreGlobal 1 ∷ Mark 2 ∷ LoadGlobal 2 ∷ LoadGlobal 1 ∷ Call 0 ∷ Call 1 ∷ Pop ∷
      Constant 1 ∷ Return ∷ [];
  lines = 1 ∷ 2 ∷ 13 ∷ [];
  handlers = [];
}

abbrev two_tries_function : Code
two_tries_function = record {
  name = codes "f";
  first = 2;
  params = [];
  defaults = 0;
  locals = codes "k" ∷ [];
  names = codes "n" ∷ codes "print" ∷ codes "ZeroDivisionError" ∷ [];
  constants = IntConstant (pos 0) ∷ IntConstant (pos 1) ∷ StrConstant (codes "f") ∷ NoneConstant ∷ [];
  instrs =
      Mark 0 ∷ Constant 0 ∷ Constant 1 ∷ Tuple 2 ∷ Walk ∷ Goto 7 ∷ Again 0 ∷ NextItem 40 ∷ StoreLocal 0 ∷ Mark 1 ∷
      Mark 2 ∷ Mark 3 ∷ LoadGlobal 0 ∷ LoadLocal 0 ∷ Binary Floor ∷ Pop ∷ Ending ∷ Mark 4 ∷ LoadGlobal 1 ∷ Constant 2 ∷
      LoadLocal 0 ∷ Call 2 ∷ Pop ∷ Settle ∷ Leave 1 40 ∷ Goto 39 ∷ Return ∷ Mark 7 ∷ LoadLocal 0 ∷ Return ∷
      Goto 39 ∷ Mark 5 ∷ LoadGlobal 2 ∷ Catches ∷ IfFalse 38 ∷ Mark 6 ∷ Leave 1 39 ∷ Leave 1 39 ∷ Uncaught ∷ Goto 6 ∷
      Constant 3 ∷ Return ∷ [];
  lines = 3 ∷ 4 ∷ 5 ∷ 6 ∷ 8 ∷ 9 ∷ 10 ∷ 12 ∷ [];
  handlers = handler 10 16 17 1 ∷ handler 9 27 31 1 ∷ [];
}

two_tries : row two_tries_body (two_tries_function ∷ []) 100 ≡ record {
  outcome = finished;
  out = codes "f 0\nf 1\n1\n";
  steps = 18;
  events =
      Called (unit 0) ∷ Line 1 ∷ Line 2 ∷ Line 13 ∷ Called (unit 1) ∷ Line 3 ∷ Line 4 ∷ Line 5 ∷ Line 6 ∷ Throw ZeroDivisionError ∷ Line 8 ∷
      Throw ZeroDivisionError ∷ Line 9 ∷ Line 10 ∷ Line 3 ∷ Line 4 ∷ Line 5 ∷ Line 6 ∷ Line 8 ∷ Line 12 ∷ Returned ∷ Returned ∷ [];
}
unfolding runs
two_tries = refl
