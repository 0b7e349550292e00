-- Scripts written down in code, and what hooks of them answer.
use Rattle.std.proofs.Common.{◌≡◌, ℕ, zero, suc, Bool, true, false, List, [], ◌∷◌, Option, Some, None, is_some, pos, refl}
use Rattle.std.specs.Prelude.{codes}
use Rattle.std.specs.Fmt as F
use Rattle.std.specs.Str as str_
use Rattle.py_value.specs.Comparison as compare_
use Rattle.py_operator.specs.declared.operator.BinOp.TheVariants.{Add}
use Rattle.py_builtins.specs.Builtins as builtins_
use Rattle.py_builtins.specs.Texts as texts_
use Rattle.py_builtins.specs.World as world_
use Rattle.py_builtins.specs.World.{World}
use Rattle.py_code.specs.declared.instr.Instr.{Instr}
use Rattle.py_code.specs.declared.instr.Instr.TheVariants.{Constant, Pop, LoadLocal, LoadGlobal, StoreGlobal, Binary, Compare, IfFalse, Goto, Mark, Again, Call, Return, Function, Raise}
use Rattle.py_code.specs.declared.instr.Question.TheVariants.{Eq}
use Rattle.py_code.specs.declared.unit.Constant.{Constant as UnitConstant}
use Rattle.py_code.specs.declared.unit.Constant.TheVariants.{None as NoneConstant, Int as IntConstant, Str as StrConstant}
use Rattle.py_code.specs.Programs as programs_
use Rattle.py_code.specs.Units.{Code, Module}
use Rattle.py_code.specs.Units as units_
use Rattle.cov_hook.specs.Functions.{function_names}
use Rattle.cov_hook.specs.States.{HookState, opened}
use Rattle.cov_hook.specs.Questions.{asking, label_of, world_after_call}

-- what has to unfold for a run or a call to compute
unfoldable runs : Unit {0}
unfolding F.digits str_.chars str_.is_utf8 builtins_.numbers_before compare_.equal_within compare_.order_within world_.value_of world_.with_name world_.without_name world_.names_at world_.with_names_at world_.is_among world_.without_number programs_.run programs_.end_of_run programs_.called programs_.end_of_call units_.number_from texts_.str_text texts_.repr_text texts_.text_within texts_.display_within lib.Utf8.encode
runs = tt

-- the answers to so many questions for a call of `test_a` of `__main__`, and whether the hook is on
-- after each
abbrev answers : HookState → ℕ → Option World → List (Option (List ℕ) × Bool)
answers h zero world = []
answers h (suc n) None = (None, false) ∷ answers h n None
answers h (suc n) (Some w) =
    let reply = asking h.modules h.function (codes "__main__") (codes "test_a") w in
    let after = world_after_call reply.returned reply.world in
    (label_of reply.returned, is_some after) ∷ answers h n after

-- of a hook that was opened
abbrev asked : List Module → ℕ → List (Option (List ℕ) × Bool)
asked ms n = let h = opened ms (codes "hk.py") (codes "label") in answers h n h.world

-- a unit without local names but its parameters
abbrev unit_of : List ℕ → List (List ℕ) → List (List ℕ) → List UnitConstant → List Instr → List ℕ → Code
unit_of name params names constants instrs lines = record {
  name = name;
  first = 1;
  params = params;
  defaults = 0;
  locals = params;
  names = names;
  constants = constants;
  instrs = instrs;
  lines = lines;
  handlers = [];
}

-- the script alone
abbrev script_of : Code → Code → List Module
script_of body function = record { name = codes "__main__"; units = body ∷ function ∷ [] } ∷ []

-- sets `n` to 0 and defines the function
abbrev body : Code
body =
    unit_of [] [] (codes "n" ∷ codes "label" ∷ []) (IntConstant (pos 0) ∷ NoneConstant ∷ [])
    (Mark 0 ∷ Constant 0 ∷ StoreGlobal 0 ∷ Mark 1 ∷ Function 1 ∷ StoreGlobal 1 ∷ Constant 1 ∷ Return ∷ []) (1 ∷ 2 ∷ [])

-- Hook and plugin
--  1  n = 0
--  2  def label(m, f):
--  3      global n
--  4      n = n + 1
--  5      print(n)
--  6      if n == 3:
--  7          raise ValueError
--  8      return "h" + str(n)
abbrev counting : Code
counting =
    unit_of (codes "label") (codes "m" ∷ codes "f" ∷ []) (codes "n" ∷ codes "print" ∷ codes "ValueError" ∷ codes "str" ∷ [])
    (IntConstant (pos 1) ∷ IntConstant (pos 3) ∷ StrConstant (codes "h") ∷ [])
    (Mark 0 ∷ LoadGlobal 0 ∷ Constant 0 ∷ Binary Add ∷ StoreGlobal 0 ∷ Mark 1 ∷ LoadGlobal 1 ∷ LoadGlobal 0 ∷ Call 1 ∷ Pop ∷
    Mark 2 ∷ LoadGlobal 0 ∷ Constant 1 ∷ Compare Eq ∷ IfFalse 18 ∷ Mark 3 ∷ LoadGlobal 2 ∷ Raise ∷
    Mark 4 ∷ Constant 2 ∷ LoadGlobal 3 ∷ LoadGlobal 0 ∷ Call 1 ∷ Binary Add ∷ Return ∷ [])
    (4 ∷ 5 ∷ 6 ∷ 7 ∷ 8 ∷ [])

function : function_names (script_of body counting) ≡ codes "label" ∷ []
function = refl

-- off once the call raised
counted : asked (script_of body counting) 4
    ≡ (Some (codes "h1"), true) ∷ (Some (codes "h2"), true) ∷ (None, false) ∷ (None, false) ∷ []
unfolding runs
counted = refl

-- No text at first
--  4      n = n + 1
--  5      if n == 1:
--  6          return n
--  7      return m + "." + f
abbrev naming : Code
naming =
    unit_of (codes "label") (codes "m" ∷ codes "f" ∷ []) (codes "n" ∷ []) (IntConstant (pos 1) ∷ StrConstant (codes ".") ∷ [])
    (Mark 0 ∷ LoadGlobal 0 ∷ Constant 0 ∷ Binary Add ∷ StoreGlobal 0 ∷ Mark 1 ∷ LoadGlobal 0 ∷ Constant 0 ∷ Compare Eq ∷ IfFalse 13 ∷
    Mark 2 ∷ LoadGlobal 0 ∷ Return ∷
    Mark 3 ∷ LoadLocal 0 ∷ Constant 1 ∷ Binary Add ∷ LoadLocal 1 ∷ Binary Add ∷ Return ∷ [])
    (4 ∷ 5 ∷ 6 ∷ 7 ∷ [])

-- goes on after a number
named : asked (script_of body naming) 2 ≡ (None, true) ∷ (Some (codes "__main__.test_a"), true) ∷ []
unfolding runs
named = refl

-- A script that raises
--  1  raise ValueError
--  2  def label(m, f):
abbrev raising : Code
raising = unit_of [] [] (codes "ValueError" ∷ []) [] (Mark 0 ∷ LoadGlobal 0 ∷ Raise ∷ []) (1 ∷ [])

-- off from the start
never : asked (script_of raising naming) 1 ≡ (None, false) ∷ []
unfolding runs
never = refl

-- A function that never ends
--  3      while True:
--  4          pass
abbrev endless : Code
endless =
    unit_of (codes "label") (codes "m" ∷ codes "f" ∷ []) [] [] (Again 0 ∷ Mark 1 ∷ Goto 0 ∷ []) (3 ∷ 4 ∷ [])

-- off once a call was cut
ended : asked (script_of body endless) 1 ≡ (None, false) ∷ []
unfolding runs
ended = refl
