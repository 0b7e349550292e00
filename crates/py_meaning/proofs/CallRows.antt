-- Calls of functions of a module, computed: what each gives on the world after the module's body.
use Rattle.std.proofs.Common.{◌≡◌, ℕ, false, List, [], ◌∷◌, Some, None, pos, refl}
use Prim.Native.String.{String}
use Rattle.std.specs.Prelude.{codes}
use Rattle.cov_event.specs.declared.event.Event.{Event}
use Rattle.cov_event.specs.declared.event.Event.TheVariants.{Call, Line, Throw, Return}
use Rattle.py_value.specs.declared.exception.ExcKind.TheVariants.{AssertionError, TypeError}
use Rattle.py_operator.specs.declared.operator.BinOp.TheVariants.{Add}
use Rattle.py_operator.specs.declared.operator.CmpOp.TheVariants.{Eq}
use Rattle.py_value.specs.Plain.{PlainValue, none_value, int_value}
use Rattle.py_syntax.specs.declared.expr.Comparison.TheVariants.{Op}
use Rattle.py_syntax.specs.Tree as T
use Rattle.py_syntax.specs.Tree.{Expr, Stmts, StmtKind}
use Rattle.py_meaning.specs.Events.{events_in}
use Rattle.py_meaning.specs.Loading.{Program, loaded}
use Rattle.py_meaning.specs.Program.{Answer, called, meaning}
use Rattle.py_builtins.specs.Returns.{Returned, gave, raised, cut}
use Rattle.py_meaning.proofs.Sources.{runs, var, num, quote, items, attr, list, line, end, alone}

-- Three tests
--  1  n = [0]
--  2  def test_a():
--  3      n[0] = n[0] + 1
--  4      assert n[0] == 1
--  5  def test_b():
--  6      n[0] = n[0] + 1
--  7      assert n[0] == 1
--  8  def test_c():
--  9      assert n[0] == 1, "no"
abbrev first_number : Expr
first_number = T.index (var "n") (num 0)

abbrev one_more : ℕ → Stmts → Stmts
one_more l = line l (T.assign (items (first_number ∷ [])) (T.binary Add first_number (num 1)))

abbrev is_one : Expr
is_one = T.compare first_number (T.link (Op Eq) (num 1) T.no_links)

abbrev pub three_tests_source : Stmts
three_tests_source =
    line 1 (T.assign (items ((var "n") ∷ [])) (list ((num 0) ∷ []))) (
    line 2 (T.def (codes "test_a") [] (items []) false (T.suite 2 2 false (
    one_more 3 (
    line 4 (T.assert is_one None) (
    end))))) (
    line 5 (T.def (codes "test_b") [] (items []) false (T.suite 5 5 false (
    one_more 6 (
    line 7 (T.assert is_one None) (
    end))))) (
    line 8 (T.def (codes "test_c") [] (items []) false (T.suite 8 8 false (
    line 9 (T.assert is_one (Some (quote "no"))) (
    end)))) (
    end))))

abbrev three_tests : Program
three_tests = record { files = alone three_tests_source; script = codes "a.py"; name = codes "__tests__" }

-- a test, called on the world after the import of its module
abbrev tested : String → List PlainValue → ℕ → Answer
tested x vs budget =
    called (loaded three_tests) (meaning three_tests (codes "__tests__" ∷ []) [] 100).world [] (record { number = 0; name = codes x; values = vs }) budget

pub record Shown : Type 0 where
  pub returned : Returned
  pub steps : ℕ
  pub events : List Event

abbrev shown : Answer → Shown
shown a = record { returned = a.returned; steps = a.steps; events = events_in a.items }

test_a : shown (tested "test_a" [] 100) ≡ record { returned = gave none_value; steps = 3; events = Call (record { «module» = 0; unit = 1 }) ∷ Line 3 ∷ Line 4 ∷ Return ∷ [] }
unfolding runs
test_a = refl

-- the world of the import again, whatever the first test did
test_b : shown (tested "test_b" [] 100) ≡ record { returned = gave none_value; steps = 3; events = Call (record { «module» = 0; unit = 2 }) ∷ Line 6 ∷ Line 7 ∷ Return ∷ [] }
unfolding runs
test_b = refl

test_c : shown (tested "test_c" [] 100) ≡ record { returned = raised AssertionError (codes "no"); steps = 2; events = Call (record { «module» = 0; unit = 3 }) ∷ Line 9 ∷ Throw AssertionError ∷ Return ∷ [] }
unfolding runs
test_c = refl

-- with one step less
test_a_cut : shown (tested "test_a" [] 2) ≡ record { returned = cut; steps = 2; events = Call (record { «module» = 0; unit = 1 }) ∷ Line 3 ∷ [] }
unfolding runs
test_a_cut = refl

-- with a value too many, which takes no step
too_many_values : shown (tested "test_a" (none_value ∷ []) 100) ≡ record { returned = raised TypeError (codes "wrong number of arguments"); steps = 0; events = [] }
unfolding runs
too_many_values = refl

-- A cut at the step that begins a module
-- p.py:
--  1  def f():
--  2      import m
--  3      return m.x
--  4  import m
-- m.py:
--  1  x = 7
abbrev import_of_m : StmtKind
import_of_m = T.import (record { name = codes "m"; bound = None } ∷ [])

abbrev cut_import : Program
cut_import = record {
  files = (
    codes "p.py",
    (
        line 1 (T.def (codes "f") [] (items []) false (T.suite 1 1 false (
        line 2 import_of_m (
        line 3 (T.return (Some (attr (var "m") "x"))) (
        end))))) (
        line 4 import_of_m (
        end))),
  ) ∷ (
    codes "m.py",
    (
        line 1 (T.assign (items ((var "x") ∷ [])) (num 7)) (
        end)),
  ) ∷ [];
  script = codes "p.py";
  name = codes "__main__";
}

-- leaves the module not begun, so that a call on that world begins it
called_after_a_cut : (called (loaded cut_import) (meaning cut_import (codes "p.py" ∷ []) [] 3).world [] (record { number = 0; name = codes "f"; values = [] }) 100).returned ≡ gave (int_value (pos 7))
unfolding runs
called_after_a_cut = refl

-- and the script too, where its own step is missing
nothing_begun : (meaning cut_import (codes "p.py" ∷ []) [] 0).world.begun ≡ []
unfolding runs
nothing_begun = refl

-- A script whose body raised counts as not begun
abbrev raises_at_once : Program
raises_at_once = record { files = alone (line 1 (T.expr (var "a")) end); script = codes "a.py"; name = codes "__main__" }

raised_is_not_begun : (meaning raises_at_once (codes "a.py" ∷ []) [] 100).world.begun ≡ []
unfolding runs
raised_is_not_begun = refl
