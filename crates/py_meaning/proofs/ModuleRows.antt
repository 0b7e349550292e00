-- Runs, computed: modules.
use Rattle.std.proofs.Common.{◌≡◌, false, [], ◌∷◌, Some, None, pos, negsuc, refl}
use Rattle.std.specs.Prelude.{codes}
use Rattle.py_operator.specs.declared.operator.BinOp.TheVariants.{Floor}
use Rattle.py_operator.specs.declared.operator.CmpOp.TheVariants.{Eq}
use Rattle.py_syntax.specs.declared.expr.Comparison.TheVariants.{Op}
use Rattle.py_syntax.specs.Tree as T
use Rattle.py_syntax.specs.Tree.{Stmts}
use Rattle.py_meaning.proofs.Sources.{runs, var, num, quote, items, call, attr, line, end, printed, program, row, rows, and_module}
use Rattle.std.specs.Prelude.{map}
use Rattle.py_meaning.specs.Loading.{Files, loaded}

-- Absent module
--  1  try:
--  2      import nothere
--  3  except ImportError:
--  4      nothere = None
--  5  print(nothere)
abbrev pub absent_module_source : Stmts
absent_module_source =
    line 1 (T.try (T.suite 1 1 false (
    line 2 (T.import (record { name = codes "nothere"; bound = None } ∷ [])) (
    end))) (T.clause (Some (var "ImportError")) None (T.suite 3 3 false (
    line 4 (T.assign (items ((var "nothere") ∷ [])) T.none) (
    end))) T.no_clauses) T.no_suite T.no_suite) (
    line 5 (T.expr (call (var "print") ((var "nothere") ∷ []))) (
    end))

absent_module : row absent_module_source 100 ≡ record { out = printed ("None" ∷ []); err = []; status = 0; steps = 6; arcs = (negsuc 0, pos 1) ∷ (pos 1, pos 2) ∷ (pos 2, pos 3) ∷ (pos 3, pos 4) ∷ (pos 4, pos 5) ∷ (pos 5, negsuc 0) ∷ []; thrown = (pos 2, pos 3) ∷ [] }
unfolding runs
absent_module = refl

-- Ordinary use
-- a.py:
--  1  import calc
--  2
--  3  def test_div():
--  4      assert calc.div(6, 3) == 2
--  5
--  6  if __name__ == "__main__":
--  7      test_div()
--  8      print("ok")
-- calc.py:
--  1  def div(a, b):
--  2      if b == 0:
--  3          return None
--  4      return a // b
--  5
--  6  def unused(x):
--  7      return x
abbrev pub ordinary_use_files : Files
ordinary_use_files = and_module (codes "calc.py") (
    line 1 (T.def (codes "div") (codes "a" ∷ codes "b" ∷ []) (items []) false (T.suite 1 1 false (
    line 2 (T.if' (T.arm (T.compare (var "b") (T.link (Op Eq) (num 0) T.no_links)) (T.suite 2 2 false (
    line 3 (T.return (Some T.none)) (
    end))) T.no_arms) T.no_suite) (
    line 4 (T.return (Some (T.binary Floor (var "a") (var "b")))) (
    end))))) (
    line 6 (T.def (codes "unused") (codes "x" ∷ []) (items []) false (T.suite 6 6 false (
    line 7 (T.return (Some (var "x"))) (
    end)))) (
    end))) (
    line 1 (T.import (record { name = codes "calc"; bound = None } ∷ [])) (
    line 3 (T.def (codes "test_div") [] (items []) false (T.suite 3 3 false (
    line 4 (T.assert (T.compare (call (attr (var "calc") "div") ((num 6) ∷ (num 3) ∷ [])) (T.link (Op Eq) (num 2) T.no_links)) None) (
    end)))) (
    line 6 (T.if' (T.arm (T.compare (var "__name__") (T.link (Op Eq) (quote "__main__") T.no_links)) (T.suite 6 6 false (
    line 7 (T.expr (call (var "test_div") [])) (
    line 8 (T.expr (call (var "print") ((quote "ok") ∷ []))) (
    end)))) T.no_arms) T.no_suite) (
    end))))

ordinary_use : rows ordinary_use_files 0 200 ≡ record { out = printed ("ok" ∷ []); err = []; status = 0; steps = 14; arcs = (negsuc 2, pos 4) ∷ (negsuc 0, pos 1) ∷ (pos 1, pos 3) ∷ (pos 3, pos 6) ∷ (pos 4, negsuc 2) ∷ (pos 6, pos 7) ∷ (pos 7, pos 8) ∷ (pos 8, negsuc 0) ∷ []; thrown = [] }
unfolding runs
ordinary_use = refl

ordinary_use_inside : rows ordinary_use_files 1 200 ≡ record { out = printed ("ok" ∷ []); err = []; status = 0; steps = 14; arcs = (negsuc 0, pos 1) ∷ (negsuc 0, pos 2) ∷ (pos 1, pos 6) ∷ (pos 2, pos 4) ∷ (pos 4, negsuc 0) ∷ (pos 6, negsuc 0) ∷ []; thrown = [] }
unfolding runs
ordinary_use_inside = refl

-- A circle of modules: the script is loaded a second time
-- a.py:
--  1  x = 1
--  2  import b, sys
--  3  z = 2
--  4  print(sys.argv, __name__)
-- b.py:
--  1  import a
--  2  from a import x as y
--  3  print(a.x, y, a.__name__)
--  4  from a import z
abbrev pub modules_in_a_circle_files : Files
modules_in_a_circle_files = and_module (codes "b.py") (
    line 1 (T.import (record { name = codes "a"; bound = None } ∷ [])) (
    line 2 (T.from (codes "a") (record { name = codes "x"; bound = Some (codes "y") } ∷ [])) (
    line 3 (T.expr (call (var "print") ((attr (var "a") "x") ∷ (var "y") ∷ (attr (var "a") "__name__") ∷ []))) (
    line 4 (T.from (codes "a") (record { name = codes "z"; bound = None } ∷ [])) (
    end))))) (
    line 1 (T.assign (items ((var "x") ∷ [])) (num 1)) (
    line 2 (T.import (record { name = codes "b"; bound = None } ∷ record { name = codes "sys"; bound = None } ∷ [])) (
    line 3 (T.assign (items ((var "z") ∷ [])) (num 2)) (
    line 4 (T.expr (call (var "print") ((attr (var "sys") "argv") ∷ (var "__name__") ∷ []))) (
    end)))))

modules_in_a_circle : rows modules_in_a_circle_files 0 200 ≡ record { out = printed ("['a.py'] a" ∷ "1 1 a" ∷ "['a.py'] __main__" ∷ []); err = []; status = 0; steps = 15; arcs = (negsuc 0, pos 1) ∷ (pos 1, pos 2) ∷ (pos 2, pos 3) ∷ (pos 3, pos 4) ∷ (pos 4, negsuc 0) ∷ []; thrown = [] }
unfolding runs
modules_in_a_circle = refl

-- which modules that loads
loads_in_a_circle : map (λ m. m.name) (loaded (program modules_in_a_circle_files)) ≡ codes "__main__" ∷ codes "b" ∷ codes "a" ∷ []
unfolding runs
loads_in_a_circle = refl
