-- Runs, computed: loops over lists, and what leaves them.
use Rattle.std.proofs.Common.{◌≡◌, false, [], ◌∷◌, Some, None, pos, negsuc, refl}
use Rattle.std.specs.Prelude.{codes}
use Rattle.py_operator.specs.declared.operator.BinOp.TheVariants.{Add, Floor}
use Rattle.py_operator.specs.declared.operator.CmpOp.TheVariants.{Eq}
use Rattle.py_syntax.specs.declared.expr.Comparison.TheVariants.{Op}
use Rattle.py_syntax.specs.Tree as T
use Rattle.py_syntax.specs.Tree.{Stmts}
use Rattle.py_meaning.proofs.Sources.{runs, var, num, quote, items, call, attr, list, line, end, printed, row, rows, and_module}
use Rattle.py_meaning.specs.Loading.{Files}

-- Loop else
--  1  for k in range(3):
--  2      for j in range(2):
--  3          if j == k:
--  4              break
--  5      else:
--  6          print(k)
--  7  print(9)
abbrev pub loop_else_source : Stmts
loop_else_source =
    line 1 (T.for (var "k") (call (var "range") ((num 3) ∷ [])) (T.suite 1 1 false (
    line 2 (T.for (var "j") (call (var "range") ((num 2) ∷ [])) (T.suite 2 2 false (
    line 3 (T.if' (T.arm (T.compare (var "j") (T.link (Op Eq) (var "k") T.no_links)) (T.suite 3 3 false (
    line 4 T.break (
    end))) T.no_arms) T.no_suite) (
    end))) (T.has_suite (T.suite 5 5 false (
    line 6 (T.expr (call (var "print") ((var "k") ∷ []))) (
    end))))) (
    end))) T.no_suite) (
    line 7 (T.expr (call (var "print") ((num 9) ∷ []))) (
    end))

loop_else : row loop_else_source 100 ≡ record { out = printed ("2" ∷ "9" ∷ []); err = []; status = 0; steps = 20; arcs = (negsuc 0, pos 1) ∷ (pos 1, pos 2) ∷ (pos 1, pos 7) ∷ (pos 2, pos 3) ∷ (pos 2, pos 6) ∷ (pos 3, pos 2) ∷ (pos 3, pos 4) ∷ (pos 4, pos 1) ∷ (pos 6, pos 1) ∷ (pos 7, negsuc 0) ∷ []; thrown = [] }
unfolding runs
loop_else = refl

-- Continue through finally
--  1  for k in range(2):
--  2      try:
--  3          continue
--  4      finally:
--  5          print(k)
--  6  print(9)
abbrev pub continue_through_finally_source : Stmts
continue_through_finally_source =
    line 1 (T.for (var "k") (call (var "range") ((num 2) ∷ [])) (T.suite 1 1 false (
    line 2 (T.try (T.suite 2 2 false (
    line 3 T.continue (
    end))) T.no_clauses T.no_suite (T.has_suite (T.suite 4 4 false (
    line 5 (T.expr (call (var "print") ((var "k") ∷ []))) (
    end))))) (
    end))) T.no_suite) (
    line 6 (T.expr (call (var "print") ((num 9) ∷ []))) (
    end))

continue_through_finally : row continue_through_finally_source 100 ≡ record { out = printed ("0" ∷ "1" ∷ "9" ∷ []); err = []; status = 0; steps = 11; arcs = (negsuc 0, pos 1) ∷ (pos 1, pos 2) ∷ (pos 1, pos 6) ∷ (pos 2, pos 3) ∷ (pos 3, pos 5) ∷ (pos 5, pos 1) ∷ (pos 6, negsuc 0) ∷ []; thrown = [] }
unfolding runs
continue_through_finally = refl

-- A `break` in `finally` drops the exception, and the `else` of the loop
--  1  for k in [0, 1, 2]:
--  2      try:
--  3          raise ValueError
--  4      finally:
--  5          break
--  6  else:
--  7      print(1)
--  8  print(k)
abbrev pub break_in_finally_source : Stmts
break_in_finally_source =
    line 1 (T.for (var "k") (list ((num 0) ∷ (num 1) ∷ (num 2) ∷ [])) (T.suite 1 1 false (
    line 2 (T.try (T.suite 2 2 false (
    line 3 (T.raise (Some (var "ValueError"))) (
    end))) T.no_clauses T.no_suite (T.has_suite (T.suite 4 4 false (
    line 5 T.break (
    end))))) (
    end))) (T.has_suite (T.suite 6 6 false (
    line 7 (T.expr (call (var "print") ((num 1) ∷ []))) (
    end))))) (
    line 8 (T.expr (call (var "print") ((var "k") ∷ []))) (
    end))

break_in_finally : row break_in_finally_source 100 ≡ record { out = printed ("0" ∷ []); err = []; status = 0; steps = 6; arcs = (negsuc 0, pos 1) ∷ (pos 1, pos 2) ∷ (pos 2, pos 3) ∷ (pos 3, pos 5) ∷ (pos 5, pos 8) ∷ (pos 8, negsuc 0) ∷ []; thrown = [] }
unfolding runs
break_in_finally = refl

-- Defaults in a loop
--  1  fs = []
--  2  for i in range(2):
--  3      def f(a, b=i):
--  4          return a + b
--  5      fs.append(f)
--  6  print(fs[0](10), fs[1](10), f(1, 2))
abbrev pub defaults_in_a_loop_source : Stmts
defaults_in_a_loop_source =
    line 1 (T.assign (items ((var "fs") ∷ [])) (list [])) (
    line 2 (T.for (var "i") (call (var "range") ((num 2) ∷ [])) (T.suite 2 2 false (
    line 3 (T.def (codes "f") (codes "a" ∷ codes "b" ∷ []) (items ((var "i") ∷ [])) false (T.suite 3 3 false (
    line 4 (T.return (Some (T.binary Add (var "a") (var "b")))) (
    end)))) (
    line 5 (T.expr (call (attr (var "fs") "append") ((var "f") ∷ []))) (
    end)))) T.no_suite) (
    line 6 (T.expr (call (var "print") ((call (T.index (var "fs") (num 0)) ((num 10) ∷ [])) ∷ (call (T.index (var "fs") (num 1)) ((num 10) ∷ [])) ∷ (call (var "f") ((num 1) ∷ (num 2) ∷ [])) ∷ []))) (
    end)))

defaults_in_a_loop : row defaults_in_a_loop_source 100 ≡ record { out = printed ("10 11 3" ∷ []); err = []; status = 0; steps = 16; arcs = (negsuc 2, pos 4) ∷ (negsuc 0, pos 1) ∷ (pos 1, pos 2) ∷ (pos 2, pos 3) ∷ (pos 2, pos 6) ∷ (pos 3, pos 5) ∷ (pos 4, negsuc 2) ∷ (pos 5, pos 2) ∷ (pos 6, negsuc 0) ∷ []; thrown = [] }
unfolding runs
defaults_in_a_loop = refl

-- A module whose body raises is begun anew
-- a.py:
--  1  for k in [0, 1]:
--  2      try:
--  3          import m
--  4      except ArithmeticError:
--  5          print(k)
-- m.py:
--  1  print("m", __name__)
--  2  x = 1 // 0
abbrev pub module_that_raises_files : Files
module_that_raises_files = and_module (codes "m.py") (
    line 1 (T.expr (call (var "print") ((quote "m") ∷ (var "__name__") ∷ []))) (
    line 2 (T.assign (items ((var "x") ∷ [])) (T.binary Floor (num 1) (num 0))) (
    end))) (
    line 1 (T.for (var "k") (list ((num 0) ∷ (num 1) ∷ [])) (T.suite 1 1 false (
    line 2 (T.try (T.suite 2 2 false (
    line 3 (T.import (record { name = codes "m"; bound = None } ∷ [])) (
    end))) (T.clause (Some (var "ArithmeticError")) None (T.suite 4 4 false (
    line 5 (T.expr (call (var "print") ((var "k") ∷ []))) (
    end))) T.no_clauses) T.no_suite T.no_suite) (
    end))) T.no_suite) (
    end))

module_that_raises : rows module_that_raises_files 0 200 ≡ record { out = printed ("m m" ∷ "0" ∷ "m m" ∷ "1" ∷ []); err = []; status = 0; steps = 18; arcs = (negsuc 0, pos 1) ∷ (pos 1, negsuc 0) ∷ (pos 1, pos 2) ∷ (pos 2, pos 3) ∷ (pos 3, pos 4) ∷ (pos 4, pos 5) ∷ (pos 5, pos 1) ∷ []; thrown = (pos 3, pos 4) ∷ [] }
unfolding runs
module_that_raises = refl

module_that_raises_inside : rows module_that_raises_files 1 200 ≡ record { out = printed ("m m" ∷ "0" ∷ "m m" ∷ "1" ∷ []); err = []; status = 0; steps = 18; arcs = (negsuc 0, pos 1) ∷ (pos 1, pos 2) ∷ (pos 2, negsuc 0) ∷ []; thrown = (pos 2, negsuc 0) ∷ [] }
unfolding runs
module_that_raises_inside = refl
