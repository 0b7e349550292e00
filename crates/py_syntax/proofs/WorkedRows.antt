-- Prediction, computed: the worked examples.
use Rattle.std.proofs.Common.{◌≡◌, true, false, Some, None, pos, [], ◌∷◌, refl}
use Rattle.std.specs.Prelude.{codes}
use Rattle.py_operator.specs.declared.operator.BinOp.TheVariants.{Sub, Floor}
use Rattle.py_syntax.specs.declared.pattern.Brackets.TheVariants.{Square}
use Rattle.py_syntax.specs.Marks.{statement_lines}
use Rattle.py_syntax.specs.Prediction.{outside, predicted, possible}
use Rattle.py_syntax.specs.Tree as T
use Rattle.py_syntax.specs.Tree.{Stmts}
use Rattle.py_syntax.proofs.Sources.{computes, var, num, quote, items, call, alternatives, line, end}

-- First run
--  1  x = 1
--  2  if x:
--  3      print(x)
--  4  else:
--  5      print(0)
abbrev first_run : Stmts
first_run =
    line 1 (T.assign (items ((var "x") ∷ [])) (num 1)) (
    line 2 (T.if' (T.arm (var "x") (T.suite 2 2 false (
    line 3 (T.expr (call (var "print") ((var "x") ∷ []))) (
    end))) T.no_arms) (T.has_suite (T.suite 4 4 false (
    line 5 (T.expr (call (var "print") ((num 0) ∷ []))) (
    end))))) (
    end))

first_run_predicted : predicted first_run ≡ (outside 1, pos 1) ∷ (pos 1, pos 2) ∷ (pos 2, pos 3) ∷ (pos 2, pos 5) ∷ (pos 3, outside 1) ∷ (pos 5, outside 1) ∷ []
unfolding computes
first_run_predicted = refl

first_run_possible : possible first_run ≡ (outside 1, pos 1) ∷ (pos 1, outside 1) ∷ (pos 1, pos 2) ∷ (pos 2, outside 1) ∷ (pos 2, pos 3) ∷ (pos 2, pos 5) ∷ (pos 3, outside 1) ∷ (pos 5, outside 1) ∷ []
unfolding computes
first_run_possible = refl

first_run_lines : statement_lines first_run ≡ 1 ∷ 2 ∷ 3 ∷ 5 ∷ []
unfolding computes
first_run_lines = refl

-- Empty file
abbrev empty_file : Stmts
empty_file =
    end

empty_file_predicted : predicted empty_file ≡ (outside 1, outside 1) ∷ []
unfolding computes
empty_file_predicted = refl

empty_file_possible : possible empty_file ≡ (outside 1, outside 1) ∷ []
unfolding computes
empty_file_possible = refl

empty_file_lines : statement_lines empty_file ≡ []
unfolding computes
empty_file_lines = refl

-- Docstring alone
--  1  x = 0
--  2  def f():
--  3      """doc"""
--  4  f()
abbrev docstring_alone : Stmts
docstring_alone =
    line 1 (T.assign (items ((var "x") ∷ [])) (num 0)) (
    line 2 (T.def (codes "f") [] (items []) false (T.suite 2 2 false (
    line 3 (T.expr (quote "doc")) (
    end)))) (
    line 4 (T.expr (call (var "f") [])) (
    end)))

docstring_alone_predicted : predicted docstring_alone ≡ (outside 2, outside 2) ∷ (outside 1, pos 1) ∷ (pos 1, pos 2) ∷ (pos 2, pos 4) ∷ (pos 4, outside 1) ∷ []
unfolding computes
docstring_alone_predicted = refl

docstring_alone_possible : possible docstring_alone ≡ (outside 2, outside 2) ∷ (outside 1, pos 1) ∷ (pos 1, outside 1) ∷ (pos 1, pos 2) ∷ (pos 2, outside 1) ∷ (pos 2, pos 4) ∷ (pos 4, outside 1) ∷ []
unfolding computes
docstring_alone_possible = refl

docstring_alone_lines : statement_lines docstring_alone ≡ 1 ∷ 2 ∷ 4 ∷ []
unfolding computes
docstring_alone_lines = refl

-- One-line loop
--  1  n = 3
--  2  while n: n = n - 1
abbrev one_line_loop : Stmts
one_line_loop =
    line 1 (T.assign (items ((var "n") ∷ [])) (num 3)) (
    line 2 (T.while (var "n") (T.suite 2 2 true (
    line 2 (T.assign (items ((var "n") ∷ [])) (T.binary Sub (var "n") (num 1))) (
    end))) T.no_suite) (
    end))

one_line_loop_predicted : predicted one_line_loop ≡ (outside 1, pos 1) ∷ (pos 1, pos 2) ∷ (pos 2, outside 1) ∷ (pos 2, pos 2) ∷ []
unfolding computes
one_line_loop_predicted = refl

one_line_loop_possible : possible one_line_loop ≡ (outside 1, pos 1) ∷ (pos 1, outside 1) ∷ (pos 1, pos 2) ∷ (pos 2, outside 1) ∷ (pos 2, pos 2) ∷ []
unfolding computes
one_line_loop_possible = refl

one_line_loop_lines : statement_lines one_line_loop ≡ 1 ∷ 2 ∷ []
unfolding computes
one_line_loop_lines = refl

-- Loop else
--  1  for k in range(3):
--  2      for j in range(2):
--  3          if j:
--  4              break
--  5      else:
--  6          print(k)
--  7  print(9)
abbrev loop_else : Stmts
loop_else =
    line 1 (T.for (var "k") (call (var "range") ((num 3) ∷ [])) (T.suite 1 1 false (
    line 2 (T.for (var "j") (call (var "range") ((num 2) ∷ [])) (T.suite 2 2 false (
    line 3 (T.if' (T.arm (var "j") (T.suite 3 3 false (
    line 4 T.break (
    end))) T.no_arms) T.no_suite) (
    end))) (T.has_suite (T.suite 5 5 false (
    line 6 (T.expr (call (var "print") ((var "k") ∷ []))) (
    end))))) (
    end))) T.no_suite) (
    line 7 (T.expr (call (var "print") ((num 9) ∷ []))) (
    end))

loop_else_predicted : predicted loop_else ≡ (outside 1, pos 1) ∷ (pos 1, pos 2) ∷ (pos 1, pos 7) ∷ (pos 2, pos 3) ∷ (pos 2, pos 6) ∷ (pos 3, pos 2) ∷ (pos 3, pos 4) ∷ (pos 4, pos 1) ∷ (pos 6, pos 1) ∷ (pos 7, outside 1) ∷ []
unfolding computes
loop_else_predicted = refl

loop_else_possible : possible loop_else ≡ (outside 1, pos 1) ∷ (pos 1, outside 1) ∷ (pos 1, pos 2) ∷ (pos 1, pos 7) ∷ (pos 2, outside 1) ∷ (pos 2, pos 3) ∷ (pos 2, pos 6) ∷ (pos 3, outside 1) ∷ (pos 3, pos 2) ∷ (pos 3, pos 4) ∷ (pos 4, outside 1) ∷ (pos 4, pos 1) ∷ (pos 6, outside 1) ∷ (pos 6, pos 1) ∷ (pos 7, outside 1) ∷ []
unfolding computes
loop_else_possible = refl

loop_else_lines : statement_lines loop_else ≡ 1 ∷ 2 ∷ 3 ∷ 4 ∷ 6 ∷ 7 ∷ []
unfolding computes
loop_else_lines = refl

-- Two returns
--  1  v = 0
--  2  def f():
--  3      try:
--  4          return 1
--  5      finally:
--  6          return 2
--  7  print(f())
abbrev two_returns : Stmts
two_returns =
    line 1 (T.assign (items ((var "v") ∷ [])) (num 0)) (
    line 2 (T.def (codes "f") [] (items []) false (T.suite 2 2 false (
    line 3 (T.try (T.suite 3 3 false (
    line 4 (T.return (Some (num 1))) (
    end))) T.no_clauses T.no_suite (T.has_suite (T.suite 5 5 false (
    line 6 (T.return (Some (num 2))) (
    end))))) (
    end)))) (
    line 7 (T.expr (call (var "print") ((call (var "f") []) ∷ []))) (
    end)))

two_returns_predicted : predicted two_returns ≡ (outside 2, pos 3) ∷ (outside 1, pos 1) ∷ (pos 1, pos 2) ∷ (pos 2, pos 7) ∷ (pos 3, pos 4) ∷ (pos 4, pos 6) ∷ (pos 6, outside 2) ∷ (pos 7, outside 1) ∷ []
unfolding computes
two_returns_predicted = refl

two_returns_possible : possible two_returns ≡ (outside 2, pos 3) ∷ (outside 1, pos 1) ∷ (pos 1, outside 1) ∷ (pos 1, pos 2) ∷ (pos 2, outside 1) ∷ (pos 2, pos 7) ∷ (pos 3, outside 2) ∷ (pos 3, pos 4) ∷ (pos 4, pos 6) ∷ (pos 6, outside 2) ∷ (pos 7, outside 1) ∷ []
unfolding computes
two_returns_possible = refl

two_returns_lines : statement_lines two_returns ≡ 1 ∷ 2 ∷ 3 ∷ 4 ∷ 6 ∷ 7 ∷ []
unfolding computes
two_returns_lines = refl

-- Handlers
--  1  try:
--  2      x = 1 // 0
--  3  except KeyError:
--  4      print(1)
--  5  except ZeroDivisionError:
--  6      print(2)
--  7  print(3)
abbrev handlers : Stmts
handlers =
    line 1 (T.try (T.suite 1 1 false (
    line 2 (T.assign (items ((var "x") ∷ [])) (T.binary Floor (num 1) (num 0))) (
    end))) (T.clause (Some (var "KeyError")) None (T.suite 3 3 false (
    line 4 (T.expr (call (var "print") ((num 1) ∷ []))) (
    end))) (T.clause (Some (var "ZeroDivisionError")) None (T.suite 5 5 false (
    line 6 (T.expr (call (var "print") ((num 2) ∷ []))) (
    end))) T.no_clauses)) T.no_suite T.no_suite) (
    line 7 (T.expr (call (var "print") ((num 3) ∷ []))) (
    end))

handlers_predicted : predicted handlers ≡ (outside 1, pos 1) ∷ (pos 1, pos 2) ∷ (pos 2, pos 7) ∷ (pos 3, pos 4) ∷ (pos 3, pos 5) ∷ (pos 4, pos 7) ∷ (pos 5, pos 6) ∷ (pos 6, pos 7) ∷ (pos 7, outside 1) ∷ []
unfolding computes
handlers_predicted = refl

handlers_possible : possible handlers ≡ (outside 1, pos 1) ∷ (pos 1, outside 1) ∷ (pos 1, pos 2) ∷ (pos 2, pos 3) ∷ (pos 2, pos 7) ∷ (pos 3, outside 1) ∷ (pos 3, pos 4) ∷ (pos 3, pos 5) ∷ (pos 4, outside 1) ∷ (pos 4, pos 7) ∷ (pos 5, outside 1) ∷ (pos 5, pos 6) ∷ (pos 6, outside 1) ∷ (pos 6, pos 7) ∷ (pos 7, outside 1) ∷ []
unfolding computes
handlers_possible = refl

handlers_lines : statement_lines handlers ≡ 1 ∷ 2 ∷ 3 ∷ 4 ∷ 5 ∷ 6 ∷ 7 ∷ []
unfolding computes
handlers_lines = refl

-- Continue through finally
--  1  for k in range(2):
--  2      try:
--  3          continue
--  4      finally:
--  5          print(k)
--  6  print(9)
abbrev continue_through_finally : Stmts
continue_through_finally =
    line 1 (T.for (var "k") (call (var "range") ((num 2) ∷ [])) (T.suite 1 1 false (
    line 2 (T.try (T.suite 2 2 false (
    line 3 T.continue (
    end))) T.no_clauses T.no_suite (T.has_suite (T.suite 4 4 false (
    line 5 (T.expr (call (var "print") ((var "k") ∷ []))) (
    end))))) (
    end))) T.no_suite) (
    line 6 (T.expr (call (var "print") ((num 9) ∷ []))) (
    end))

continue_through_finally_predicted : predicted continue_through_finally ≡ (outside 1, pos 1) ∷ (pos 1, pos 2) ∷ (pos 1, pos 6) ∷ (pos 2, pos 3) ∷ (pos 3, pos 5) ∷ (pos 5, pos 1) ∷ (pos 6, outside 1) ∷ []
unfolding computes
continue_through_finally_predicted = refl

continue_through_finally_possible : possible continue_through_finally ≡ (outside 1, pos 1) ∷ (pos 1, outside 1) ∷ (pos 1, pos 2) ∷ (pos 1, pos 6) ∷ (pos 2, outside 1) ∷ (pos 2, pos 3) ∷ (pos 3, pos 5) ∷ (pos 5, outside 1) ∷ (pos 5, pos 1) ∷ (pos 6, outside 1) ∷ []
unfolding computes
continue_through_finally_possible = refl

continue_through_finally_lines : statement_lines continue_through_finally ≡ 1 ∷ 2 ∷ 3 ∷ 5 ∷ 6 ∷ []
unfolding computes
continue_through_finally_lines = refl

-- Endless loop
--  1  while True:
--  2      pass
abbrev endless_loop : Stmts
endless_loop =
    line 1 (T.while (T.bool true) (T.suite 1 1 false (
    line 2 T.pass (
    end))) T.no_suite) (
    end)

endless_loop_predicted : predicted endless_loop ≡ (outside 1, pos 1) ∷ (pos 1, pos 2) ∷ (pos 2, pos 1) ∷ []
unfolding computes
endless_loop_predicted = refl

endless_loop_possible : possible endless_loop ≡ (outside 1, pos 1) ∷ (pos 1, outside 1) ∷ (pos 1, pos 2) ∷ (pos 2, outside 1) ∷ (pos 2, pos 1) ∷ []
unfolding computes
endless_loop_possible = refl

endless_loop_lines : statement_lines endless_loop ≡ 1 ∷ 2 ∷ []
unfolding computes
endless_loop_lines = refl

-- Match
--  1  def f(v):
--  2      match v:
--  3          case 0:
--  4              return 1
--  5          case [a, b] if a // b:
--  6              return 2
--  7          case _:
--  8              return 3
--  9  print(f(0))
--  10  f(1)
abbrev match : Stmts
match =
    line 1 (T.def (codes "f") (codes "v" ∷ []) (items []) false (T.suite 1 1 false (
    line 2 (T.match (var "v") 2 (T.case (T.literal false (T.c_int (pos 0))) None (T.suite 3 3 false (
    line 4 (T.return (Some (num 1))) (
    end))) (T.case (T.sequence Square (alternatives ((T.capture (codes "a")) ∷ (T.capture (codes "b")) ∷ [])) false) (Some (T.binary Floor (var "a") (var "b"))) (T.suite 5 5 false (
    line 6 (T.return (Some (num 2))) (
    end))) (T.case T.wild None (T.suite 7 7 false (
    line 8 (T.return (Some (num 3))) (
    end))) T.no_cases)))) (
    end)))) (
    line 9 (T.expr (call (var "print") ((call (var "f") ((num 0) ∷ [])) ∷ []))) (
    line 10 (T.expr (call (var "f") ((num 1) ∷ []))) (
    end)))

match_predicted : predicted match ≡ (outside 1, pos 1) ∷ (outside 1, pos 2) ∷ (pos 1, pos 9) ∷ (pos 2, pos 3) ∷ (pos 3, pos 4) ∷ (pos 3, pos 5) ∷ (pos 4, outside 1) ∷ (pos 5, pos 6) ∷ (pos 5, pos 7) ∷ (pos 6, outside 1) ∷ (pos 7, pos 8) ∷ (pos 8, outside 1) ∷ (pos 9, pos 10) ∷ (pos 10, outside 1) ∷ []
unfolding computes
match_predicted = refl

match_possible : possible match ≡ (outside 1, pos 1) ∷ (outside 1, pos 2) ∷ (pos 1, outside 1) ∷ (pos 1, pos 9) ∷ (pos 2, outside 1) ∷ (pos 2, pos 3) ∷ (pos 3, outside 1) ∷ (pos 3, pos 4) ∷ (pos 3, pos 5) ∷ (pos 4, outside 1) ∷ (pos 5, outside 1) ∷ (pos 5, pos 6) ∷ (pos 5, pos 7) ∷ (pos 6, outside 1) ∷ (pos 7, outside 1) ∷ (pos 7, pos 8) ∷ (pos 8, outside 1) ∷ (pos 9, outside 1) ∷ (pos 9, pos 10) ∷ (pos 10, outside 1) ∷ []
unfolding computes
match_possible = refl

match_lines : statement_lines match ≡ 1 ∷ 2 ∷ 3 ∷ 4 ∷ 5 ∷ 6 ∷ 7 ∷ 8 ∷ 9 ∷ 10 ∷ []
unfolding computes
match_lines = refl

-- Pragma
--  1  debug = False
--  2  if debug:
--  3      print(1)
--  4  else:
--  5      print(2)
--  6  while True:
--  7      break
abbrev pragma : Stmts
pragma =
    line 1 (T.assign (items ((var "debug") ∷ [])) (T.bool false)) (
    line 2 (T.if' (T.arm (var "debug") (T.suite 2 2 false (
    line 3 (T.expr (call (var "print") ((num 1) ∷ []))) (
    end))) T.no_arms) (T.has_suite (T.suite 4 4 false (
    line 5 (T.expr (call (var "print") ((num 2) ∷ []))) (
    end))))) (
    line 6 (T.while (T.bool true) (T.suite 6 6 false (
    line 7 T.break (
    end))) T.no_suite) (
    end)))

pragma_predicted : predicted pragma ≡ (outside 1, pos 1) ∷ (pos 1, pos 2) ∷ (pos 2, pos 3) ∷ (pos 2, pos 5) ∷ (pos 3, pos 6) ∷ (pos 5, pos 6) ∷ (pos 6, pos 7) ∷ (pos 7, outside 1) ∷ []
unfolding computes
pragma_predicted = refl

pragma_possible : possible pragma ≡ (outside 1, pos 1) ∷ (pos 1, outside 1) ∷ (pos 1, pos 2) ∷ (pos 2, outside 1) ∷ (pos 2, pos 3) ∷ (pos 2, pos 5) ∷ (pos 3, outside 1) ∷ (pos 3, pos 6) ∷ (pos 5, outside 1) ∷ (pos 5, pos 6) ∷ (pos 6, outside 1) ∷ (pos 6, pos 7) ∷ (pos 7, outside 1) ∷ []
unfolding computes
pragma_possible = refl

pragma_lines : statement_lines pragma ≡ 1 ∷ 2 ∷ 3 ∷ 5 ∷ 6 ∷ 7 ∷ []
unfolding computes
pragma_lines = refl

-- Two try in a loop
--  1  n = 0
--  2  def f():
--  3      for k in range(2):
--  4          try:
--  5              try:
--  6                  n // k
--  7              finally:
--  8                  print("f", k)
--  9          except ZeroDivisionError:
--  10              continue
--  11          else:
--  12              return k
--  13  print(f())
abbrev two_try_in_a_loop : Stmts
two_try_in_a_loop =
    line 1 (T.assign (items ((var "n") ∷ [])) (num 0)) (
    line 2 (T.def (codes "f") [] (items []) false (T.suite 2 2 false (
    line 3 (T.for (var "k") (call (var "range") ((num 2) ∷ [])) (T.suite 3 3 false (
    line 4 (T.try (T.suite 4 4 false (
    line 5 (T.try (T.suite 5 5 false (
    line 6 (T.expr (T.binary Floor (var "n") (var "k"))) (
    end))) T.no_clauses T.no_suite (T.has_suite (T.suite 7 7 false (
    line 8 (T.expr (call (var "print") ((quote "f") ∷ (var "k") ∷ []))) (
    end))))) (
    end))) (T.clause (Some (var "ZeroDivisionError")) None (T.suite 9 9 false (
    line 10 T.continue (
    end))) T.no_clauses) (T.has_suite (T.suite 11 11 false (
    line 12 (T.return (Some (var "k"))) (
    end)))) T.no_suite) (
    end))) T.no_suite) (
    end)))) (
    line 13 (T.expr (call (var "print") ((call (var "f") []) ∷ []))) (
    end)))

two_try_in_a_loop_predicted : predicted two_try_in_a_loop ≡ (outside 2, pos 3) ∷ (outside 1, pos 1) ∷ (pos 1, pos 2) ∷ (pos 2, pos 13) ∷ (pos 3, outside 2) ∷ (pos 3, pos 4) ∷ (pos 4, pos 5) ∷ (pos 5, pos 6) ∷ (pos 6, pos 8) ∷ (pos 8, pos 12) ∷ (pos 9, pos 10) ∷ (pos 10, pos 3) ∷ (pos 12, outside 2) ∷ (pos 13, outside 1) ∷ []
unfolding computes
two_try_in_a_loop_predicted = refl

two_try_in_a_loop_possible : possible two_try_in_a_loop ≡ (outside 2, pos 3) ∷ (outside 1, pos 1) ∷ (pos 1, outside 1) ∷ (pos 1, pos 2) ∷ (pos 2, outside 1) ∷ (pos 2, pos 13) ∷ (pos 3, outside 2) ∷ (pos 3, pos 4) ∷ (pos 4, outside 2) ∷ (pos 4, pos 5) ∷ (pos 5, pos 6) ∷ (pos 5, pos 9) ∷ (pos 6, pos 8) ∷ (pos 8, pos 9) ∷ (pos 8, pos 12) ∷ (pos 9, outside 2) ∷ (pos 9, pos 10) ∷ (pos 10, outside 2) ∷ (pos 10, pos 3) ∷ (pos 12, outside 2) ∷ (pos 13, outside 1) ∷ []
unfolding computes
two_try_in_a_loop_possible = refl

two_try_in_a_loop_lines : statement_lines two_try_in_a_loop ≡ 1 ∷ 2 ∷ 3 ∷ 4 ∷ 5 ∷ 6 ∷ 8 ∷ 9 ∷ 10 ∷ 12 ∷ 13 ∷ []
unfolding computes
two_try_in_a_loop_lines = refl
