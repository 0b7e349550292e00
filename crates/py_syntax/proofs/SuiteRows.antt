-- Prediction, computed: tests, functions, suites without a mark and suites on the line of their header.
use Rattle.std.proofs.Common.{◌≡◌, true, false, Some, None, pos, [], ◌∷◌, refl}
use Rattle.std.specs.Prelude.{codes}
use Rattle.py_operator.specs.declared.operator.BinOp.TheVariants.{Add}
use Rattle.py_syntax.specs.Marks.{statement_lines}
use Rattle.py_syntax.specs.Prediction.{outside, predicted, possible}
use Rattle.py_syntax.specs.Tree as T
use Rattle.py_syntax.specs.Tree.{Stmts}
use Rattle.py_syntax.proofs.Sources.{computes, var, num, quote, items, call, line, end}

-- Elif
--  1  if a:
--  2      b = 1
--  3  elif c:
--  4      b = 2
--  5  elif d:
--  6      b = 3
--  7  print(b)
abbrev elif : Stmts
elif =
    line 1 (T.if' (T.arm (var "a") (T.suite 1 1 false (
    line 2 (T.assign (items ((var "b") ∷ [])) (num 1)) (
    end))) (T.arm (var "c") (T.suite 3 3 false (
    line 4 (T.assign (items ((var "b") ∷ [])) (num 2)) (
    end))) (T.arm (var "d") (T.suite 5 5 false (
    line 6 (T.assign (items ((var "b") ∷ [])) (num 3)) (
    end))) T.no_arms))) T.no_suite) (
    line 7 (T.expr (call (var "print") ((var "b") ∷ []))) (
    end))

elif_predicted : predicted elif ≡ (outside 1, pos 1) ∷ (pos 1, pos 2) ∷ (pos 1, pos 3) ∷ (pos 2, pos 7) ∷ (pos 3, pos 4) ∷ (pos 3, pos 5) ∷ (pos 4, pos 7) ∷ (pos 5, pos 6) ∷ (pos 5, pos 7) ∷ (pos 6, pos 7) ∷ (pos 7, outside 1) ∷ []
unfolding computes
elif_predicted = refl

elif_possible : possible elif ≡ (outside 1, pos 1) ∷ (pos 1, outside 1) ∷ (pos 1, pos 2) ∷ (pos 1, pos 3) ∷ (pos 2, outside 1) ∷ (pos 2, pos 7) ∷ (pos 3, outside 1) ∷ (pos 3, pos 4) ∷ (pos 3, pos 5) ∷ (pos 4, outside 1) ∷ (pos 4, pos 7) ∷ (pos 5, outside 1) ∷ (pos 5, pos 6) ∷ (pos 5, pos 7) ∷ (pos 6, outside 1) ∷ (pos 6, pos 7) ∷ (pos 7, outside 1) ∷ []
unfolding computes
elif_possible = refl

elif_lines : statement_lines elif ≡ 1 ∷ 2 ∷ 3 ∷ 4 ∷ 5 ∷ 6 ∷ 7 ∷ []
unfolding computes
elif_lines = refl

-- Suite of a docstring
--  1  if a:
--  2      "text"
--  3  print(1)
abbrev suite_of_a_docstring : Stmts
suite_of_a_docstring =
    line 1 (T.if' (T.arm (var "a") (T.suite 1 1 false (
    line 2 (T.expr (quote "text")) (
    end))) T.no_arms) T.no_suite) (
    line 3 (T.expr (call (var "print") ((num 1) ∷ []))) (
    end))

suite_of_a_docstring_predicted : predicted suite_of_a_docstring ≡ (outside 1, pos 1) ∷ (pos 1, pos 2) ∷ (pos 1, pos 3) ∷ (pos 2, pos 3) ∷ (pos 3, outside 1) ∷ []
unfolding computes
suite_of_a_docstring_predicted = refl

suite_of_a_docstring_possible : possible suite_of_a_docstring ≡ (outside 1, pos 1) ∷ (pos 1, outside 1) ∷ (pos 1, pos 2) ∷ (pos 1, pos 3) ∷ (pos 2, outside 1) ∷ (pos 2, pos 3) ∷ (pos 3, outside 1) ∷ []
unfolding computes
suite_of_a_docstring_possible = refl

suite_of_a_docstring_lines : statement_lines suite_of_a_docstring ≡ 1 ∷ 2 ∷ 3 ∷ []
unfolding computes
suite_of_a_docstring_lines = refl

-- Suite of global alone
--  1  def f():
--  2      if a:
--  3          global x
--  4      x = 1
abbrev suite_of_global_alone : Stmts
suite_of_global_alone =
    line 1 (T.def (codes "f") [] (items []) false (T.suite 1 1 false (
    line 2 (T.if' (T.arm (var "a") (T.suite 2 2 false (
    line 3 (T.global (codes "x" ∷ [])) (
    end))) T.no_arms) T.no_suite) (
    line 4 (T.assign (items ((var "x") ∷ [])) (num 1)) (
    end))))) (
    end)

suite_of_global_alone_predicted : predicted suite_of_global_alone ≡ (outside 1, pos 1) ∷ (outside 1, pos 2) ∷ (pos 1, outside 1) ∷ (pos 2, pos 4) ∷ (pos 4, outside 1) ∷ []
unfolding computes
suite_of_global_alone_predicted = refl

suite_of_global_alone_possible : possible suite_of_global_alone ≡ (outside 1, pos 1) ∷ (outside 1, pos 2) ∷ (pos 1, outside 1) ∷ (pos 2, outside 1) ∷ (pos 2, pos 4) ∷ (pos 4, outside 1) ∷ []
unfolding computes
suite_of_global_alone_possible = refl

suite_of_global_alone_lines : statement_lines suite_of_global_alone ≡ 1 ∷ 2 ∷ 4 ∷ []
unfolding computes
suite_of_global_alone_lines = refl

-- Function of global alone
--  1  def f():
--  2      global x
--  3  f()
abbrev function_of_global_alone : Stmts
function_of_global_alone =
    line 1 (T.def (codes "f") [] (items []) false (T.suite 1 1 false (
    line 2 (T.global (codes "x" ∷ [])) (
    end)))) (
    line 3 (T.expr (call (var "f") [])) (
    end))

function_of_global_alone_predicted : predicted function_of_global_alone ≡ (outside 1, outside 1) ∷ (outside 1, pos 1) ∷ (pos 1, pos 3) ∷ (pos 3, outside 1) ∷ []
unfolding computes
function_of_global_alone_predicted = refl

function_of_global_alone_possible : possible function_of_global_alone ≡ (outside 1, outside 1) ∷ (outside 1, pos 1) ∷ (pos 1, outside 1) ∷ (pos 1, pos 3) ∷ (pos 3, outside 1) ∷ []
unfolding computes
function_of_global_alone_possible = refl

function_of_global_alone_lines : statement_lines function_of_global_alone ≡ 1 ∷ 3 ∷ []
unfolding computes
function_of_global_alone_lines = refl

-- Function of a docstring and global
--  1  def f():
--  2      "text"
--  3      global x
--  4  f()
abbrev function_of_a_docstring_and_global : Stmts
function_of_a_docstring_and_global =
    line 1 (T.def (codes "f") [] (items []) false (T.suite 1 1 false (
    line 2 (T.expr (quote "text")) (
    line 3 (T.global (codes "x" ∷ [])) (
    end))))) (
    line 4 (T.expr (call (var "f") [])) (
    end))

function_of_a_docstring_and_global_predicted : predicted function_of_a_docstring_and_global ≡ (outside 1, outside 1) ∷ (outside 1, pos 1) ∷ (pos 1, pos 4) ∷ (pos 4, outside 1) ∷ []
unfolding computes
function_of_a_docstring_and_global_predicted = refl

function_of_a_docstring_and_global_possible : possible function_of_a_docstring_and_global ≡ (outside 1, outside 1) ∷ (outside 1, pos 1) ∷ (pos 1, outside 1) ∷ (pos 1, pos 4) ∷ (pos 4, outside 1) ∷ []
unfolding computes
function_of_a_docstring_and_global_possible = refl

function_of_a_docstring_and_global_lines : statement_lines function_of_a_docstring_and_global ≡ 1 ∷ 4 ∷ []
unfolding computes
function_of_a_docstring_and_global_lines = refl

-- Else of global alone
--  1  def f():
--  2      if a:
--  3          b = 1
--  4      else:
--  5          global x
--  6      return b
abbrev else_of_global_alone : Stmts
else_of_global_alone =
    line 1 (T.def (codes "f") [] (items []) false (T.suite 1 1 false (
    line 2 (T.if' (T.arm (var "a") (T.suite 2 2 false (
    line 3 (T.assign (items ((var "b") ∷ [])) (num 1)) (
    end))) T.no_arms) (T.has_suite (T.suite 4 4 false (
    line 5 (T.global (codes "x" ∷ [])) (
    end))))) (
    line 6 (T.return (Some (var "b"))) (
    end))))) (
    end)

else_of_global_alone_predicted : predicted else_of_global_alone ≡ (outside 1, pos 1) ∷ (outside 1, pos 2) ∷ (pos 1, outside 1) ∷ (pos 2, pos 3) ∷ (pos 2, pos 6) ∷ (pos 3, pos 6) ∷ (pos 6, outside 1) ∷ []
unfolding computes
else_of_global_alone_predicted = refl

else_of_global_alone_possible : possible else_of_global_alone ≡ (outside 1, pos 1) ∷ (outside 1, pos 2) ∷ (pos 1, outside 1) ∷ (pos 2, outside 1) ∷ (pos 2, pos 3) ∷ (pos 2, pos 6) ∷ (pos 3, outside 1) ∷ (pos 3, pos 6) ∷ (pos 6, outside 1) ∷ []
unfolding computes
else_of_global_alone_possible = refl

else_of_global_alone_lines : statement_lines else_of_global_alone ≡ 1 ∷ 2 ∷ 3 ∷ 6 ∷ []
unfolding computes
else_of_global_alone_lines = refl

-- Loop of global alone
--  1  def f():
--  2      while a:
--  3          global x
--  4      return 1
abbrev loop_of_global_alone : Stmts
loop_of_global_alone =
    line 1 (T.def (codes "f") [] (items []) false (T.suite 1 1 false (
    line 2 (T.while (var "a") (T.suite 2 2 false (
    line 3 (T.global (codes "x" ∷ [])) (
    end))) T.no_suite) (
    line 4 (T.return (Some (num 1))) (
    end))))) (
    end)

loop_of_global_alone_predicted : predicted loop_of_global_alone ≡ (outside 1, pos 1) ∷ (outside 1, pos 2) ∷ (pos 1, outside 1) ∷ (pos 2, pos 2) ∷ (pos 2, pos 4) ∷ (pos 4, outside 1) ∷ []
unfolding computes
loop_of_global_alone_predicted = refl

loop_of_global_alone_possible : possible loop_of_global_alone ≡ (outside 1, pos 1) ∷ (outside 1, pos 2) ∷ (pos 1, outside 1) ∷ (pos 2, outside 1) ∷ (pos 2, pos 2) ∷ (pos 2, pos 4) ∷ (pos 4, outside 1) ∷ []
unfolding computes
loop_of_global_alone_possible = refl

loop_of_global_alone_lines : statement_lines loop_of_global_alone ≡ 1 ∷ 2 ∷ 4 ∷ []
unfolding computes
loop_of_global_alone_lines = refl

-- One-line function
--  1  def f(): return 1
--  2  f()
abbrev one_line_function : Stmts
one_line_function =
    line 1 (T.def (codes "f") [] (items []) false (T.suite 1 1 true (
    line 1 (T.return (Some (num 1))) (
    end)))) (
    line 2 (T.expr (call (var "f") [])) (
    end))

one_line_function_predicted : predicted one_line_function ≡ (outside 1, pos 1) ∷ (pos 1, outside 1) ∷ (pos 1, pos 2) ∷ (pos 2, outside 1) ∷ []
unfolding computes
one_line_function_predicted = refl

one_line_function_possible : possible one_line_function ≡ (outside 1, pos 1) ∷ (pos 1, outside 1) ∷ (pos 1, pos 2) ∷ (pos 2, outside 1) ∷ []
unfolding computes
one_line_function_possible = refl

one_line_function_lines : statement_lines one_line_function ≡ 1 ∷ 2 ∷ []
unfolding computes
one_line_function_lines = refl

-- One-line function of two statements
--  1  def f(): a = 1; return a
--  2  f()
abbrev one_line_function_of_two_statements : Stmts
one_line_function_of_two_statements =
    line 1 (T.def (codes "f") [] (items []) false (T.suite 1 1 true (
    line 1 (T.assign (items ((var "a") ∷ [])) (num 1)) (
    line 1 (T.return (Some (var "a"))) (
    end))))) (
    line 2 (T.expr (call (var "f") [])) (
    end))

one_line_function_of_two_statements_predicted : predicted one_line_function_of_two_statements ≡ (outside 1, pos 1) ∷ (pos 1, outside 1) ∷ (pos 1, pos 2) ∷ (pos 2, outside 1) ∷ []
unfolding computes
one_line_function_of_two_statements_predicted = refl

one_line_function_of_two_statements_possible : possible one_line_function_of_two_statements ≡ (outside 1, pos 1) ∷ (pos 1, outside 1) ∷ (pos 1, pos 2) ∷ (pos 2, outside 1) ∷ []
unfolding computes
one_line_function_of_two_statements_possible = refl

one_line_function_of_two_statements_lines : statement_lines one_line_function_of_two_statements ≡ 1 ∷ 2 ∷ []
unfolding computes
one_line_function_of_two_statements_lines = refl

-- One-line test
--  1  if a: b = 1
--  2  print(b)
abbrev one_line_test : Stmts
one_line_test =
    line 1 (T.if' (T.arm (var "a") (T.suite 1 1 true (
    line 1 (T.assign (items ((var "b") ∷ [])) (num 1)) (
    end))) T.no_arms) T.no_suite) (
    line 2 (T.expr (call (var "print") ((var "b") ∷ []))) (
    end))

one_line_test_predicted : predicted one_line_test ≡ (outside 1, pos 1) ∷ (pos 1, pos 2) ∷ (pos 2, outside 1) ∷ []
unfolding computes
one_line_test_predicted = refl

one_line_test_possible : possible one_line_test ≡ (outside 1, pos 1) ∷ (pos 1, outside 1) ∷ (pos 1, pos 2) ∷ (pos 2, outside 1) ∷ []
unfolding computes
one_line_test_possible = refl

one_line_test_lines : statement_lines one_line_test ≡ 1 ∷ 2 ∷ []
unfolding computes
one_line_test_lines = refl

-- Other simple statements
--  1  import m
--  2  from m import x
--  3  assert x
--  4  x += 1
--  5  raise
abbrev other_simple_statements : Stmts
other_simple_statements =
    line 1 (T.import (record { name = codes "m"; bound = None } ∷ [])) (
    line 2 (T.from (codes "m") (record { name = codes "x"; bound = None } ∷ [])) (
    line 3 (T.assert (var "x") None) (
    line 4 (T.aug_assign (var "x") Add (num 1)) (
    line 5 (T.raise None) (
    end)))))

other_simple_statements_predicted : predicted other_simple_statements ≡ (outside 1, pos 1) ∷ (pos 1, pos 2) ∷ (pos 2, pos 3) ∷ (pos 3, pos 4) ∷ (pos 4, pos 5) ∷ (pos 5, outside 1) ∷ []
unfolding computes
other_simple_statements_predicted = refl

other_simple_statements_possible : possible other_simple_statements ≡ (outside 1, pos 1) ∷ (pos 1, outside 1) ∷ (pos 1, pos 2) ∷ (pos 2, outside 1) ∷ (pos 2, pos 3) ∷ (pos 3, outside 1) ∷ (pos 3, pos 4) ∷ (pos 4, outside 1) ∷ (pos 4, pos 5) ∷ (pos 5, outside 1) ∷ []
unfolding computes
other_simple_statements_possible = refl

other_simple_statements_lines : statement_lines other_simple_statements ≡ 1 ∷ 2 ∷ 3 ∷ 4 ∷ 5 ∷ []
unfolding computes
other_simple_statements_lines = refl

-- Statement after return
--  1  def f():
--  2      return 1
--  3      a = 2
--  4  f()
abbrev statement_after_return : Stmts
statement_after_return =
    line 1 (T.def (codes "f") [] (items []) false (T.suite 1 1 false (
    line 2 (T.return (Some (num 1))) (
    line 3 (T.assign (items ((var "a") ∷ [])) (num 2)) (
    end))))) (
    line 4 (T.expr (call (var "f") [])) (
    end))

statement_after_return_predicted : predicted statement_after_return ≡ (outside 1, pos 1) ∷ (outside 1, pos 2) ∷ (pos 1, pos 4) ∷ (pos 2, outside 1) ∷ (pos 3, outside 1) ∷ (pos 4, outside 1) ∷ []
unfolding computes
statement_after_return_predicted = refl

statement_after_return_possible : possible statement_after_return ≡ (outside 1, pos 1) ∷ (outside 1, pos 2) ∷ (pos 1, outside 1) ∷ (pos 1, pos 4) ∷ (pos 2, outside 1) ∷ (pos 3, outside 1) ∷ (pos 4, outside 1) ∷ []
unfolding computes
statement_after_return_possible = refl

statement_after_return_lines : statement_lines statement_after_return ≡ 1 ∷ 2 ∷ 3 ∷ 4 ∷ []
unfolding computes
statement_after_return_lines = refl
