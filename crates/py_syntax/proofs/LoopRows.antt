-- Prediction, computed: loops.
use Rattle.std.proofs.Common.{◌≡◌, true, false, Some, None, pos, [], ◌∷◌, refl}
use Rattle.std.specs.Prelude.{codes}
use Rattle.py_syntax.specs.Marks.{statement_lines}
use Rattle.py_syntax.specs.Prediction.{outside, predicted, possible}
use Rattle.py_syntax.specs.Tree as T
use Rattle.py_syntax.specs.Tree.{Stmts}
use Rattle.py_syntax.proofs.Sources.{computes, var, num, items, call, line, end}

-- One-line endless loop
--  1  while True: a = 1
abbrev one_line_endless_loop : Stmts
one_line_endless_loop =
    line 1 (T.while (T.bool true) (T.suite 1 1 true (
    line 1 (T.assign (items ((var "a") ∷ [])) (num 1)) (
    end))) T.no_suite) (
    end)

one_line_endless_loop_predicted : predicted one_line_endless_loop ≡ (outside 1, pos 1) ∷ (pos 1, pos 1) ∷ []
unfolding computes
one_line_endless_loop_predicted = refl

one_line_endless_loop_possible : possible one_line_endless_loop ≡ (outside 1, pos 1) ∷ (pos 1, outside 1) ∷ (pos 1, pos 1) ∷ []
unfolding computes
one_line_endless_loop_possible = refl

one_line_endless_loop_lines : statement_lines one_line_endless_loop ≡ 1 ∷ []
unfolding computes
one_line_endless_loop_lines = refl

-- While 1
--  1  while 1:
--  2      if a:
--  3          break
--  4  print(1)
abbrev while_1 : Stmts
while_1 =
    line 1 (T.while (num 1) (T.suite 1 1 false (
    line 2 (T.if' (T.arm (var "a") (T.suite 2 2 false (
    line 3 T.break (
    end))) T.no_arms) T.no_suite) (
    end))) T.no_suite) (
    line 4 (T.expr (call (var "print") ((num 1) ∷ []))) (
    end))

while_1_predicted : predicted while_1 ≡ (outside 1, pos 1) ∷ (pos 1, pos 2) ∷ (pos 2, pos 1) ∷ (pos 2, pos 3) ∷ (pos 3, pos 4) ∷ (pos 4, outside 1) ∷ []
unfolding computes
while_1_predicted = refl

while_1_possible : possible while_1 ≡ (outside 1, pos 1) ∷ (pos 1, outside 1) ∷ (pos 1, pos 2) ∷ (pos 2, outside 1) ∷ (pos 2, pos 1) ∷ (pos 2, pos 3) ∷ (pos 3, outside 1) ∷ (pos 3, pos 4) ∷ (pos 4, outside 1) ∷ []
unfolding computes
while_1_possible = refl

while_1_lines : statement_lines while_1 ≡ 1 ∷ 2 ∷ 3 ∷ 4 ∷ []
unfolding computes
while_1_lines = refl

-- While 0
--  1  while 0:
--  2      a = 1
--  3  print(1)
abbrev while_0 : Stmts
while_0 =
    line 1 (T.while (num 0) (T.suite 1 1 false (
    line 2 (T.assign (items ((var "a") ∷ [])) (num 1)) (
    end))) T.no_suite) (
    line 3 (T.expr (call (var "print") ((num 1) ∷ []))) (
    end))

while_0_predicted : predicted while_0 ≡ (outside 1, pos 1) ∷ (pos 1, pos 2) ∷ (pos 1, pos 3) ∷ (pos 2, pos 1) ∷ (pos 3, outside 1) ∷ []
unfolding computes
while_0_predicted = refl

while_0_possible : possible while_0 ≡ (outside 1, pos 1) ∷ (pos 1, outside 1) ∷ (pos 1, pos 2) ∷ (pos 1, pos 3) ∷ (pos 2, outside 1) ∷ (pos 2, pos 1) ∷ (pos 3, outside 1) ∷ []
unfolding computes
while_0_possible = refl

while_0_lines : statement_lines while_0 ≡ 1 ∷ 2 ∷ 3 ∷ []
unfolding computes
while_0_lines = refl

-- While True in parentheses
--  1  while (True):
--  2      a = 1
--  3  print(1)
abbrev while_true_in_parentheses : Stmts
while_true_in_parentheses =
    line 1 (T.while (T.paren (T.bool true)) (T.suite 1 1 false (
    line 2 (T.assign (items ((var "a") ∷ [])) (num 1)) (
    end))) T.no_suite) (
    line 3 (T.expr (call (var "print") ((num 1) ∷ []))) (
    end))

while_true_in_parentheses_predicted : predicted while_true_in_parentheses ≡ (outside 1, pos 1) ∷ (pos 1, pos 2) ∷ (pos 1, pos 3) ∷ (pos 2, pos 1) ∷ (pos 3, outside 1) ∷ []
unfolding computes
while_true_in_parentheses_predicted = refl

while_true_in_parentheses_possible : possible while_true_in_parentheses ≡ (outside 1, pos 1) ∷ (pos 1, outside 1) ∷ (pos 1, pos 2) ∷ (pos 1, pos 3) ∷ (pos 2, outside 1) ∷ (pos 2, pos 1) ∷ (pos 3, outside 1) ∷ []
unfolding computes
while_true_in_parentheses_possible = refl

while_true_in_parentheses_lines : statement_lines while_true_in_parentheses ≡ 1 ∷ 2 ∷ 3 ∷ []
unfolding computes
while_true_in_parentheses_lines = refl

-- While False
--  1  while False:
--  2      a = 1
--  3  print(1)
abbrev while_false : Stmts
while_false =
    line 1 (T.while (T.bool false) (T.suite 1 1 false (
    line 2 (T.assign (items ((var "a") ∷ [])) (num 1)) (
    end))) T.no_suite) (
    line 3 (T.expr (call (var "print") ((num 1) ∷ []))) (
    end))

while_false_predicted : predicted while_false ≡ (outside 1, pos 1) ∷ (pos 1, pos 2) ∷ (pos 1, pos 3) ∷ (pos 2, pos 1) ∷ (pos 3, outside 1) ∷ []
unfolding computes
while_false_predicted = refl

while_false_possible : possible while_false ≡ (outside 1, pos 1) ∷ (pos 1, outside 1) ∷ (pos 1, pos 2) ∷ (pos 1, pos 3) ∷ (pos 2, outside 1) ∷ (pos 2, pos 1) ∷ (pos 3, outside 1) ∷ []
unfolding computes
while_false_possible = refl

while_false_lines : statement_lines while_false ≡ 1 ∷ 2 ∷ 3 ∷ []
unfolding computes
while_false_lines = refl

-- Endless loop with else
--  1  while True:
--  2      if a:
--  3          break
--  4  else:
--  5      b = 1
--  6  print(1)
abbrev endless_loop_with_else : Stmts
endless_loop_with_else =
    line 1 (T.while (T.bool true) (T.suite 1 1 false (
    line 2 (T.if' (T.arm (var "a") (T.suite 2 2 false (
    line 3 T.break (
    end))) T.no_arms) T.no_suite) (
    end))) (T.has_suite (T.suite 4 4 false (
    line 5 (T.assign (items ((var "b") ∷ [])) (num 1)) (
    end))))) (
    line 6 (T.expr (call (var "print") ((num 1) ∷ []))) (
    end))

endless_loop_with_else_predicted : predicted endless_loop_with_else ≡ (outside 1, pos 1) ∷ (pos 1, pos 2) ∷ (pos 2, pos 1) ∷ (pos 2, pos 3) ∷ (pos 3, pos 6) ∷ (pos 5, pos 6) ∷ (pos 6, outside 1) ∷ []
unfolding computes
endless_loop_with_else_predicted = refl

endless_loop_with_else_possible : possible endless_loop_with_else ≡ (outside 1, pos 1) ∷ (pos 1, outside 1) ∷ (pos 1, pos 2) ∷ (pos 2, outside 1) ∷ (pos 2, pos 1) ∷ (pos 2, pos 3) ∷ (pos 3, outside 1) ∷ (pos 3, pos 6) ∷ (pos 5, outside 1) ∷ (pos 5, pos 6) ∷ (pos 6, outside 1) ∷ []
unfolding computes
endless_loop_with_else_possible = refl

endless_loop_with_else_lines : statement_lines endless_loop_with_else ≡ 1 ∷ 2 ∷ 3 ∷ 5 ∷ 6 ∷ []
unfolding computes
endless_loop_with_else_lines = refl

-- Break, continue and else
--  1  while a:
--  2      if b:
--  3          break
--  4      if c:
--  5          continue
--  6      d = 1
--  7  else:
--  8      e = 1
--  9  print(1)
abbrev break_continue_and_else : Stmts
break_continue_and_else =
    line 1 (T.while (var "a") (T.suite 1 1 false (
    line 2 (T.if' (T.arm (var "b") (T.suite 2 2 false (
    line 3 T.break (
    end))) T.no_arms) T.no_suite) (
    line 4 (T.if' (T.arm (var "c") (T.suite 4 4 false (
    line 5 T.continue (
    end))) T.no_arms) T.no_suite) (
    line 6 (T.assign (items ((var "d") ∷ [])) (num 1)) (
    end))))) (T.has_suite (T.suite 7 7 false (
    line 8 (T.assign (items ((var "e") ∷ [])) (num 1)) (
    end))))) (
    line 9 (T.expr (call (var "print") ((num 1) ∷ []))) (
    end))

break_continue_and_else_predicted : predicted break_continue_and_else ≡ (outside 1, pos 1) ∷ (pos 1, pos 2) ∷ (pos 1, pos 8) ∷ (pos 2, pos 3) ∷ (pos 2, pos 4) ∷ (pos 3, pos 9) ∷ (pos 4, pos 5) ∷ (pos 4, pos 6) ∷ (pos 5, pos 1) ∷ (pos 6, pos 1) ∷ (pos 8, pos 9) ∷ (pos 9, outside 1) ∷ []
unfolding computes
break_continue_and_else_predicted = refl

break_continue_and_else_possible : possible break_continue_and_else ≡ (outside 1, pos 1) ∷ (pos 1, outside 1) ∷ (pos 1, pos 2) ∷ (pos 1, pos 8) ∷ (pos 2, outside 1) ∷ (pos 2, pos 3) ∷ (pos 2, pos 4) ∷ (pos 3, outside 1) ∷ (pos 3, pos 9) ∷ (pos 4, outside 1) ∷ (pos 4, pos 5) ∷ (pos 4, pos 6) ∷ (pos 5, outside 1) ∷ (pos 5, pos 1) ∷ (pos 6, outside 1) ∷ (pos 6, pos 1) ∷ (pos 8, outside 1) ∷ (pos 8, pos 9) ∷ (pos 9, outside 1) ∷ []
unfolding computes
break_continue_and_else_possible = refl

break_continue_and_else_lines : statement_lines break_continue_and_else ≡ 1 ∷ 2 ∷ 3 ∷ 4 ∷ 5 ∷ 6 ∷ 8 ∷ 9 ∷ []
unfolding computes
break_continue_and_else_lines = refl

-- For and else of one line
--  1  for k in a: b = k
--  2  else: c = 1
--  3  print(1)
abbrev for_and_else_of_one_line : Stmts
for_and_else_of_one_line =
    line 1 (T.for (var "k") (var "a") (T.suite 1 1 true (
    line 1 (T.assign (items ((var "b") ∷ [])) (var "k")) (
    end))) (T.has_suite (T.suite 2 2 true (
    line 2 (T.assign (items ((var "c") ∷ [])) (num 1)) (
    end))))) (
    line 3 (T.expr (call (var "print") ((num 1) ∷ []))) (
    end))

for_and_else_of_one_line_predicted : predicted for_and_else_of_one_line ≡ (outside 1, pos 1) ∷ (pos 1, pos 1) ∷ (pos 1, pos 2) ∷ (pos 2, pos 3) ∷ (pos 3, outside 1) ∷ []
unfolding computes
for_and_else_of_one_line_predicted = refl

for_and_else_of_one_line_possible : possible for_and_else_of_one_line ≡ (outside 1, pos 1) ∷ (pos 1, outside 1) ∷ (pos 1, pos 1) ∷ (pos 1, pos 2) ∷ (pos 2, outside 1) ∷ (pos 2, pos 3) ∷ (pos 3, outside 1) ∷ []
unfolding computes
for_and_else_of_one_line_possible = refl

for_and_else_of_one_line_lines : statement_lines for_and_else_of_one_line ≡ 1 ∷ 2 ∷ 3 ∷ []
unfolding computes
for_and_else_of_one_line_lines = refl

-- Break in the else of a loop
--  1  while a:
--  2      while b:
--  3          c = 1
--  4      else:
--  5          break
--  6      d = 1
--  7  print(1)
abbrev break_in_the_else_of_a_loop : Stmts
break_in_the_else_of_a_loop =
    line 1 (T.while (var "a") (T.suite 1 1 false (
    line 2 (T.while (var "b") (T.suite 2 2 false (
    line 3 (T.assign (items ((var "c") ∷ [])) (num 1)) (
    end))) (T.has_suite (T.suite 4 4 false (
    line 5 T.break (
    end))))) (
    line 6 (T.assign (items ((var "d") ∷ [])) (num 1)) (
    end)))) T.no_suite) (
    line 7 (T.expr (call (var "print") ((num 1) ∷ []))) (
    end))

break_in_the_else_of_a_loop_predicted : predicted break_in_the_else_of_a_loop ≡ (outside 1, pos 1) ∷ (pos 1, pos 2) ∷ (pos 1, pos 7) ∷ (pos 2, pos 3) ∷ (pos 2, pos 5) ∷ (pos 3, pos 2) ∷ (pos 5, pos 7) ∷ (pos 6, pos 1) ∷ (pos 7, outside 1) ∷ []
unfolding computes
break_in_the_else_of_a_loop_predicted = refl

break_in_the_else_of_a_loop_possible : possible break_in_the_else_of_a_loop ≡ (outside 1, pos 1) ∷ (pos 1, outside 1) ∷ (pos 1, pos 2) ∷ (pos 1, pos 7) ∷ (pos 2, outside 1) ∷ (pos 2, pos 3) ∷ (pos 2, pos 5) ∷ (pos 3, outside 1) ∷ (pos 3, pos 2) ∷ (pos 5, outside 1) ∷ (pos 5, pos 7) ∷ (pos 6, outside 1) ∷ (pos 6, pos 1) ∷ (pos 7, outside 1) ∷ []
unfolding computes
break_in_the_else_of_a_loop_possible = refl

break_in_the_else_of_a_loop_lines : statement_lines break_in_the_else_of_a_loop ≡ 1 ∷ 2 ∷ 3 ∷ 5 ∷ 6 ∷ 7 ∷ []
unfolding computes
break_in_the_else_of_a_loop_lines = refl

-- Try in the else of a loop
--  1  for k in a:
--  2      try:
--  3          b = 1
--  4      finally:
--  5          c = 1
--  6  else:
--  7      try:
--  8          d = 1
--  9      except KeyError:
--  10          e = 1
--  11  print(1)
abbrev try_in_the_else_of_a_loop : Stmts
try_in_the_else_of_a_loop =
    line 1 (T.for (var "k") (var "a") (T.suite 1 1 false (
    line 2 (T.try (T.suite 2 2 false (
    line 3 (T.assign (items ((var "b") ∷ [])) (num 1)) (
    end))) T.no_clauses T.no_suite (T.has_suite (T.suite 4 4 false (
    line 5 (T.assign (items ((var "c") ∷ [])) (num 1)) (
    end))))) (
    end))) (T.has_suite (T.suite 6 6 false (
    line 7 (T.try (T.suite 7 7 false (
    line 8 (T.assign (items ((var "d") ∷ [])) (num 1)) (
    end))) (T.clause (Some (var "KeyError")) None (T.suite 9 9 false (
    line 10 (T.assign (items ((var "e") ∷ [])) (num 1)) (
    end))) T.no_clauses) T.no_suite T.no_suite) (
    end))))) (
    line 11 (T.expr (call (var "print") ((num 1) ∷ []))) (
    end))

try_in_the_else_of_a_loop_predicted : predicted try_in_the_else_of_a_loop ≡ (outside 1, pos 1) ∷ (pos 1, pos 2) ∷ (pos 1, pos 7) ∷ (pos 2, pos 3) ∷ (pos 3, pos 5) ∷ (pos 5, pos 1) ∷ (pos 7, pos 8) ∷ (pos 8, pos 11) ∷ (pos 9, pos 10) ∷ (pos 10, pos 11) ∷ (pos 11, outside 1) ∷ []
unfolding computes
try_in_the_else_of_a_loop_predicted = refl

try_in_the_else_of_a_loop_possible : possible try_in_the_else_of_a_loop ≡ (outside 1, pos 1) ∷ (pos 1, outside 1) ∷ (pos 1, pos 2) ∷ (pos 1, pos 7) ∷ (pos 2, outside 1) ∷ (pos 2, pos 3) ∷ (pos 3, pos 5) ∷ (pos 5, outside 1) ∷ (pos 5, pos 1) ∷ (pos 7, outside 1) ∷ (pos 7, pos 8) ∷ (pos 8, pos 9) ∷ (pos 8, pos 11) ∷ (pos 9, outside 1) ∷ (pos 9, pos 10) ∷ (pos 10, outside 1) ∷ (pos 10, pos 11) ∷ (pos 11, outside 1) ∷ []
unfolding computes
try_in_the_else_of_a_loop_possible = refl

try_in_the_else_of_a_loop_lines : statement_lines try_in_the_else_of_a_loop ≡ 1 ∷ 2 ∷ 3 ∷ 5 ∷ 7 ∷ 8 ∷ 9 ∷ 10 ∷ 11 ∷ []
unfolding computes
try_in_the_else_of_a_loop_lines = refl

-- Function in a loop
--  1  for k in a:
--  2      def f():
--  3          return k
--  4      f()
abbrev function_in_a_loop : Stmts
function_in_a_loop =
    line 1 (T.for (var "k") (var "a") (T.suite 1 1 false (
    line 2 (T.def (codes "f") [] (items []) false (T.suite 2 2 false (
    line 3 (T.return (Some (var "k"))) (
    end)))) (
    line 4 (T.expr (call (var "f") [])) (
    end)))) T.no_suite) (
    end)

function_in_a_loop_predicted : predicted function_in_a_loop ≡ (outside 2, pos 3) ∷ (outside 1, pos 1) ∷ (pos 1, outside 1) ∷ (pos 1, pos 2) ∷ (pos 2, pos 4) ∷ (pos 3, outside 2) ∷ (pos 4, pos 1) ∷ []
unfolding computes
function_in_a_loop_predicted = refl

function_in_a_loop_possible : possible function_in_a_loop ≡ (outside 2, pos 3) ∷ (outside 1, pos 1) ∷ (pos 1, outside 1) ∷ (pos 1, pos 2) ∷ (pos 2, outside 1) ∷ (pos 2, pos 4) ∷ (pos 3, outside 2) ∷ (pos 4, outside 1) ∷ (pos 4, pos 1) ∷ []
unfolding computes
function_in_a_loop_possible = refl

function_in_a_loop_lines : statement_lines function_in_a_loop ≡ 1 ∷ 2 ∷ 3 ∷ 4 ∷ []
unfolding computes
function_in_a_loop_lines = refl
