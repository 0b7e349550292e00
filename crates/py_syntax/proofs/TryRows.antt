-- Prediction, computed: exceptions, and `finally` round every way.
use Rattle.std.proofs.Common.{◌≡◌, false, Some, None, pos, [], ◌∷◌, refl}
use Rattle.std.specs.Prelude.{codes}
use Rattle.py_syntax.specs.Marks.{statement_lines}
use Rattle.py_syntax.specs.Prediction.{outside, predicted, possible}
use Rattle.py_syntax.specs.Tree as T
use Rattle.py_syntax.specs.Tree.{Stmts}
use Rattle.py_syntax.proofs.Sources.{computes, var, num, quote, items, call, line, end}

-- Raise in a function
--  1  def f():
--  2      raise ValueError("no")
--  3  f()
abbrev raise_in_a_function : Stmts
raise_in_a_function =
    line 1 (T.def (codes "f") [] (items []) false (T.suite 1 1 false (
    line 2 (T.raise (Some (call (var "ValueError") ((quote "no") ∷ [])))) (
    end)))) (
    line 3 (T.expr (call (var "f") [])) (
    end))

raise_in_a_function_predicted : predicted raise_in_a_function ≡ (outside 1, pos 1) ∷ (outside 1, pos 2) ∷ (pos 1, pos 3) ∷ (pos 2, outside 1) ∷ (pos 3, outside 1) ∷ []
unfolding computes
raise_in_a_function_predicted = refl

raise_in_a_function_possible : possible raise_in_a_function ≡ (outside 1, pos 1) ∷ (outside 1, pos 2) ∷ (pos 1, outside 1) ∷ (pos 1, pos 3) ∷ (pos 2, outside 1) ∷ (pos 3, outside 1) ∷ []
unfolding computes
raise_in_a_function_possible = refl

raise_in_a_function_lines : statement_lines raise_in_a_function ≡ 1 ∷ 2 ∷ 3 ∷ []
unfolding computes
raise_in_a_function_lines = refl

-- Raise in a try
--  1  try:
--  2      raise ValueError("no")
--  3  except KeyError:
--  4      a = 1
--  5  except ValueError:
--  6      a = 2
--  7  print(a)
abbrev raise_in_a_try : Stmts
raise_in_a_try =
    line 1 (T.try (T.suite 1 1 false (
    line 2 (T.raise (Some (call (var "ValueError") ((quote "no") ∷ [])))) (
    end))) (T.clause (Some (var "KeyError")) None (T.suite 3 3 false (
    line 4 (T.assign (items ((var "a") ∷ [])) (num 1)) (
    end))) (T.clause (Some (var "ValueError")) None (T.suite 5 5 false (
    line 6 (T.assign (items ((var "a") ∷ [])) (num 2)) (
    end))) T.no_clauses)) T.no_suite T.no_suite) (
    line 7 (T.expr (call (var "print") ((var "a") ∷ []))) (
    end))

raise_in_a_try_predicted : predicted raise_in_a_try ≡ (outside 1, pos 1) ∷ (pos 1, pos 2) ∷ (pos 2, pos 3) ∷ (pos 3, pos 4) ∷ (pos 3, pos 5) ∷ (pos 4, pos 7) ∷ (pos 5, pos 6) ∷ (pos 6, pos 7) ∷ (pos 7, outside 1) ∷ []
unfolding computes
raise_in_a_try_predicted = refl

raise_in_a_try_possible : possible raise_in_a_try ≡ (outside 1, pos 1) ∷ (pos 1, outside 1) ∷ (pos 1, pos 2) ∷ (pos 2, pos 3) ∷ (pos 3, outside 1) ∷ (pos 3, pos 4) ∷ (pos 3, pos 5) ∷ (pos 4, outside 1) ∷ (pos 4, pos 7) ∷ (pos 5, outside 1) ∷ (pos 5, pos 6) ∷ (pos 6, outside 1) ∷ (pos 6, pos 7) ∷ (pos 7, outside 1) ∷ []
unfolding computes
raise_in_a_try_possible = refl

raise_in_a_try_lines : statement_lines raise_in_a_try ≡ 1 ∷ 2 ∷ 3 ∷ 4 ∷ 5 ∷ 6 ∷ 7 ∷ []
unfolding computes
raise_in_a_try_lines = refl

-- Bare clause
--  1  try:
--  2      f()
--  3  except KeyError:
--  4      a = 1
--  5  except:
--  6      a = 2
--  7  print(a)
abbrev bare_clause : Stmts
bare_clause =
    line 1 (T.try (T.suite 1 1 false (
    line 2 (T.expr (call (var "f") [])) (
    end))) (T.clause (Some (var "KeyError")) None (T.suite 3 3 false (
    line 4 (T.assign (items ((var "a") ∷ [])) (num 1)) (
    end))) (T.clause None None (T.suite 5 5 false (
    line 6 (T.assign (items ((var "a") ∷ [])) (num 2)) (
    end))) T.no_clauses)) T.no_suite T.no_suite) (
    line 7 (T.expr (call (var "print") ((var "a") ∷ []))) (
    end))

bare_clause_predicted : predicted bare_clause ≡ (outside 1, pos 1) ∷ (pos 1, pos 2) ∷ (pos 2, pos 7) ∷ (pos 3, pos 4) ∷ (pos 3, pos 5) ∷ (pos 4, pos 7) ∷ (pos 5, pos 6) ∷ (pos 6, pos 7) ∷ (pos 7, outside 1) ∷ []
unfolding computes
bare_clause_predicted = refl

bare_clause_possible : possible bare_clause ≡ (outside 1, pos 1) ∷ (pos 1, outside 1) ∷ (pos 1, pos 2) ∷ (pos 2, pos 3) ∷ (pos 2, pos 7) ∷ (pos 3, outside 1) ∷ (pos 3, pos 4) ∷ (pos 3, pos 5) ∷ (pos 4, outside 1) ∷ (pos 4, pos 7) ∷ (pos 5, outside 1) ∷ (pos 5, pos 6) ∷ (pos 6, outside 1) ∷ (pos 6, pos 7) ∷ (pos 7, outside 1) ∷ []
unfolding computes
bare_clause_possible = refl

bare_clause_lines : statement_lines bare_clause ≡ 1 ∷ 2 ∷ 3 ∷ 4 ∷ 5 ∷ 6 ∷ 7 ∷ []
unfolding computes
bare_clause_lines = refl

-- Else and finally
--  1  try:
--  2      f()
--  3  except KeyError:
--  4      a = 1
--  5  else:
--  6      a = 2
--  7  finally:
--  8      b = 3
--  9  print(a)
abbrev else_and_finally : Stmts
else_and_finally =
    line 1 (T.try (T.suite 1 1 false (
    line 2 (T.expr (call (var "f") [])) (
    end))) (T.clause (Some (var "KeyError")) None (T.suite 3 3 false (
    line 4 (T.assign (items ((var "a") ∷ [])) (num 1)) (
    end))) T.no_clauses) (T.has_suite (T.suite 5 5 false (
    line 6 (T.assign (items ((var "a") ∷ [])) (num 2)) (
    end)))) (T.has_suite (T.suite 7 7 false (
    line 8 (T.assign (items ((var "b") ∷ [])) (num 3)) (
    end))))) (
    line 9 (T.expr (call (var "print") ((var "a") ∷ []))) (
    end))

else_and_finally_predicted : predicted else_and_finally ≡ (outside 1, pos 1) ∷ (pos 1, pos 2) ∷ (pos 2, pos 6) ∷ (pos 3, pos 4) ∷ (pos 4, pos 8) ∷ (pos 6, pos 8) ∷ (pos 8, pos 9) ∷ (pos 9, outside 1) ∷ []
unfolding computes
else_and_finally_predicted = refl

else_and_finally_possible : possible else_and_finally ≡ (outside 1, pos 1) ∷ (pos 1, outside 1) ∷ (pos 1, pos 2) ∷ (pos 2, pos 3) ∷ (pos 2, pos 6) ∷ (pos 3, pos 4) ∷ (pos 3, pos 8) ∷ (pos 4, pos 8) ∷ (pos 6, pos 8) ∷ (pos 8, outside 1) ∷ (pos 8, pos 9) ∷ (pos 9, outside 1) ∷ []
unfolding computes
else_and_finally_possible = refl

else_and_finally_lines : statement_lines else_and_finally ≡ 1 ∷ 2 ∷ 3 ∷ 4 ∷ 6 ∷ 8 ∷ 9 ∷ []
unfolding computes
else_and_finally_lines = refl

-- Raise in a clause
--  1  try:
--  2      f()
--  3  except KeyError:
--  4      raise
--  5  finally:
--  6      b = 1
--  7  print(b)
abbrev raise_in_a_clause : Stmts
raise_in_a_clause =
    line 1 (T.try (T.suite 1 1 false (
    line 2 (T.expr (call (var "f") [])) (
    end))) (T.clause (Some (var "KeyError")) None (T.suite 3 3 false (
    line 4 (T.raise None) (
    end))) T.no_clauses) T.no_suite (T.has_suite (T.suite 5 5 false (
    line 6 (T.assign (items ((var "b") ∷ [])) (num 1)) (
    end))))) (
    line 7 (T.expr (call (var "print") ((var "b") ∷ []))) (
    end))

raise_in_a_clause_predicted : predicted raise_in_a_clause ≡ (outside 1, pos 1) ∷ (pos 1, pos 2) ∷ (pos 2, pos 6) ∷ (pos 3, pos 4) ∷ (pos 4, pos 6) ∷ (pos 6, outside 1) ∷ (pos 6, pos 7) ∷ (pos 7, outside 1) ∷ []
unfolding computes
raise_in_a_clause_predicted = refl

raise_in_a_clause_possible : possible raise_in_a_clause ≡ (outside 1, pos 1) ∷ (pos 1, outside 1) ∷ (pos 1, pos 2) ∷ (pos 2, pos 3) ∷ (pos 2, pos 6) ∷ (pos 3, pos 4) ∷ (pos 3, pos 6) ∷ (pos 4, pos 6) ∷ (pos 6, outside 1) ∷ (pos 6, pos 7) ∷ (pos 7, outside 1) ∷ []
unfolding computes
raise_in_a_clause_possible = refl

raise_in_a_clause_lines : statement_lines raise_in_a_clause ≡ 1 ∷ 2 ∷ 3 ∷ 4 ∷ 6 ∷ 7 ∷ []
unfolding computes
raise_in_a_clause_lines = refl

-- Break through finally
--  1  while a:
--  2      try:
--  3          break
--  4      finally:
--  5          b = 1
--  6      c = 1
--  7  print(1)
abbrev break_through_finally : Stmts
break_through_finally =
    line 1 (T.while (var "a") (T.suite 1 1 false (
    line 2 (T.try (T.suite 2 2 false (
    line 3 T.break (
    end))) T.no_clauses T.no_suite (T.has_suite (T.suite 4 4 false (
    line 5 (T.assign (items ((var "b") ∷ [])) (num 1)) (
    end))))) (
    line 6 (T.assign (items ((var "c") ∷ [])) (num 1)) (
    end)))) T.no_suite) (
    line 7 (T.expr (call (var "print") ((num 1) ∷ []))) (
    end))

break_through_finally_predicted : predicted break_through_finally ≡ (outside 1, pos 1) ∷ (pos 1, pos 2) ∷ (pos 1, pos 7) ∷ (pos 2, pos 3) ∷ (pos 3, pos 5) ∷ (pos 5, pos 7) ∷ (pos 6, pos 1) ∷ (pos 7, outside 1) ∷ []
unfolding computes
break_through_finally_predicted = refl

break_through_finally_possible : possible break_through_finally ≡ (outside 1, pos 1) ∷ (pos 1, outside 1) ∷ (pos 1, pos 2) ∷ (pos 1, pos 7) ∷ (pos 2, outside 1) ∷ (pos 2, pos 3) ∷ (pos 3, pos 5) ∷ (pos 5, outside 1) ∷ (pos 5, pos 7) ∷ (pos 6, outside 1) ∷ (pos 6, pos 1) ∷ (pos 7, outside 1) ∷ []
unfolding computes
break_through_finally_possible = refl

break_through_finally_lines : statement_lines break_through_finally ≡ 1 ∷ 2 ∷ 3 ∷ 5 ∷ 6 ∷ 7 ∷ []
unfolding computes
break_through_finally_lines = refl

-- Break and return through nested finally
--  1  def f():
--  2      while a:
--  3          try:
--  4              try:
--  5                  if b:
--  6                      break
--  7                  return 1
--  8              finally:
--  9                  c = 1
--  10          finally:
--  11              d = 1
--  12          e = 1
--  13      return 2
--  14  f()
abbrev break_and_return_through_nested_finally : Stmts
break_and_return_through_nested_finally =
    line 1 (T.def (codes "f") [] (items []) false (T.suite 1 1 false (
    line 2 (T.while (var "a") (T.suite 2 2 false (
    line 3 (T.try (T.suite 3 3 false (
    line 4 (T.try (T.suite 4 4 false (
    line 5 (T.if' (T.arm (var "b") (T.suite 5 5 false (
    line 6 T.break (
    end))) T.no_arms) T.no_suite) (
    line 7 (T.return (Some (num 1))) (
    end)))) T.no_clauses T.no_suite (T.has_suite (T.suite 8 8 false (
    line 9 (T.assign (items ((var "c") ∷ [])) (num 1)) (
    end))))) (
    end))) T.no_clauses T.no_suite (T.has_suite (T.suite 10 10 false (
    line 11 (T.assign (items ((var "d") ∷ [])) (num 1)) (
    end))))) (
    line 12 (T.assign (items ((var "e") ∷ [])) (num 1)) (
    end)))) T.no_suite) (
    line 13 (T.return (Some (num 2))) (
    end))))) (
    line 14 (T.expr (call (var "f") [])) (
    end))

break_and_return_through_nested_finally_predicted : predicted break_and_return_through_nested_finally ≡ (outside 1, pos 1) ∷ (outside 1, pos 2) ∷ (pos 1, pos 14) ∷ (pos 2, pos 3) ∷ (pos 2, pos 13) ∷ (pos 3, pos 4) ∷ (pos 4, pos 5) ∷ (pos 5, pos 6) ∷ (pos 5, pos 7) ∷ (pos 6, pos 9) ∷ (pos 7, pos 9) ∷ (pos 9, pos 11) ∷ (pos 11, outside 1) ∷ (pos 11, pos 13) ∷ (pos 12, pos 2) ∷ (pos 13, outside 1) ∷ (pos 14, outside 1) ∷ []
unfolding computes
break_and_return_through_nested_finally_predicted = refl

break_and_return_through_nested_finally_possible : possible break_and_return_through_nested_finally ≡ (outside 1, pos 1) ∷ (outside 1, pos 2) ∷ (pos 1, outside 1) ∷ (pos 1, pos 14) ∷ (pos 2, outside 1) ∷ (pos 2, pos 3) ∷ (pos 2, pos 13) ∷ (pos 3, outside 1) ∷ (pos 3, pos 4) ∷ (pos 4, pos 5) ∷ (pos 4, pos 11) ∷ (pos 5, pos 6) ∷ (pos 5, pos 7) ∷ (pos 5, pos 9) ∷ (pos 6, pos 9) ∷ (pos 7, pos 9) ∷ (pos 9, pos 11) ∷ (pos 11, outside 1) ∷ (pos 11, pos 13) ∷ (pos 12, outside 1) ∷ (pos 12, pos 2) ∷ (pos 13, outside 1) ∷ (pos 14, outside 1) ∷ []
unfolding computes
break_and_return_through_nested_finally_possible = refl

break_and_return_through_nested_finally_lines : statement_lines break_and_return_through_nested_finally ≡ 1 ∷ 2 ∷ 3 ∷ 4 ∷ 5 ∷ 6 ∷ 7 ∷ 9 ∷ 11 ∷ 12 ∷ 13 ∷ 14 ∷ []
unfolding computes
break_and_return_through_nested_finally_lines = refl

-- Break in a finally
--  1  while a:
--  2      try:
--  3          raise ValueError("no")
--  4      finally:
--  5          break
--  6  print(1)
abbrev break_in_a_finally : Stmts
break_in_a_finally =
    line 1 (T.while (var "a") (T.suite 1 1 false (
    line 2 (T.try (T.suite 2 2 false (
    line 3 (T.raise (Some (call (var "ValueError") ((quote "no") ∷ [])))) (
    end))) T.no_clauses T.no_suite (T.has_suite (T.suite 4 4 false (
    line 5 T.break (
    end))))) (
    end))) T.no_suite) (
    line 6 (T.expr (call (var "print") ((num 1) ∷ []))) (
    end))

break_in_a_finally_predicted : predicted break_in_a_finally ≡ (outside 1, pos 1) ∷ (pos 1, pos 2) ∷ (pos 1, pos 6) ∷ (pos 2, pos 3) ∷ (pos 3, pos 5) ∷ (pos 5, pos 6) ∷ (pos 6, outside 1) ∷ []
unfolding computes
break_in_a_finally_predicted = refl

break_in_a_finally_possible : possible break_in_a_finally ≡ (outside 1, pos 1) ∷ (pos 1, outside 1) ∷ (pos 1, pos 2) ∷ (pos 1, pos 6) ∷ (pos 2, outside 1) ∷ (pos 2, pos 3) ∷ (pos 3, pos 5) ∷ (pos 5, outside 1) ∷ (pos 5, pos 6) ∷ (pos 6, outside 1) ∷ []
unfolding computes
break_in_a_finally_possible = refl

break_in_a_finally_lines : statement_lines break_in_a_finally ≡ 1 ∷ 2 ∷ 3 ∷ 5 ∷ 6 ∷ []
unfolding computes
break_in_a_finally_lines = refl

-- Return in a nested finally
--  1  def f():
--  2      try:
--  3          try:
--  4              a = 1
--  5          finally:
--  6              return 2
--  7      finally:
--  8          b = 1
--  9      c = 1
--  10  f()
abbrev return_in_a_nested_finally : Stmts
return_in_a_nested_finally =
    line 1 (T.def (codes "f") [] (items []) false (T.suite 1 1 false (
    line 2 (T.try (T.suite 2 2 false (
    line 3 (T.try (T.suite 3 3 false (
    line 4 (T.assign (items ((var "a") ∷ [])) (num 1)) (
    end))) T.no_clauses T.no_suite (T.has_suite (T.suite 5 5 false (
    line 6 (T.return (Some (num 2))) (
    end))))) (
    end))) T.no_clauses T.no_suite (T.has_suite (T.suite 7 7 false (
    line 8 (T.assign (items ((var "b") ∷ [])) (num 1)) (
    end))))) (
    line 9 (T.assign (items ((var "c") ∷ [])) (num 1)) (
    end))))) (
    line 10 (T.expr (call (var "f") [])) (
    end))

return_in_a_nested_finally_predicted : predicted return_in_a_nested_finally ≡ (outside 1, pos 1) ∷ (outside 1, pos 2) ∷ (pos 1, pos 10) ∷ (pos 2, pos 3) ∷ (pos 3, pos 4) ∷ (pos 4, pos 6) ∷ (pos 6, pos 8) ∷ (pos 8, outside 1) ∷ (pos 9, outside 1) ∷ (pos 10, outside 1) ∷ []
unfolding computes
return_in_a_nested_finally_predicted = refl

return_in_a_nested_finally_possible : possible return_in_a_nested_finally ≡ (outside 1, pos 1) ∷ (outside 1, pos 2) ∷ (pos 1, outside 1) ∷ (pos 1, pos 10) ∷ (pos 2, outside 1) ∷ (pos 2, pos 3) ∷ (pos 3, pos 4) ∷ (pos 3, pos 8) ∷ (pos 4, pos 6) ∷ (pos 6, pos 8) ∷ (pos 8, outside 1) ∷ (pos 9, outside 1) ∷ (pos 10, outside 1) ∷ []
unfolding computes
return_in_a_nested_finally_possible = refl

return_in_a_nested_finally_lines : statement_lines return_in_a_nested_finally ≡ 1 ∷ 2 ∷ 3 ∷ 4 ∷ 6 ∷ 8 ∷ 9 ∷ 10 ∷ []
unfolding computes
return_in_a_nested_finally_lines = refl

-- Finally of global alone
--  1  def f():
--  2      try:
--  3          return 1
--  4      finally:
--  5          global x
--  6      a = 1
--  7  f()
abbrev finally_of_global_alone : Stmts
finally_of_global_alone =
    line 1 (T.def (codes "f") [] (items []) false (T.suite 1 1 false (
    line 2 (T.try (T.suite 2 2 false (
    line 3 (T.return (Some (num 1))) (
    end))) T.no_clauses T.no_suite (T.has_suite (T.suite 4 4 false (
    line 5 (T.global (codes "x" ∷ [])) (
    end))))) (
    line 6 (T.assign (items ((var "a") ∷ [])) (num 1)) (
    end))))) (
    line 7 (T.expr (call (var "f") [])) (
    end))

finally_of_global_alone_predicted : predicted finally_of_global_alone ≡ (outside 1, pos 1) ∷ (outside 1, pos 2) ∷ (pos 1, pos 7) ∷ (pos 2, pos 3) ∷ (pos 3, outside 1) ∷ (pos 6, outside 1) ∷ (pos 7, outside 1) ∷ []
unfolding computes
finally_of_global_alone_predicted = refl

finally_of_global_alone_possible : possible finally_of_global_alone ≡ (outside 1, pos 1) ∷ (outside 1, pos 2) ∷ (pos 1, outside 1) ∷ (pos 1, pos 7) ∷ (pos 2, outside 1) ∷ (pos 2, pos 3) ∷ (pos 3, outside 1) ∷ (pos 6, outside 1) ∷ (pos 7, outside 1) ∷ []
unfolding computes
finally_of_global_alone_possible = refl

finally_of_global_alone_lines : statement_lines finally_of_global_alone ≡ 1 ∷ 2 ∷ 3 ∷ 6 ∷ 7 ∷ []
unfolding computes
finally_of_global_alone_lines = refl

-- Try of global alone
--  1  def f():
--  2      try:
--  3          global x
--  4      finally:
--  5          a = 1
--  6      b = 1
--  7  f()
abbrev try_of_global_alone : Stmts
try_of_global_alone =
    line 1 (T.def (codes "f") [] (items []) false (T.suite 1 1 false (
    line 2 (T.try (T.suite 2 2 false (
    line 3 (T.global (codes "x" ∷ [])) (
    end))) T.no_clauses T.no_suite (T.has_suite (T.suite 4 4 false (
    line 5 (T.assign (items ((var "a") ∷ [])) (num 1)) (
    end))))) (
    line 6 (T.assign (items ((var "b") ∷ [])) (num 1)) (
    end))))) (
    line 7 (T.expr (call (var "f") [])) (
    end))

try_of_global_alone_predicted : predicted try_of_global_alone ≡ (outside 1, pos 1) ∷ (outside 1, pos 2) ∷ (pos 1, pos 7) ∷ (pos 2, pos 5) ∷ (pos 5, pos 6) ∷ (pos 6, outside 1) ∷ (pos 7, outside 1) ∷ []
unfolding computes
try_of_global_alone_predicted = refl

try_of_global_alone_possible : possible try_of_global_alone ≡ (outside 1, pos 1) ∷ (outside 1, pos 2) ∷ (pos 1, outside 1) ∷ (pos 1, pos 7) ∷ (pos 2, outside 1) ∷ (pos 2, pos 5) ∷ (pos 5, outside 1) ∷ (pos 5, pos 6) ∷ (pos 6, outside 1) ∷ (pos 7, outside 1) ∷ []
unfolding computes
try_of_global_alone_possible = refl

try_of_global_alone_lines : statement_lines try_of_global_alone ≡ 1 ∷ 2 ∷ 5 ∷ 6 ∷ 7 ∷ []
unfolding computes
try_of_global_alone_lines = refl

-- Loop in a finally
--  1  def f():
--  2      try:
--  3          return 1
--  4      finally:
--  5          for k in a:
--  6              if k:
--  7                  continue
--  8              break
--  9      return 2
--  10  f()
abbrev loop_in_a_finally : Stmts
loop_in_a_finally =
    line 1 (T.def (codes "f") [] (items []) false (T.suite 1 1 false (
    line 2 (T.try (T.suite 2 2 false (
    line 3 (T.return (Some (num 1))) (
    end))) T.no_clauses T.no_suite (T.has_suite (T.suite 4 4 false (
    line 5 (T.for (var "k") (var "a") (T.suite 5 5 false (
    line 6 (T.if' (T.arm (var "k") (T.suite 6 6 false (
    line 7 T.continue (
    end))) T.no_arms) T.no_suite) (
    line 8 T.break (
    end)))) T.no_suite) (
    end))))) (
    line 9 (T.return (Some (num 2))) (
    end))))) (
    line 10 (T.expr (call (var "f") [])) (
    end))

loop_in_a_finally_predicted : predicted loop_in_a_finally ≡ (outside 1, pos 1) ∷ (outside 1, pos 2) ∷ (pos 1, pos 10) ∷ (pos 2, pos 3) ∷ (pos 3, pos 5) ∷ (pos 5, outside 1) ∷ (pos 5, pos 6) ∷ (pos 6, pos 7) ∷ (pos 6, pos 8) ∷ (pos 7, pos 5) ∷ (pos 8, outside 1) ∷ (pos 9, outside 1) ∷ (pos 10, outside 1) ∷ []
unfolding computes
loop_in_a_finally_predicted = refl

loop_in_a_finally_possible : possible loop_in_a_finally ≡ (outside 1, pos 1) ∷ (outside 1, pos 2) ∷ (pos 1, outside 1) ∷ (pos 1, pos 10) ∷ (pos 2, outside 1) ∷ (pos 2, pos 3) ∷ (pos 3, pos 5) ∷ (pos 5, outside 1) ∷ (pos 5, pos 6) ∷ (pos 6, outside 1) ∷ (pos 6, pos 7) ∷ (pos 6, pos 8) ∷ (pos 7, outside 1) ∷ (pos 7, pos 5) ∷ (pos 8, outside 1) ∷ (pos 9, outside 1) ∷ (pos 10, outside 1) ∷ []
unfolding computes
loop_in_a_finally_possible = refl

loop_in_a_finally_lines : statement_lines loop_in_a_finally ≡ 1 ∷ 2 ∷ 3 ∷ 5 ∷ 6 ∷ 7 ∷ 8 ∷ 9 ∷ 10 ∷ []
unfolding computes
loop_in_a_finally_lines = refl
