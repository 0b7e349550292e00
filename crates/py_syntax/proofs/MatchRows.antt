-- Prediction, computed: cases.
use Rattle.std.proofs.Common.{◌≡◌, true, false, Some, None, pos, [], ◌∷◌, refl}
use Rattle.std.specs.Prelude.{codes}
use Rattle.py_syntax.specs.Marks.{statement_lines}
use Rattle.py_syntax.specs.Prediction.{outside, predicted, possible}
use Rattle.py_syntax.specs.Tree as T
use Rattle.py_syntax.specs.Tree.{Stmts}
use Rattle.py_syntax.proofs.Sources.{computes, var, num, items, call, alternatives, line, end}

-- Match of a name
--  1  match a:
--  2      case 1:
--  3          b = 1
--  4      case 2 | 3 as c:
--  5          b = 2
--  6      case c:
--  7          b = 3
--  8  print(b)
abbrev match_of_a_name : Stmts
match_of_a_name =
    line 1 (T.match (var "a") 1 (T.case (T.literal false (T.c_int (pos 1))) None (T.suite 2 2 false (
    line 3 (T.assign (items ((var "b") ∷ [])) (num 1)) (
    end))) (T.case (T.p_as (T.p_or (alternatives ((T.literal false (T.c_int (pos 2))) ∷ (T.literal false (T.c_int (pos 3))) ∷ []))) (codes "c")) None (T.suite 4 4 false (
    line 5 (T.assign (items ((var "b") ∷ [])) (num 2)) (
    end))) (T.case (T.capture (codes "c")) None (T.suite 6 6 false (
    line 7 (T.assign (items ((var "b") ∷ [])) (num 3)) (
    end))) T.no_cases)))) (
    line 8 (T.expr (call (var "print") ((var "b") ∷ []))) (
    end))

match_of_a_name_predicted : predicted match_of_a_name ≡ (outside 1, pos 1) ∷ (pos 1, pos 2) ∷ (pos 2, pos 3) ∷ (pos 2, pos 4) ∷ (pos 3, pos 8) ∷ (pos 4, pos 5) ∷ (pos 4, pos 6) ∷ (pos 5, pos 8) ∷ (pos 6, pos 7) ∷ (pos 7, pos 8) ∷ (pos 8, outside 1) ∷ []
unfolding computes
match_of_a_name_predicted = refl

match_of_a_name_possible : possible match_of_a_name ≡ (outside 1, pos 1) ∷ (pos 1, outside 1) ∷ (pos 1, pos 2) ∷ (pos 2, outside 1) ∷ (pos 2, pos 3) ∷ (pos 2, pos 4) ∷ (pos 3, outside 1) ∷ (pos 3, pos 8) ∷ (pos 4, outside 1) ∷ (pos 4, pos 5) ∷ (pos 4, pos 6) ∷ (pos 5, outside 1) ∷ (pos 5, pos 8) ∷ (pos 6, outside 1) ∷ (pos 6, pos 7) ∷ (pos 7, outside 1) ∷ (pos 7, pos 8) ∷ (pos 8, outside 1) ∷ []
unfolding computes
match_of_a_name_possible = refl

match_of_a_name_lines : statement_lines match_of_a_name ≡ 1 ∷ 2 ∷ 3 ∷ 4 ∷ 5 ∷ 6 ∷ 7 ∷ 8 ∷ []
unfolding computes
match_of_a_name_lines = refl

-- Match past its cases
--  1  match a:
--  2      case 1 if b:
--  3          c = 1
--  4      case d if d:
--  5          c = 2
--  6  print(c)
abbrev match_past_its_cases : Stmts
match_past_its_cases =
    line 1 (T.match (var "a") 1 (T.case (T.literal false (T.c_int (pos 1))) (Some (var "b")) (T.suite 2 2 false (
    line 3 (T.assign (items ((var "c") ∷ [])) (num 1)) (
    end))) (T.case (T.capture (codes "d")) (Some (var "d")) (T.suite 4 4 false (
    line 5 (T.assign (items ((var "c") ∷ [])) (num 2)) (
    end))) T.no_cases))) (
    line 6 (T.expr (call (var "print") ((var "c") ∷ []))) (
    end))

match_past_its_cases_predicted : predicted match_past_its_cases ≡ (outside 1, pos 1) ∷ (pos 1, pos 2) ∷ (pos 2, pos 3) ∷ (pos 2, pos 4) ∷ (pos 3, pos 6) ∷ (pos 4, pos 5) ∷ (pos 4, pos 6) ∷ (pos 5, pos 6) ∷ (pos 6, outside 1) ∷ []
unfolding computes
match_past_its_cases_predicted = refl

match_past_its_cases_possible : possible match_past_its_cases ≡ (outside 1, pos 1) ∷ (pos 1, outside 1) ∷ (pos 1, pos 2) ∷ (pos 2, outside 1) ∷ (pos 2, pos 3) ∷ (pos 2, pos 4) ∷ (pos 3, outside 1) ∷ (pos 3, pos 6) ∷ (pos 4, outside 1) ∷ (pos 4, pos 5) ∷ (pos 4, pos 6) ∷ (pos 5, outside 1) ∷ (pos 5, pos 6) ∷ (pos 6, outside 1) ∷ []
unfolding computes
match_past_its_cases_possible = refl

match_past_its_cases_lines : statement_lines match_past_its_cases ≡ 1 ∷ 2 ∷ 3 ∷ 4 ∷ 5 ∷ 6 ∷ []
unfolding computes
match_past_its_cases_lines = refl

-- Match of one line each
--  1  match a:
--  2      case 1: b = 1
--  3      case _: b = 2
--  4  print(b)
abbrev match_of_one_line_each : Stmts
match_of_one_line_each =
    line 1 (T.match (var "a") 1 (T.case (T.literal false (T.c_int (pos 1))) None (T.suite 2 2 true (
    line 2 (T.assign (items ((var "b") ∷ [])) (num 1)) (
    end))) (T.case T.wild None (T.suite 3 3 true (
    line 3 (T.assign (items ((var "b") ∷ [])) (num 2)) (
    end))) T.no_cases))) (
    line 4 (T.expr (call (var "print") ((var "b") ∷ []))) (
    end))

match_of_one_line_each_predicted : predicted match_of_one_line_each ≡ (outside 1, pos 1) ∷ (pos 1, pos 2) ∷ (pos 2, pos 3) ∷ (pos 2, pos 4) ∷ (pos 3, pos 4) ∷ (pos 4, outside 1) ∷ []
unfolding computes
match_of_one_line_each_predicted = refl

match_of_one_line_each_possible : possible match_of_one_line_each ≡ (outside 1, pos 1) ∷ (pos 1, outside 1) ∷ (pos 1, pos 2) ∷ (pos 2, outside 1) ∷ (pos 2, pos 3) ∷ (pos 2, pos 4) ∷ (pos 3, outside 1) ∷ (pos 3, pos 4) ∷ (pos 4, outside 1) ∷ []
unfolding computes
match_of_one_line_each_possible = refl

match_of_one_line_each_lines : statement_lines match_of_one_line_each ≡ 1 ∷ 2 ∷ 3 ∷ 4 ∷ []
unfolding computes
match_of_one_line_each_lines = refl

-- Match in a loop
--  1  for k in a:
--  2      match k:
--  3          case 1:
--  4              continue
--  5          case _:
--  6              break
--  7  print(1)
abbrev match_in_a_loop : Stmts
match_in_a_loop =
    line 1 (T.for (var "k") (var "a") (T.suite 1 1 false (
    line 2 (T.match (var "k") 2 (T.case (T.literal false (T.c_int (pos 1))) None (T.suite 3 3 false (
    line 4 T.continue (
    end))) (T.case T.wild None (T.suite 5 5 false (
    line 6 T.break (
    end))) T.no_cases))) (
    end))) T.no_suite) (
    line 7 (T.expr (call (var "print") ((num 1) ∷ []))) (
    end))

match_in_a_loop_predicted : predicted match_in_a_loop ≡ (outside 1, pos 1) ∷ (pos 1, pos 2) ∷ (pos 1, pos 7) ∷ (pos 2, pos 3) ∷ (pos 3, pos 4) ∷ (pos 3, pos 5) ∷ (pos 4, pos 1) ∷ (pos 5, pos 6) ∷ (pos 6, pos 7) ∷ (pos 7, outside 1) ∷ []
unfolding computes
match_in_a_loop_predicted = refl

match_in_a_loop_possible : possible match_in_a_loop ≡ (outside 1, pos 1) ∷ (pos 1, outside 1) ∷ (pos 1, pos 2) ∷ (pos 1, pos 7) ∷ (pos 2, outside 1) ∷ (pos 2, pos 3) ∷ (pos 3, outside 1) ∷ (pos 3, pos 4) ∷ (pos 3, pos 5) ∷ (pos 4, outside 1) ∷ (pos 4, pos 1) ∷ (pos 5, outside 1) ∷ (pos 5, pos 6) ∷ (pos 6, outside 1) ∷ (pos 6, pos 7) ∷ (pos 7, outside 1) ∷ []
unfolding computes
match_in_a_loop_possible = refl

match_in_a_loop_lines : statement_lines match_in_a_loop ≡ 1 ∷ 2 ∷ 3 ∷ 4 ∷ 5 ∷ 6 ∷ 7 ∷ []
unfolding computes
match_in_a_loop_lines = refl
