-- Runs, computed: `match`.
use Rattle.std.proofs.Common.{◌≡◌, true, false, [], ◌∷◌, Some, None, pos, negsuc, refl}
use Rattle.std.specs.Prelude.{codes}
use Rattle.py_operator.specs.declared.operator.BinOp.TheVariants.{Floor}
use Rattle.py_syntax.specs.declared.expr.Sign.TheVariants.{Minus}
use Rattle.py_syntax.specs.declared.pattern.Brackets.TheVariants.{Round, Square}
use Rattle.py_syntax.specs.Tree as T
use Rattle.py_syntax.specs.Tree.{Stmts}
use Rattle.py_meaning.proofs.Sources.{runs, var, num, quote, items, call, list, alternatives, line, end, printed, row}

-- Match statement
--  1  def f(v):
--  2      match v:
--  3          case 0:
--  4              return 1
--  5          case [a, b] if a // b:
--  6              return 2
--  7          case _:
--  8              return 3
--  9  print(f(0), f([4, 2]), f("ab"))
-- 10  f([1, 0])
abbrev pub match_statement_source : Stmts
match_statement_source =
    line 1 (T.def (codes "f") (codes "v" ∷ []) (items []) false (T.suite 1 1 false (
    line 2 (T.match (var "v") 2 (T.case (T.literal false (T.c_int (pos 0))) None (T.suite 3 3 false (
    line 4 (T.return (Some (num 1))) (
    end))) (T.case (T.sequence Square (alternatives ((T.capture (codes "a")) ∷ (T.capture (codes "b")) ∷ [])) false) (Some (T.binary Floor (var "a") (var "b"))) (T.suite 5 5 false (
    line 6 (T.return (Some (num 2))) (
    end))) (T.case T.wild None (T.suite 7 7 false (
    line 8 (T.return (Some (num 3))) (
    end))) T.no_cases)))) (
    end)))) (
    line 9 (T.expr (call (var "print") ((call (var "f") ((num 0) ∷ [])) ∷ (call (var "f") ((list ((num 4) ∷ (num 2) ∷ [])) ∷ [])) ∷ (call (var "f") ((quote "ab") ∷ [])) ∷ []))) (
    line 10 (T.expr (call (var "f") ((list ((num 1) ∷ (num 0) ∷ [])) ∷ []))) (
    end)))

match_statement : row match_statement_source 100 ≡ record { out = printed ("1 2 3" ∷ []); err = printed ("ZeroDivisionError: division by zero" ∷ []); status = 1; steps = 23; arcs = (negsuc 0, pos 1) ∷ (negsuc 0, pos 2) ∷ (pos 1, pos 9) ∷ (pos 2, pos 3) ∷ (pos 3, pos 4) ∷ (pos 3, pos 5) ∷ (pos 4, negsuc 0) ∷ (pos 5, negsuc 0) ∷ (pos 5, pos 6) ∷ (pos 5, pos 7) ∷ (pos 6, negsuc 0) ∷ (pos 7, pos 8) ∷ (pos 8, negsuc 0) ∷ (pos 9, pos 10) ∷ (pos 10, negsuc 0) ∷ []; thrown = (pos 5, negsuc 0) ∷ (pos 10, negsuc 0) ∷ [] }
unfolding runs
match_statement = refl

-- Literals, alternatives, sequences and names
--  1  for v in [True, -1, (1, "a"), None, "b", [[2]]]:
--  2      match v:
--  3          case -1 | "b":
--  4              print("x")
--  5          case None:
--  6              print("n")
--  7          case (1, s):
--  8              print(s)
--  9          case [[y] as z]:
-- 10              print(y, z)
-- 11          case w:
-- 12              print(w)
abbrev pub patterns_source : Stmts
patterns_source =
    line 1 (T.for (var "v") (list ((T.bool true) ∷ (T.unary Minus (num 1)) ∷ (T.paren (T.tuple (items ((num 1) ∷ (quote "a") ∷ [])) false)) ∷ T.none ∷ (quote "b") ∷ (list ((list ((num 2) ∷ [])) ∷ [])) ∷ [])) (T.suite 1 1 false (
    line 2 (T.match (var "v") 2 (T.case (T.p_or (alternatives ((T.literal true (T.c_int (pos 1))) ∷ (T.literal false (T.c_str (codes "b" ∷ []))) ∷ []))) None (T.suite 3 3 false (
    line 4 (T.expr (call (var "print") ((quote "x") ∷ []))) (
    end))) (T.case (T.literal false T.c_none) None (T.suite 5 5 false (
    line 6 (T.expr (call (var "print") ((quote "n") ∷ []))) (
    end))) (T.case (T.sequence Round (alternatives ((T.literal false (T.c_int (pos 1))) ∷ (T.capture (codes "s")) ∷ [])) false) None (T.suite 7 7 false (
    line 8 (T.expr (call (var "print") ((var "s") ∷ []))) (
    end))) (T.case (T.sequence Square (alternatives ((T.p_as (T.sequence Square (alternatives ((T.capture (codes "y")) ∷ [])) false) (codes "z")) ∷ [])) false) None (T.suite 9 9 false (
    line 10 (T.expr (call (var "print") ((var "y") ∷ (var "z") ∷ []))) (
    end))) (T.case (T.capture (codes "w")) None (T.suite 11 11 false (
    line 12 (T.expr (call (var "print") ((var "w") ∷ []))) (
    end))) T.no_cases)))))) (
    end))) T.no_suite) (
    end)

patterns : row patterns_source 100 ≡ record { out = printed ("True" ∷ "x" ∷ "a" ∷ "n" ∷ "x" ∷ "2 [2]" ∷ []); err = []; status = 0; steps = 36; arcs = (negsuc 0, pos 1) ∷ (pos 1, negsuc 0) ∷ (pos 1, pos 2) ∷ (pos 2, pos 3) ∷ (pos 3, pos 4) ∷ (pos 3, pos 5) ∷ (pos 4, pos 1) ∷ (pos 5, pos 6) ∷ (pos 5, pos 7) ∷ (pos 6, pos 1) ∷ (pos 7, pos 8) ∷ (pos 7, pos 9) ∷ (pos 8, pos 1) ∷ (pos 9, pos 10) ∷ (pos 9, pos 11) ∷ (pos 10, pos 1) ∷ (pos 11, pos 12) ∷ (pos 12, pos 1) ∷ []; thrown = [] }
unfolding runs
patterns = refl
