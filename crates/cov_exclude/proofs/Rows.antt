-- Exclusion, computed: what one matched line excludes.
use Rattle.std.proofs.Common.{◌≡◌, ℕ, true, false, Some, None, pos, List, [], ◌∷◌, map, refl}
use Rattle.std.specs.Prelude.{codes}
use Rattle.py_syntax.specs.Tree as T
use Rattle.py_syntax.specs.Tree.{Stmts}
use Rattle.py_syntax.proofs.Sources.{var, num, quote, items, call, line, end}
use Rattle.cov_exclude.specs.Excluded.{excluded_lines}
use Rattle.cov_exclude.specs.NoBranch.{no_branch_lines}

-- one line after the other as the only matched one
abbrev each : (List ℕ → Stmts → List ℕ) → Stmts → List ℕ → List (List ℕ)
each lines m = map (λ l. lines (l ∷ []) m)

-- Pragma
--  1  debug = False
--  2  if debug:
--  3      print(1)
--  4  else:
--  5      print(2)
--  6  while True:
--  7      break
abbrev pragma : Stmts
pragma =
    line 1 (T.assign (items (var "debug" ∷ [])) (T.bool false)) (
    line 2 (T.if' (T.arm (var "debug") (T.suite 2 2 false (
    line 3 (T.expr (call (var "print") (num 1 ∷ []))) (
    end))) T.no_arms) (T.has_suite (T.suite 4 4 false (
    line 5 (T.expr (call (var "print") (num 2 ∷ []))) (
    end))))) (
    line 6 (T.while (T.bool true) (T.suite 6 6 false (
    line 7 T.break (
    end))) T.no_suite) (
    end)))

pragma_excluded : each excluded_lines pragma (1 ∷ 2 ∷ 3 ∷ 4 ∷ 5 ∷ 6 ∷ 7 ∷ 8 ∷ [])
    ≡ (1 ∷ []) ∷ (2 ∷ 3 ∷ []) ∷ (3 ∷ []) ∷ (5 ∷ []) ∷ (5 ∷ []) ∷ (6 ∷ 7 ∷ []) ∷ (7 ∷ []) ∷ [] ∷ []
pragma_excluded = refl

pragma_no_branch : each no_branch_lines pragma (1 ∷ 2 ∷ 3 ∷ 4 ∷ 5 ∷ 6 ∷ 7 ∷ 8 ∷ [])
    ≡ (1 ∷ []) ∷ (2 ∷ []) ∷ (3 ∷ []) ∷ [] ∷ (5 ∷ []) ∷ (6 ∷ []) ∷ (7 ∷ []) ∷ [] ∷ []
pragma_no_branch = refl

-- Headers of loops and a `try`
--  1  for a in b:
--  2      c
--  3  else:
--  4      d
--  5  try:
--  6      a
--  7  except b:
--  8      c
--  9  except:
-- 10      d
-- 11  else:
-- 12      a
-- 13  finally:
-- 14      b
abbrev loops_and_try : Stmts
loops_and_try =
    line 1 (T.for (var "a") (var "b") (T.suite 1 1 false (
    line 2 (T.expr (var "c")) (
    end))) (T.has_suite (T.suite 3 3 false (
    line 4 (T.expr (var "d")) (
    end))))) (
    line 5 (T.try (T.suite 5 5 false (
    line 6 (T.expr (var "a")) (
    end))) (T.clause (Some (var "b")) None (T.suite 7 7 false (
    line 8 (T.expr (var "c")) (
    end))) (T.clause None None (T.suite 9 9 false (
    line 10 (T.expr (var "d")) (
    end))) T.no_clauses)) (T.has_suite (T.suite 11 11 false (
    line 12 (T.expr (var "a")) (
    end)))) (T.has_suite (T.suite 13 13 false (
    line 14 (T.expr (var "b")) (
    end))))) (
    end))

loops_and_try_excluded : each excluded_lines loops_and_try (1 ∷ 3 ∷ 5 ∷ 7 ∷ 9 ∷ 11 ∷ 13 ∷ [])
    ≡ (1 ∷ 2 ∷ []) ∷ (4 ∷ []) ∷ (5 ∷ 6 ∷ []) ∷ (7 ∷ 8 ∷ []) ∷ (9 ∷ 10 ∷ []) ∷ (12 ∷ []) ∷ (14 ∷ []) ∷ []
loops_and_try_excluded = refl

loops_and_try_no_branch : each no_branch_lines loops_and_try (1 ∷ 3 ∷ 5 ∷ 7 ∷ 9 ∷ 11 ∷ 13 ∷ [])
    ≡ (1 ∷ []) ∷ [] ∷ (5 ∷ []) ∷ (7 ∷ []) ∷ (9 ∷ []) ∷ [] ∷ [] ∷ []
loops_and_try_no_branch = refl

-- Headers of a `def` and a `match`, and joined lines
--  1  def f(
--  2          a):
--  3      "text"
--  4      global b
--  5      match (
--  6              a):
--  7          case 1:
--  8              b = 1
--  9          case c:
-- 10              b = c
-- 11  print(
-- 12      f(1),
-- 13  )
-- 14  if (b or
-- 15          f):
-- 16      pass
-- 17  elif f: pass
abbrev def_and_match : Stmts
def_and_match =
    T.stmt 1 11 (T.def (codes "f") (codes "a" ∷ []) T.no_exprs false (T.suite 1 2 false (
    line 3 (T.expr (quote "text")) (
    line 4 (T.global (codes "b" ∷ [])) (
    line 5 (T.match (T.paren (var "a")) 6 (T.case (T.literal false (T.c_int (pos 1))) None (T.suite 7 7 false (
    line 8 (T.assign (items (var "b" ∷ [])) (num 1)) (
    end))) (T.case (T.capture (codes "c")) None (T.suite 9 9 false (
    line 10 (T.assign (items (var "b" ∷ [])) (var "c")) (
    end))) T.no_cases))) (
    end)))))) (record { semicolon = false; newline = false }) (
    T.stmt 11 13 (T.expr (call (var "print") (call (var "f") (num 1 ∷ []) ∷ []))) (record { semicolon = false; newline = true }) (
    line 14 (T.if' (T.arm (T.paren (T.or (var "b") (var "f"))) (T.suite 14 15 false (
    line 16 T.pass (
    end))) (T.arm (var "f") (T.suite 17 17 true (
    line 17 T.pass (
    end))) T.no_arms)) T.no_suite) (
    end)))

def_and_match_excluded : each excluded_lines def_and_match (1 ∷ 2 ∷ 3 ∷ 4 ∷ 5 ∷ 6 ∷ 7 ∷ 9 ∷ 10 ∷ 11 ∷ 12 ∷ 13 ∷ 14 ∷ 15 ∷ 17 ∷ [])
    ≡ (1 ∷ 5 ∷ 7 ∷ 8 ∷ 9 ∷ 10 ∷ []) ∷ (1 ∷ 5 ∷ 7 ∷ 8 ∷ 9 ∷ 10 ∷ []) ∷ [] ∷ [] ∷ (5 ∷ 7 ∷ 8 ∷ 9 ∷ 10 ∷ []) ∷ (5 ∷ 7 ∷ 8 ∷ 9 ∷ 10 ∷ [])
    ∷ (7 ∷ 8 ∷ []) ∷ (9 ∷ 10 ∷ []) ∷ (10 ∷ []) ∷ (11 ∷ []) ∷ (11 ∷ []) ∷ (11 ∷ []) ∷ (14 ∷ 16 ∷ []) ∷ (14 ∷ 16 ∷ []) ∷ (17 ∷ []) ∷ []
def_and_match_excluded = refl

def_and_match_no_branch : each no_branch_lines def_and_match (1 ∷ 2 ∷ 3 ∷ 4 ∷ 5 ∷ 6 ∷ 7 ∷ 9 ∷ 12 ∷ 15 ∷ 17 ∷ [])
    ≡ (1 ∷ []) ∷ (1 ∷ []) ∷ [] ∷ [] ∷ (5 ∷ []) ∷ (5 ∷ []) ∷ (7 ∷ []) ∷ (9 ∷ []) ∷ (11 ∷ []) ∷ (14 ∷ []) ∷ (17 ∷ []) ∷ []
def_and_match_no_branch = refl
