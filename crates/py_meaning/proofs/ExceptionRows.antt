-- Runs, computed: exceptions, handlers and `finally`.
use Rattle.std.proofs.Common.{◌≡◌, false, [], ◌∷◌, Some, None, pos, negsuc, refl}
use Rattle.std.specs.Prelude.{codes}
use Rattle.py_operator.specs.declared.operator.BinOp.TheVariants.{Floor}
use Rattle.py_operator.specs.declared.operator.CmpOp.TheVariants.{Lt}
use Rattle.py_syntax.specs.declared.expr.Comparison.TheVariants.{Op}
use Rattle.py_syntax.specs.Tree as T
use Rattle.py_syntax.specs.Tree.{Stmts}
use Rattle.py_meaning.proofs.Sources.{runs, var, num, quote, items, call, list, line, end, printed, row}

-- Two returns
--  1  v = 0
--  2  def f():
--  3      try:
--  4          return 1
--  5      finally:
--  6          return 2
--  7  print(f())
abbrev pub two_returns_source : Stmts
two_returns_source =
    line 1 (T.assign (items ((var "v") ∷ [])) (num 0)) (
    line 2 (T.def (codes "f") [] (items []) false (T.suite 2 2 false (
    line 3 (T.try (T.suite 3 3 false (
    line 4 (T.return (Some (num 1))) (
    end))) T.no_clauses T.no_suite (T.has_suite (T.suite 5 5 false (
    line 6 (T.return (Some (num 2))) (
    end))))) (
    end)))) (
    line 7 (T.expr (call (var "print") ((call (var "f") []) ∷ []))) (
    end)))

two_returns : row two_returns_source 100 ≡ record { out = printed ("2" ∷ []); err = []; status = 0; steps = 8; arcs = (negsuc 1, pos 3) ∷ (negsuc 0, pos 1) ∷ (pos 1, pos 2) ∷ (pos 2, pos 7) ∷ (pos 3, pos 4) ∷ (pos 4, pos 6) ∷ (pos 6, negsuc 1) ∷ (pos 7, negsuc 0) ∷ []; thrown = [] }
unfolding runs
two_returns = refl

-- Handlers
--  1  try:
--  2      x = 1 // 0
--  3  except KeyError:
--  4      print(1)
--  5  except ZeroDivisionError:
--  6      print(2)
--  7  print(3)
abbrev pub handlers_source : Stmts
handlers_source =
    line 1 (T.try (T.suite 1 1 false (
    line 2 (T.assign (items ((var "x") ∷ [])) (T.binary Floor (num 1) (num 0))) (
    end))) (T.clause (Some (var "KeyError")) None (T.suite 3 3 false (
    line 4 (T.expr (call (var "print") ((num 1) ∷ []))) (
    end))) (T.clause (Some (var "ZeroDivisionError")) None (T.suite 5 5 false (
    line 6 (T.expr (call (var "print") ((num 2) ∷ []))) (
    end))) T.no_clauses)) T.no_suite T.no_suite) (
    line 7 (T.expr (call (var "print") ((num 3) ∷ []))) (
    end))

handlers : row handlers_source 100 ≡ record { out = printed ("2" ∷ "3" ∷ []); err = []; status = 0; steps = 7; arcs = (negsuc 0, pos 1) ∷ (pos 1, pos 2) ∷ (pos 2, pos 3) ∷ (pos 3, pos 5) ∷ (pos 5, pos 6) ∷ (pos 6, pos 7) ∷ (pos 7, negsuc 0) ∷ []; thrown = (pos 2, pos 3) ∷ [] }
unfolding runs
handlers = refl

-- Uncaught
--  1  def g():
--  2      raise ValueError("no")
--  3  def f():
--  4      g()
--  5  f()
abbrev pub uncaught_source : Stmts
uncaught_source =
    line 1 (T.def (codes "g") [] (items []) false (T.suite 1 1 false (
    line 2 (T.raise (Some (call (var "ValueError") ((quote "no") ∷ [])))) (
    end)))) (
    line 3 (T.def (codes "f") [] (items []) false (T.suite 3 3 false (
    line 4 (T.expr (call (var "g") [])) (
    end)))) (
    line 5 (T.expr (call (var "f") [])) (
    end)))

uncaught : row uncaught_source 100 ≡ record { out = []; err = printed ("ValueError: no" ∷ []); status = 1; steps = 8; arcs = (negsuc 2, pos 4) ∷ (negsuc 0, pos 1) ∷ (negsuc 0, pos 2) ∷ (pos 1, pos 3) ∷ (pos 2, negsuc 0) ∷ (pos 3, pos 5) ∷ (pos 4, negsuc 2) ∷ (pos 5, negsuc 0) ∷ []; thrown = (pos 4, negsuc 2) ∷ (pos 5, negsuc 0) ∷ [] }
unfolding runs
uncaught = refl

-- Unset name of a clause
--  1  try:
--  2      raise KeyError("k")
--  3  except KeyError as e:
--  4      print(e)
--  5  print(e)
abbrev pub unset_name_of_a_clause_source : Stmts
unset_name_of_a_clause_source =
    line 1 (T.try (T.suite 1 1 false (
    line 2 (T.raise (Some (call (var "KeyError") ((quote "k") ∷ [])))) (
    end))) (T.clause (Some (var "KeyError")) (Some (codes "e")) (T.suite 3 3 false (
    line 4 (T.expr (call (var "print") ((var "e") ∷ []))) (
    end))) T.no_clauses) T.no_suite T.no_suite) (
    line 5 (T.expr (call (var "print") ((var "e") ∷ []))) (
    end))

unset_name_of_a_clause : row unset_name_of_a_clause_source 100 ≡ record { out = printed ("'k'" ∷ []); err = printed ("NameError: name 'e' is not defined" ∷ []); status = 1; steps = 6; arcs = (negsuc 0, pos 1) ∷ (pos 1, pos 2) ∷ (pos 2, pos 3) ∷ (pos 3, pos 4) ∷ (pos 4, pos 5) ∷ (pos 5, negsuc 0) ∷ []; thrown = (pos 5, negsuc 0) ∷ [] }
unfolding runs
unset_name_of_a_clause = refl

-- Two try in a loop
--  1  n = 0
--  2  def f():
--  3      for k in (0, 1):
--  4          try:
--  5              try:
--  6                  n // k
--  7              finally:
--  8                  print("f", k)
--  9          except ZeroDivisionError:
-- 10              continue
-- 11          else:
-- 12              return k
-- 13  print(f())
abbrev pub two_try_in_a_loop_source : Stmts
two_try_in_a_loop_source =
    line 1 (T.assign (items ((var "n") ∷ [])) (num 0)) (
    line 2 (T.def (codes "f") [] (items []) false (T.suite 2 2 false (
    line 3 (T.for (var "k") (T.paren (T.tuple (items ((num 0) ∷ (num 1) ∷ [])) false)) (T.suite 3 3 false (
    line 4 (T.try (T.suite 4 4 false (
    line 5 (T.try (T.suite 5 5 false (
    line 6 (T.expr (T.binary Floor (var "n") (var "k"))) (
    end))) T.no_clauses T.no_suite (T.has_suite (T.suite 7 7 false (
    line 8 (T.expr (call (var "print") ((quote "f") ∷ (var "k") ∷ []))) (
    end))))) (
    end))) (T.clause (Some (var "ZeroDivisionError")) None (T.suite 9 9 false (
    line 10 T.continue (
    end))) T.no_clauses) (T.has_suite (T.suite 11 11 false (
    line 12 (T.return (Some (var "k"))) (
    end)))) T.no_suite) (
    end))) T.no_suite) (
    end)))) (
    line 13 (T.expr (call (var "print") ((call (var "f") []) ∷ []))) (
    end)))

two_try_in_a_loop : row two_try_in_a_loop_source 100 ≡ record { out = printed ("f 0" ∷ "f 1" ∷ "1" ∷ []); err = []; status = 0; steps = 18; arcs = (negsuc 1, pos 3) ∷ (negsuc 0, pos 1) ∷ (pos 1, pos 2) ∷ (pos 2, pos 13) ∷ (pos 3, pos 4) ∷ (pos 4, pos 5) ∷ (pos 5, pos 6) ∷ (pos 6, pos 8) ∷ (pos 8, pos 9) ∷ (pos 8, pos 12) ∷ (pos 9, pos 10) ∷ (pos 10, pos 3) ∷ (pos 12, negsuc 1) ∷ (pos 13, negsuc 0) ∷ []; thrown = (pos 6, pos 8) ∷ (pos 8, pos 9) ∷ [] }
unfolding runs
two_try_in_a_loop = refl

-- A bare raise, a tuple of kinds, and a kind above
--  1  try:
--  2      try:
--  3          [][0]
--  4      except (KeyError, IndexError) as e:
--  5          raise
--  6  except LookupError as e:
--  7      print(e)
--  8  else:
--  9      print(0)
abbrev pub raise_again_source : Stmts
raise_again_source =
    line 1 (T.try (T.suite 1 1 false (
    line 2 (T.try (T.suite 2 2 false (
    line 3 (T.expr (T.index (list []) (num 0))) (
    end))) (T.clause (Some (T.paren (T.tuple (items ((var "KeyError") ∷ (var "IndexError") ∷ [])) false))) (Some (codes "e")) (T.suite 4 4 false (
    line 5 (T.raise None) (
    end))) T.no_clauses) T.no_suite T.no_suite) (
    end))) (T.clause (Some (var "LookupError")) (Some (codes "e")) (T.suite 6 6 false (
    line 7 (T.expr (call (var "print") ((var "e") ∷ []))) (
    end))) T.no_clauses) (T.has_suite (T.suite 8 8 false (
    line 9 (T.expr (call (var "print") ((num 0) ∷ []))) (
    end)))) T.no_suite) (
    end)

raise_again : row raise_again_source 100 ≡ record { out = printed ("list index out of range" ∷ []); err = []; status = 0; steps = 8; arcs = (negsuc 0, pos 1) ∷ (pos 1, pos 2) ∷ (pos 2, pos 3) ∷ (pos 3, pos 4) ∷ (pos 4, pos 5) ∷ (pos 5, pos 6) ∷ (pos 6, pos 7) ∷ (pos 7, negsuc 0) ∷ []; thrown = (pos 3, pos 4) ∷ [] }
unfolding runs
raise_again = refl

-- No clause matches, and `finally` runs
--  1  try:
--  2      assert 1 < 1, "a"
--  3  except KeyError:
--  4      pass
--  5  finally:
--  6      print(5)
abbrev pub no_clause_matches_source : Stmts
no_clause_matches_source =
    line 1 (T.try (T.suite 1 1 false (
    line 2 (T.assert (T.compare (num 1) (T.link (Op Lt) (num 1) T.no_links)) (Some (quote "a"))) (
    end))) (T.clause (Some (var "KeyError")) None (T.suite 3 3 false (
    line 4 T.pass (
    end))) T.no_clauses) T.no_suite (T.has_suite (T.suite 5 5 false (
    line 6 (T.expr (call (var "print") ((num 5) ∷ []))) (
    end))))) (
    end)

no_clause_matches : row no_clause_matches_source 100 ≡ record { out = printed ("5" ∷ []); err = printed ("AssertionError: a" ∷ []); status = 1; steps = 5; arcs = (negsuc 0, pos 1) ∷ (pos 1, pos 2) ∷ (pos 2, pos 3) ∷ (pos 3, pos 6) ∷ (pos 6, negsuc 0) ∷ []; thrown = (pos 2, pos 3) ∷ (pos 3, pos 6) ∷ (pos 6, negsuc 0) ∷ [] }
unfolding runs
no_clause_matches = refl

-- A clause of something else
--  1  try:
--  2      1 // 0
--  3  except (KeyError, 5):
--  4      pass
abbrev pub no_kind_source : Stmts
no_kind_source =
    line 1 (T.try (T.suite 1 1 false (
    line 2 (T.expr (T.binary Floor (num 1) (num 0))) (
    end))) (T.clause (Some (T.paren (T.tuple (items ((var "KeyError") ∷ (num 5) ∷ [])) false))) None (T.suite 3 3 false (
    line 4 T.pass (
    end))) T.no_clauses) T.no_suite T.no_suite) (
    end)

no_kind : row no_kind_source 100 ≡ record { out = []; err = printed ("TypeError: not an exception kind" ∷ []); status = 1; steps = 4; arcs = (negsuc 0, pos 1) ∷ (pos 1, pos 2) ∷ (pos 2, pos 3) ∷ (pos 3, negsuc 0) ∷ []; thrown = (pos 2, pos 3) ∷ (pos 3, negsuc 0) ∷ [] }
unfolding runs
no_kind = refl
