-- Runs, computed: defaults of parameters.
use Rattle.std.proofs.Common.{◌≡◌, true, false, [], ◌∷◌, Some, pos, negsuc, refl}
use Rattle.std.specs.Prelude.{codes}
use Rattle.py_operator.specs.declared.operator.BinOp.TheVariants.{Floor}
use Rattle.py_syntax.specs.Tree as T
use Rattle.py_syntax.specs.Tree.{Stmts}
use Rattle.py_meaning.proofs.Sources.{runs, var, num, items, call, attr, list, line, end, printed, row}

-- Default that raises
--  1  x = 0
--  2  def f(a=1 // x): return a
--  3  print(9)
abbrev pub default_that_raises_source : Stmts
default_that_raises_source =
    line 1 (T.assign (items ((var "x") ∷ [])) (num 0)) (
    line 2 (T.def (codes "f") (codes "a" ∷ []) (items ((T.binary Floor (num 1) (var "x")) ∷ [])) false (T.suite 2 2 true (
    line 2 (T.return (Some (var "a"))) (
    end)))) (
    line 3 (T.expr (call (var "print") ((num 9) ∷ []))) (
    end)))

default_that_raises : row default_that_raises_source 100 ≡ record { out = []; err = printed ("ZeroDivisionError: division by zero" ∷ []); status = 1; steps = 3; arcs = (negsuc 0, pos 1) ∷ (pos 1, pos 2) ∷ (pos 2, negsuc 0) ∷ []; thrown = (pos 2, negsuc 0) ∷ [] }
unfolding runs
default_that_raises = refl

-- One list of defaults
--  1  t = 0
--  2  def f(a=[]):
--  3      a.append(1)
--  4      return len(a)
--  5  print(f(), f())
abbrev pub one_list_of_defaults_source : Stmts
one_list_of_defaults_source =
    line 1 (T.assign (items ((var "t") ∷ [])) (num 0)) (
    line 2 (T.def (codes "f") (codes "a" ∷ []) (items ((list []) ∷ [])) false (T.suite 2 2 false (
    line 3 (T.expr (call (attr (var "a") "append") ((num 1) ∷ []))) (
    line 4 (T.return (Some (call (var "len") ((var "a") ∷ [])))) (
    end))))) (
    line 5 (T.expr (call (var "print") ((call (var "f") []) ∷ (call (var "f") []) ∷ []))) (
    end)))

one_list_of_defaults : row one_list_of_defaults_source 100 ≡ record { out = printed ("1 2" ∷ []); err = []; status = 0; steps = 10; arcs = (negsuc 1, pos 3) ∷ (negsuc 0, pos 1) ∷ (pos 1, pos 2) ∷ (pos 2, pos 5) ∷ (pos 3, pos 4) ∷ (pos 4, negsuc 1) ∷ (pos 5, negsuc 0) ∷ []; thrown = [] }
unfolding runs
one_list_of_defaults = refl

-- Last defaults
--  1  def f(a, b=2, c=3):
--  2      return (a, b, c)
--  3  print(f(1), f(1, 5), f(1, 5, 6))
abbrev pub last_defaults_source : Stmts
last_defaults_source =
    line 1 (T.def (codes "f") (codes "a" ∷ codes "b" ∷ codes "c" ∷ []) (items ((num 2) ∷ (num 3) ∷ [])) false (T.suite 1 1 false (
    line 2 (T.return (Some (T.paren (T.tuple (items ((var "a") ∷ (var "b") ∷ (var "c") ∷ [])) false)))) (
    end)))) (
    line 3 (T.expr (call (var "print") ((call (var "f") ((num 1) ∷ [])) ∷ (call (var "f") ((num 1) ∷ (num 5) ∷ [])) ∷ (call (var "f") ((num 1) ∷ (num 5) ∷ (num 6) ∷ [])) ∷ []))) (
    end))

last_defaults : row last_defaults_source 100 ≡ record { out = printed ("(1, 2, 3) (1, 5, 3) (1, 5, 6)" ∷ []); err = []; status = 0; steps = 9; arcs = (negsuc 0, pos 1) ∷ (negsuc 0, pos 2) ∷ (pos 1, pos 3) ∷ (pos 2, negsuc 0) ∷ (pos 3, negsuc 0) ∷ []; thrown = [] }
unfolding runs
last_defaults = refl

-- Too few values
--  1  def f(a, b=1):
--  2      return b
--  3  f()
abbrev pub too_few_values_source : Stmts
too_few_values_source =
    line 1 (T.def (codes "f") (codes "a" ∷ codes "b" ∷ []) (items ((num 1) ∷ [])) false (T.suite 1 1 false (
    line 2 (T.return (Some (var "b"))) (
    end)))) (
    line 3 (T.expr (call (var "f") [])) (
    end))

too_few_values : row too_few_values_source 100 ≡ record { out = []; err = printed ("TypeError: wrong number of arguments" ∷ []); status = 1; steps = 3; arcs = (negsuc 0, pos 1) ∷ (pos 1, pos 3) ∷ (pos 3, negsuc 0) ∷ []; thrown = (pos 3, negsuc 0) ∷ [] }
unfolding runs
too_few_values = refl
