-- Runs, computed: frames on each other.
use Rattle.std.proofs.Common.{◌≡◌, false, [], ◌∷◌, refl}
use Rattle.std.specs.Prelude.{codes}
use Rattle.py_operator.specs.declared.operator.BinOp.TheVariants.{Add}
use Rattle.py_syntax.specs.Tree as T
use Rattle.py_syntax.specs.Tree.{Stmts}
use Rattle.py_meaning.proofs.Sources.{runs, var, num, items, call, line, end, printed, fed, written}

-- The 1001st frame
--  1  def f(n):
--  2      f(n + 1)
--  3  f(0)
abbrev pub endless_recursion_source : Stmts
endless_recursion_source =
    line 1 (T.def (codes "f") (codes "n" ∷ []) (items []) false (T.suite 1 1 false (
    line 2 (T.expr (call (var "f") ((T.binary Add (var "n") (num 1)) ∷ []))) (
    end)))) (
    line 3 (T.expr (call (var "f") ((num 0) ∷ []))) (
    end))

endless_recursion : written (fed endless_recursion_source [] [] 100000) ≡ ([], printed ("RecursionError: maximum recursion depth exceeded" ∷ []), 1)
unfolding runs
endless_recursion = refl
