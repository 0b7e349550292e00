-- Changed lines and selected tests, computed.
use Rattle.std.proofs.Common.{◌≡◌, ℕ, true, false, List, [], ◌∷◌, Some, None, refl}
use Rattle.std.specs.Prelude.{codes, map, pos}
use Rattle.std.specs.Fmt.{digits}
use Rattle.py_operator.specs.declared.operator.BinOp.TheVariants.{Add, Floor}
use Rattle.py_operator.specs.declared.operator.CmpOp.TheVariants.{Eq}
use Rattle.py_syntax.specs.declared.expr.Comparison.TheVariants.{Op}
use Rattle.py_syntax.specs.Tree as T
use Rattle.py_syntax.specs.Tree.{Text, Expr, Stmts}
use Rattle.py_meaning.specs.Modules.{LoadedModule}
use Rattle.py_meaning.proofs.Sources.{runs, var, num, quote, items, call, attr, line, end}
use Rattle.py_changes.specs.Changed.{changed_module}
use Rattle.py_value.specs.Plain.{none_value, int_value}
use Rattle.py_builtins.specs.Returns.{gave, cut}
use Rattle.py_changes.specs.Changes.{are_compared, changed_lines}
use Rattle.py_changes.specs.Tests.{Test, tested, reaches, is_changed, is_selected}
use Rattle.py_changes.specs.Mutants.{Marked, module_mutants}

-- `a == b`
abbrev compared : Expr → Expr → Expr
compared a b = T.compare a (T.link (Op Eq) b T.no_links)

-- calc.py:
--  1  def div(a, b):
--  2      if b == 0:
--  3          return None
--  4      return a // b
--  5
--  6  def unused(x):
--  7      return x
-- with what lines 4 and 7 return, and so many empty lines in front (0 or 1)
abbrev calc : (k1 k2 k3 k4 k6 k7 : ℕ) → Expr → Expr → Stmts
calc k1 k2 k3 k4 k6 k7 e4 e7 =
    line k1 (T.def (codes "div") (codes "a" ∷ codes "b" ∷ []) (items []) false
    (T.suite k1 k1 false (
    line k2 (T.if' (T.arm (compared (var "b") (num 0)) (T.suite k2 k2 false (
    line k3 (T.return (Some T.none)) (
    end))) T.no_arms) T.no_suite) (
    line k4 (T.return (Some e4)) (
    end))))) (
    line k6 (T.def (codes "unused") (codes "x" ∷ []) (items []) false (T.suite k6 k6 false (
    line k7 (T.return (Some e7)) (
    end)))) (
    end))

-- `a // b`
abbrev quotient : Expr
quotient = T.binary Floor (var "a") (var "b")

-- calc.py as it was
abbrev calc_old : Stmts
calc_old = calc 1 2 3 4 6 7 quotient (var "x")

-- test_calc.py:
--  1  import calc
--  2
--  3  def test_div():
--  4      assert calc.div(6, 3) == 2
--  5
--  6  if __name__ == "__main__":
--  7      test_div()
abbrev script : Stmts
script =
    line 1 (T.import (record { name = codes "calc"; bound = None } ∷ [])) (
    line 3 (T.def (codes "test_div") [] (items []) false (T.suite 3 3 false (
    line 4 (T.assert (compared (call (attr (var "calc") "div") (num 6 ∷ num 3 ∷ [])) (num 2)) None)
    (
    end)))) (
    line 6 (T.if' (T.arm (compared (var "__name__") (quote "__main__")) (T.suite 6 6 false (
    line 7 (T.expr (call (var "test_div") [])) (
    end))) T.no_arms) T.no_suite) (
    end)))

-- the script with a body
abbrev tests : Stmts → LoadedModule
tests body = record { name = codes "__tests__"; path = codes "test_calc.py"; body = body }

-- calc.py with a body
abbrev of_calc : Stmts → LoadedModule
of_calc body = record { name = codes "calc"; path = codes "calc.py"; body = body }

-- the old modules
abbrev old : List LoadedModule
old = tests script ∷ of_calc calc_old ∷ []

-- the same script, and calc.py with a body
abbrev with_calc : Stmts → List LoadedModule
with_calc body = tests script ∷ of_calc body ∷ []

-- its test
abbrev test_div : Test
test_div =
    record {
      words = codes "__tests__" ∷ [];
      import_budget = 1000;
      name = codes "test_div";
      budget = 1000;
    }

-- Change that no test reaches: line 7 of calc.py is `return x + 1`
abbrev line_7 : Stmts
line_7 = calc 1 2 3 4 6 7 quotient (T.binary Add (var "x") (num 1))

changes_line_7 : changed_module calc_old line_7 ≡ (7 ∷ [], 7 ∷ [])
unfolding runs
changes_line_7 = refl

selects_none : is_selected old (with_calc line_7) test_div ≡ false
unfolding runs
selects_none = refl

-- Change that a test reaches: line 4 is `return b // a`
abbrev line_4 : Stmts
line_4 = calc 1 2 3 4 6 7 (T.binary Floor (var "b") (var "a")) (var "x")

changes_line_4 : changed_module calc_old line_4 ≡ (4 ∷ [], 4 ∷ [])
unfolding runs
changes_line_4 = refl

selects_test_div : is_selected old (with_calc line_4) test_div ≡ true
unfolding runs
selects_test_div = refl

-- Empty line in front of calc.py
changes_all : changed_module calc_old
    (calc 2 3 4 5 7 8 quotient (var "x")) ≡ (1 ∷ 2 ∷ 3 ∷ 4 ∷ 6 ∷ 7 ∷ [], 2 ∷ 3 ∷ 4 ∷ 5 ∷ 7 ∷ 8 ∷ [])
unfolding runs
changes_all = refl

selects_after_all : is_selected old
    (with_calc (calc 2 3 4 5 7 8 quotient (var "x"))) test_div ≡ true
unfolding runs
selects_after_all = refl

-- Other modules: the new list has one more
other_modules : are_compared (tests script ∷ []) old ≡ false
unfolding runs
other_modules = refl

all_of_the_script : changed_lines (tests script ∷ []) old 0 ≡ 1 ∷ 3 ∷ 4 ∷ 6 ∷ 7 ∷ []
unfolding runs
all_of_the_script = refl

-- Module without a mark: calc.py is empty in the old list, and `x = 1` in the new one
module_without_a_mark : changed_lines (with_calc end)
    (with_calc (line 1 (T.assign (items (var "x" ∷ [])) (num 1)) end)) 0 ≡ 1 ∷ 3 ∷ 4 ∷ 6 ∷ 7 ∷ []
unfolding runs
module_without_a_mark = refl

-- Docstring that goes:
--  1  def test_a():
--  2      """d"""
-- is
--  2      print(2)
abbrev test_a : Expr → Stmts → Stmts
test_a e rest =
    line 1 (T.def (codes "test_a") [] (items []) false (T.suite 1 1 false (
    line 2 (T.expr e) rest))) end

docstring_goes : changed_module (test_a (quote "d") end)
    (test_a (call (var "print") (num 2 ∷ [])) end) ≡ (1 ∷ [], 2 ∷ 1 ∷ 2 ∷ [])
unfolding runs
docstring_goes = refl

-- with a statement after it, only what stands in the function changes
docstring_goes_before : changed_module (test_a (quote "d") (line 3 T.pass end))
    (test_a (call (var "print") (num 2 ∷ [])) (line 3 T.pass end)) ≡ (3 ∷ [], 2 ∷ 3 ∷ [])
unfolding runs
docstring_goes_before = refl

-- the test `test_a`
abbrev test_of_a : Test
test_of_a = record { words = []; import_budget = 1000; name = codes "test_a"; budget = 1000 }

selects_test_a : is_selected (tests (test_a (quote "d") end) ∷ [])
    (tests (test_a (call (var "print") (num 2 ∷ [])) end) ∷ []) test_of_a ≡ true
unfolding runs
selects_test_a = refl

-- ---- mutants of calc.py, and the line that each changes

-- what mutants change: the line of the mark, the token, and the one in its place
abbrev told : List (Marked × Stmts) → List (ℕ × (Text × Text))
told ms = map (λ x. (x.0.0, (x.0.1.old, x.0.1.new))) ms

mutants_of_calc : told (module_mutants calc_old) ≡ (2, (codes "==", codes "!="))
    ∷ (2, (codes "0", codes "1")) ∷ (4, (codes "//", codes "*")) ∷ []
unfolding digits
mutants_of_calc = refl

mutants_of_line_7 : told (module_mutants line_7) ≡ (2, (codes "==", codes "!="))
    ∷ (2, (codes "0", codes "1")) ∷ (4, (codes "//", codes "*")) ∷ (7, (codes "+", codes "-"))
    ∷ (7, (codes "1", codes "2")) ∷ []
unfolding digits
mutants_of_line_7 = refl

mutants_change_their_lines : map (λ x. changed_module line_7 x.1) (module_mutants line_7) ≡ map
    (λ x. (x.0.0 ∷ [], x.0.0 ∷ [])) (module_mutants line_7)
unfolding runs
mutants_change_their_lines = refl

-- ---- what fails without the premises of the law

-- a test that was cut: in the old version line 2 is `pass`, in the new one a docstring
abbrev cut_test : Test
cut_test = record { words = []; import_budget = 1000; name = codes "test_a"; budget = 1 }

-- its modules with `pass` in line 2
abbrev passes : List LoadedModule
passes =
    tests (line 1
    (T.def (codes "test_a") [] (items []) false (T.suite 1 1 false (line 2 T.pass end))) end) ∷ []

-- its modules with a docstring in line 2
abbrev documented : List LoadedModule
documented = tests (test_a (quote "d") end) ∷ []

cut_reaches_nothing : reaches (is_changed passes documented) 0
    (tested passes cut_test).items ≡ false
unfolding runs
cut_reaches_nothing = refl

cut_in_the_old : (tested passes cut_test).returned ≡ cut
unfolding runs
cut_in_the_old = refl

not_in_the_new : (tested documented cut_test).returned ≡ gave none_value
unfolding runs
not_in_the_new = refl

-- an `if` without a test, which no text has: in the new version it has one
abbrev testless : T.StmtKind → List LoadedModule
testless k =
    tests (line 1
    (T.def (codes "test_a") [] (items []) false
    (T.suite 1 1 false (line 2 k (line 3 (T.return (Some (num 1))) end)))) end) ∷ []

-- its modules with an `if` without a test
abbrev no_test : List LoadedModule
no_test = testless (T.if' T.no_arms T.no_suite)

-- its modules with an `if` that has one
abbrev a_test : List LoadedModule
a_test =
    testless (T.if'
    (T.arm (num 1) (T.suite 2 2 true (line 2 (T.return (Some (num 2))) end)) T.no_arms) T.no_suite)

testless_changes_nothing : changed_lines no_test a_test 0 ≡ []
unfolding runs
testless_changes_nothing = refl

one_in_the_old : (tested no_test test_of_a).returned ≡ gave (int_value (pos 1))
unfolding runs
one_in_the_old = refl

two_in_the_new : (tested a_test test_of_a).returned ≡ gave (int_value (pos 2))
unfolding runs
two_in_the_new = refl
