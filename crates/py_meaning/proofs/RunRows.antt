-- Runs, computed: tests, loops and functions.
use Rattle.std.proofs.Common.{◌≡◌, true, false, [], ◌∷◌, pos, negsuc, refl}
use Rattle.std.specs.Prelude.{codes}
use Rattle.py_operator.specs.declared.operator.BinOp.TheVariants.{Add, Sub, Mul}
use Rattle.py_operator.specs.declared.operator.CmpOp.TheVariants.{Gt}
use Rattle.py_syntax.specs.declared.expr.Comparison.TheVariants.{Op}
use Rattle.py_syntax.specs.Tree as T
use Rattle.py_syntax.specs.Tree.{Stmts}
use Rattle.py_meaning.proofs.Sources.{runs, var, num, quote, items, call, list, line, end, printed, row, run_in, alone}
use Rattle.cov_event.specs.declared.event.Event.TheVariants.{Call, Line, Return}
use Rattle.py_meaning.specs.Events.{events_in}

-- First run
--  1  x = 1
--  2  if x:
--  3      print(x)
--  4  else:
--  5      print(0)
abbrev pub first_run_source : Stmts
first_run_source =
    line 1 (T.assign (items ((var "x") ∷ [])) (num 1)) (
    line 2 (T.if' (T.arm (var "x") (T.suite 2 2 false (
    line 3 (T.expr (call (var "print") ((var "x") ∷ []))) (
    end))) T.no_arms) (T.has_suite (T.suite 4 4 false (
    line 5 (T.expr (call (var "print") ((num 0) ∷ []))) (
    end))))) (
    end))

first_run : row first_run_source 100 ≡ record { out = printed ("1" ∷ []); err = []; status = 0; steps = 4; arcs = (negsuc 0, pos 1) ∷ (pos 1, pos 2) ∷ (pos 2, pos 3) ∷ (pos 3, negsuc 0) ∷ []; thrown = [] }
unfolding runs
first_run = refl

-- the same with the default budget
first_run_by_default : row first_run_source 1000000 ≡ record { out = printed ("1" ∷ []); err = []; status = 0; steps = 4; arcs = (negsuc 0, pos 1) ∷ (pos 1, pos 2) ∷ (pos 2, pos 3) ∷ (pos 3, negsuc 0) ∷ []; thrown = [] }
unfolding runs
first_run_by_default = refl

-- Empty file
--  1
abbrev pub empty_file_source : Stmts
empty_file_source =
    end

empty_file : row empty_file_source 1 ≡ record { out = []; err = []; status = 0; steps = 1; arcs = (negsuc 0, negsuc 0) ∷ []; thrown = [] }
unfolding runs
empty_file = refl

-- with no step
empty_file_cut : row empty_file_source 0 ≡ record { out = []; err = []; status = 75; steps = 0; arcs = []; thrown = [] }
unfolding runs
empty_file_cut = refl

-- Docstring alone
--  1  x = 0
--  2  def f():
--  3      """doc"""
--  4  f()
abbrev pub docstring_alone_source : Stmts
docstring_alone_source =
    line 1 (T.assign (items ((var "x") ∷ [])) (num 0)) (
    line 2 (T.def (codes "f") [] (items []) false (T.suite 2 2 false (
    line 3 (T.expr (quote "doc")) (
    end)))) (
    line 4 (T.expr (call (var "f") [])) (
    end)))

docstring_alone : row docstring_alone_source 100 ≡ record { out = []; err = []; status = 0; steps = 5; arcs = (negsuc 1, negsuc 1) ∷ (negsuc 0, pos 1) ∷ (pos 1, pos 2) ∷ (pos 2, pos 4) ∷ (pos 4, negsuc 0) ∷ []; thrown = [] }
unfolding runs
docstring_alone = refl

-- One line loop
--  1  n = 3
--  2  while n: n = n - 1
abbrev pub one_line_loop_source : Stmts
one_line_loop_source =
    line 1 (T.assign (items ((var "n") ∷ [])) (num 3)) (
    line 2 (T.while (var "n") (T.suite 2 2 true (
    line 2 (T.assign (items ((var "n") ∷ [])) (T.binary Sub (var "n") (num 1))) (
    end))) T.no_suite) (
    end))

one_line_loop : row one_line_loop_source 9 ≡ record { out = []; err = []; status = 0; steps = 9; arcs = (negsuc 0, pos 1) ∷ (pos 1, pos 2) ∷ (pos 2, negsuc 0) ∷ (pos 2, pos 2) ∷ []; thrown = [] }
unfolding runs
one_line_loop = refl

-- with one step less
one_line_loop_cut : row one_line_loop_source 8 ≡ record { out = []; err = []; status = 75; steps = 8; arcs = (negsuc 0, pos 1) ∷ (pos 1, pos 2) ∷ (pos 2, pos 2) ∷ []; thrown = [] }
unfolding runs
one_line_loop_cut = refl

-- Endless loop
--  1  while True:
--  2      pass
abbrev pub endless_loop_source : Stmts
endless_loop_source =
    line 1 (T.while (T.bool true) (T.suite 1 1 false (
    line 2 T.pass (
    end))) T.no_suite) (
    end)

endless_loop : row endless_loop_source 5 ≡ record { out = []; err = []; status = 75; steps = 5; arcs = (negsuc 0, pos 1) ∷ (pos 1, pos 2) ∷ (pos 2, pos 1) ∷ []; thrown = [] }
unfolding runs
endless_loop = refl

-- Counting loop
--  1  n = 2
--  2  while n:
--  3      n = n - 1
--  4  print(n)
abbrev pub counting_loop_source : Stmts
counting_loop_source =
    line 1 (T.assign (items ((var "n") ∷ [])) (num 2)) (
    line 2 (T.while (var "n") (T.suite 2 2 false (
    line 3 (T.assign (items ((var "n") ∷ [])) (T.binary Sub (var "n") (num 1))) (
    end))) T.no_suite) (
    line 4 (T.expr (call (var "print") ((var "n") ∷ []))) (
    end)))

counting_loop : row counting_loop_source 8 ≡ record { out = printed ("0" ∷ []); err = []; status = 0; steps = 8; arcs = (negsuc 0, pos 1) ∷ (pos 1, pos 2) ∷ (pos 2, pos 3) ∷ (pos 2, pos 4) ∷ (pos 3, pos 2) ∷ (pos 4, negsuc 0) ∷ []; thrown = [] }
unfolding runs
counting_loop = refl

-- Unset name
--  1  x = 1 + y
abbrev pub unset_name_source : Stmts
unset_name_source =
    line 1 (T.assign (items ((var "x") ∷ [])) (T.binary Add (num 1) (var "y"))) (
    end)

unset_name : row unset_name_source 100 ≡ record { out = []; err = printed ("NameError: name 'y' is not defined" ∷ []); status = 1; steps = 2; arcs = (negsuc 0, pos 1) ∷ (pos 1, negsuc 0) ∷ []; thrown = (pos 1, negsuc 0) ∷ [] }
unfolding runs
unset_name = refl

-- A list alone
--  1  x = [1]
abbrev pub a_list_alone_source : Stmts
a_list_alone_source =
    line 1 (T.assign (items ((var "x") ∷ [])) (list ((num 1) ∷ []))) (
    end)

a_list_alone : row a_list_alone_source 100 ≡ record { out = []; err = []; status = 0; steps = 2; arcs = (negsuc 0, pos 1) ∷ (pos 1, negsuc 0) ∷ []; thrown = [] }
unfolding runs
a_list_alone = refl

-- Make, of size 0
--  1  t = 0
--  2  print(t)
abbrev pub made_of_nothing_source : Stmts
made_of_nothing_source =
    line 1 (T.assign (items ((var "t") ∷ [])) (num 0)) (
    line 2 (T.expr (call (var "print") ((var "t") ∷ []))) (
    end))

made_of_nothing : row made_of_nothing_source 100 ≡ record { out = printed ("0" ∷ []); err = []; status = 0; steps = 3; arcs = (negsuc 0, pos 1) ∷ (pos 1, pos 2) ∷ (pos 2, negsuc 0) ∷ []; thrown = [] }
unfolding runs
made_of_nothing = refl

-- Make, of size 1
--  1  t = 0
--  2  while t > 5 * 10:
--  3      t = t - 7
--  4  print(t)
abbrev pub made_of_one_source : Stmts
made_of_one_source =
    line 1 (T.assign (items ((var "t") ∷ [])) (num 0)) (
    line 2 (T.while (T.compare (var "t") (T.link (Op Gt) (T.binary Mul (num 5) (num 10)) T.no_links)) (T.suite 2 2 false (
    line 3 (T.assign (items ((var "t") ∷ [])) (T.binary Sub (var "t") (num 7))) (
    end))) T.no_suite) (
    line 4 (T.expr (call (var "print") ((var "t") ∷ []))) (
    end)))

made_of_one : row made_of_one_source 100 ≡ record { out = printed ("0" ∷ []); err = []; status = 0; steps = 4; arcs = (negsuc 0, pos 1) ∷ (pos 1, pos 2) ∷ (pos 2, pos 4) ∷ (pos 4, negsuc 0) ∷ []; thrown = [] }
unfolding runs
made_of_one = refl

-- Pragma, whatever is excluded
--  1  debug = False
--  2  if debug:
--  3      print(1)
--  4  else:
--  5      print(2)
--  6  while True:
--  7      break
abbrev pub pragma_source : Stmts
pragma_source =
    line 1 (T.assign (items ((var "debug") ∷ [])) (T.bool false)) (
    line 2 (T.if' (T.arm (var "debug") (T.suite 2 2 false (
    line 3 (T.expr (call (var "print") ((num 1) ∷ []))) (
    end))) T.no_arms) (T.has_suite (T.suite 4 4 false (
    line 5 (T.expr (call (var "print") ((num 2) ∷ []))) (
    end))))) (
    line 6 (T.while (T.bool true) (T.suite 6 6 false (
    line 7 T.break (
    end))) T.no_suite) (
    end)))

pragma : row pragma_source 100 ≡ record { out = printed ("2" ∷ []); err = []; status = 0; steps = 6; arcs = (negsuc 0, pos 1) ∷ (pos 1, pos 2) ∷ (pos 2, pos 5) ∷ (pos 5, pos 6) ∷ (pos 6, pos 7) ∷ (pos 7, negsuc 0) ∷ []; thrown = [] }
unfolding runs
pragma = refl

-- Numbers
--  1  x = 0
--  2  if x:
--  3      print(x)
abbrev pub numbers_source : Stmts
numbers_source =
    line 1 (T.assign (items ((var "x") ∷ [])) (num 0)) (
    line 2 (T.if' (T.arm (var "x") (T.suite 2 2 false (
    line 3 (T.expr (call (var "print") ((var "x") ∷ []))) (
    end))) T.no_arms) T.no_suite) (
    end))

numbers : row numbers_source 100 ≡ record { out = []; err = []; status = 0; steps = 3; arcs = (negsuc 0, pos 1) ∷ (pos 1, pos 2) ∷ (pos 2, negsuc 0) ∷ []; thrown = [] }
unfolding runs
numbers = refl

-- Hook and plugin, whatever the labels
--  1  def test_a():
--  2      pass
--  3  def test_b():
--  4      pass
--  5  test_a()
--  6  test_b()
--  7  test_a()
--  8  test_b()
abbrev pub calls_of_tests_source : Stmts
calls_of_tests_source =
    line 1 (T.def (codes "test_a") [] (items []) false (T.suite 1 1 false (
    line 2 T.pass (
    end)))) (
    line 3 (T.def (codes "test_b") [] (items []) false (T.suite 3 3 false (
    line 4 T.pass (
    end)))) (
    line 5 (T.expr (call (var "test_a") [])) (
    line 6 (T.expr (call (var "test_b") [])) (
    line 7 (T.expr (call (var "test_a") [])) (
    line 8 (T.expr (call (var "test_b") [])) (
    end))))))

calls_of_tests : row calls_of_tests_source 100 ≡ record { out = []; err = []; status = 0; steps = 15; arcs = (negsuc 2, pos 4) ∷ (negsuc 0, pos 1) ∷ (negsuc 0, pos 2) ∷ (pos 1, pos 3) ∷ (pos 2, negsuc 0) ∷ (pos 3, pos 5) ∷ (pos 4, negsuc 2) ∷ (pos 5, pos 6) ∷ (pos 6, pos 7) ∷ (pos 7, pos 8) ∷ (pos 8, negsuc 0) ∷ []; thrown = [] }
unfolding runs
calls_of_tests = refl

-- the events of the first run
first_run_events : events_in (run_in (alone first_run_source) 100).items ≡ Call (record { «module» = 0; unit = 0 }) ∷ Line 1 ∷ Line 2 ∷ Line 3 ∷ Return ∷ []
unfolding runs
first_run_events = refl
