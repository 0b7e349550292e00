-- Runs, computed: values, texts and statuses.
use Rattle.std.proofs.Common.{◌≡◌, true, false, [], ◌∷◌, Some, None, refl}
use Rattle.std.specs.Prelude.{codes}
use Rattle.py_operator.specs.declared.operator.BinOp.TheVariants.{Add, Mul, Floor, Mod}
use Rattle.py_operator.specs.declared.operator.CmpOp.TheVariants.{Eq, Lt}
use Rattle.py_syntax.specs.declared.expr.Comparison.TheVariants.{Op}
use Rattle.py_syntax.specs.declared.expr.Sign.TheVariants.{Minus}
use Rattle.py_syntax.specs.Tree as T
use Rattle.py_syntax.specs.Tree.{Stmts}
use Rattle.py_meaning.proofs.Sources.{runs, var, num, quote, items, call, attr, list, line, end, printed, written, run_in, fed, alone}

-- Values of division
--  1  print(-7 // 2, -7 % 2, 7 // -2, 7 % -2)
values_of_division : written (run_in (alone (
    line 1 (T.expr (call (var "print") ((T.binary Floor (T.unary Minus (num 7)) (num 2)) ∷ (T.binary Mod (T.unary Minus (num 7)) (num 2)) ∷ (T.binary Floor (num 7) (T.unary Minus (num 2))) ∷ (T.binary Mod (num 7) (T.unary Minus (num 2))) ∷ []))) (
    end))) 1000) ≡ (printed ("-4 1 -4 -1" ∷ []), [], 0)
unfolding runs
values_of_division = refl

-- Values of tests
--  1  print(1 < 2 < 3, 0 or "a", [] and 1)
values_of_tests : written (run_in (alone (
    line 1 (T.expr (call (var "print") ((T.compare (num 1) (T.link (Op Lt) (num 2) (T.link (Op Lt) (num 3) T.no_links))) ∷ (T.or (num 0) (quote "a")) ∷ (T.and (list []) (num 1)) ∷ []))) (
    end))) 1000) ≡ (printed ("True a []" ∷ []), [], 0)
unfolding runs
values_of_tests = refl

-- Values in displays
--  1  print([1, "b", None], (1,), {"k": 2})
values_in_displays : written (run_in (alone (
    line 1 (T.expr (call (var "print") ((list ((num 1) ∷ (quote "b") ∷ T.none ∷ [])) ∷ (T.paren (T.tuple (items ((num 1) ∷ [])) true)) ∷ (T.dict (T.pair (quote "k") (num 2) T.no_pairs) false) ∷ []))) (
    end))) 1000) ≡ (printed ("[1, 'b', None] (1,) {'k': 2}" ∷ []), [], 0)
unfolding runs
values_in_displays = refl

-- Values of slices
--  1  print("abcd"[1:3], "abcd"[-1])
values_of_slices : written (run_in (alone (
    line 1 (T.expr (call (var "print") ((T.slice (quote "abcd") (T.present (num 1)) (T.present (num 3))) ∷ (T.index (quote "abcd") (T.unary Minus (num 1))) ∷ []))) (
    end))) 1000) ≡ (printed ("bc d" ∷ []), [], 0)
unfolding runs
values_of_slices = refl

-- Values too large
--  1  9223372036854775807 + 1
values_too_large : written (run_in (alone (
    line 1 (T.expr (T.binary Add (num 9223372036854775807) (num 1))) (
    end))) 1000) ≡ ([], printed ("OverflowError: integer too large" ∷ []), 1)
unfolding runs
values_too_large = refl

-- Statuses: a number
--  1  import sys
--  2  sys.exit(258)
exit_by_a_number : written (run_in (alone (
    line 1 (T.import (record { name = codes "sys"; bound = None } ∷ [])) (
    line 2 (T.expr (call (attr (var "sys") "exit") ((num 258) ∷ []))) (
    end)))) 1000) ≡ ([], [], 2)
unfolding runs
exit_by_a_number = refl

-- Statuses: no value
--  1  raise SystemExit
exit_by_itself : written (run_in (alone (
    line 1 (T.raise (Some (var "SystemExit"))) (
    end))) 1000) ≡ ([], [], 0)
unfolding runs
exit_by_itself = refl

-- Statuses: a text
--  1  import sys
--  2  sys.exit("x")
exit_by_a_text : written (run_in (alone (
    line 1 (T.import (record { name = codes "sys"; bound = None } ∷ [])) (
    line 2 (T.expr (call (attr (var "sys") "exit") ((quote "x") ∷ []))) (
    end)))) 1000) ≡ ([], printed ("x" ∷ []), 1)
unfolding runs
exit_by_a_text = refl

-- Lines of input: the second one isn't asked for
--  1  x = input(">")
--  2  print(x + "!")
abbrev pub reading_source : Stmts
reading_source =
    line 1 (T.assign (items ((var "x") ∷ [])) (call (var "input") ((quote ">") ∷ []))) (
    line 2 (T.expr (call (var "print") ((T.binary Add (var "x") (quote "!")) ∷ []))) (
    end))

reading : written (fed reading_source [] (codes "ab\ncd\n") 1000) ≡ (codes ">ab!\n", [], 0)
unfolding runs
reading = refl

left_unread : (fed reading_source [] (codes "ab\ncd\n") 1000).input ≡ codes "cd\n"
unfolding runs
left_unread = refl

-- Statuses: no input
--  1  input()
no_input : written (run_in (alone (
    line 1 (T.expr (call (var "input") [])) (
    end))) 1000) ≡ ([], printed ("EOFError: no input" ∷ []), 1)
unfolding runs
no_input = refl

-- An f-string alone
--  1  x = f"a"
an_fstring_alone : written (run_in (alone (
    line 1 (T.assign (items ((var "x") ∷ [])) (T.fstr (T.format (T.text (codes "a") T.no_parts) T.no_fragments))) (
    end))) 1000) ≡ ([], [], 0)
unfolding runs
an_fstring_alone = refl

-- Fields and braces
--  1  x = 3
--  2  print(f"{x}+{x + 1}={{{x * 2 + 1}}}")
fields_and_braces : written (run_in (alone (
    line 1 (T.assign (items ((var "x") ∷ [])) (num 3)) (
    line 2 (T.expr (call (var "print") ((T.fstr (T.format (T.field (var "x") (T.text (codes "+") (T.field (T.binary Add (var "x") (num 1)) (T.text (codes "={") (T.field (T.binary Add (T.binary Mul (var "x") (num 2)) (num 1)) (T.text (codes "}") T.no_parts)))))) T.no_fragments)) ∷ []))) (
    end)))) 1000) ≡ (printed ("3+4={7}" ∷ []), [], 0)
unfolding runs
fields_and_braces = refl

-- Neighbours of an f-string
--  1  d = {"k": [1]}
--  2  print("<" f"{d['k']}" ">")
neighbours_of_an_fstring : written (run_in (alone (
    line 1 (T.assign (items ((var "d") ∷ [])) (T.dict (T.pair (quote "k") (list ((num 1) ∷ [])) T.no_pairs) false)) (
    line 2 (T.expr (call (var "print") ((T.fstr (T.plain (codes "<") (T.format (T.field (T.index (var "d") (quote "k")) T.no_parts) (T.plain (codes ">") T.no_fragments)))) ∷ []))) (
    end)))) 1000) ≡ (printed ("<[1]>" ∷ []), [], 0)
unfolding runs
neighbours_of_an_fstring = refl

-- Targets, from left to right
--  1  a, (b, c) = 1, "xy"
--  2  l = [0, 0]
--  3  l[b == "x"], d = c, l
--  4  print(a, b, d)
targets : written (run_in (alone (
    line 1 (T.assign (items ((T.tuple (items ((var "a") ∷ (T.paren (T.tuple (items ((var "b") ∷ (var "c") ∷ [])) false)) ∷ [])) false) ∷ [])) (T.tuple (items ((num 1) ∷ (quote "xy") ∷ [])) false)) (
    line 2 (T.assign (items ((var "l") ∷ [])) (list ((num 0) ∷ (num 0) ∷ []))) (
    line 3 (T.assign (items ((T.tuple (items ((T.index (var "l") (T.compare (var "b") (T.link (Op Eq) (quote "x") T.no_links))) ∷ (var "d") ∷ [])) false) ∷ [])) (T.tuple (items ((var "c") ∷ (var "l") ∷ [])) false)) (
    line 4 (T.expr (call (var "print") ((var "a") ∷ (var "b") ∷ (var "d") ∷ []))) (
    end)))))) 1000) ≡ (printed ("1 x [0, 'y']" ∷ []), [], 0)
unfolding runs
targets = refl

-- Too few values
--  1  a, b = [1]
wrong_count : written (run_in (alone (
    line 1 (T.assign (items ((T.tuple (items ((var "a") ∷ (var "b") ∷ [])) false) ∷ [])) (list ((num 1) ∷ []))) (
    end))) 1000) ≡ ([], printed ("ValueError: wrong number of values" ∷ []), 1)
unfolding runs
wrong_count = refl

-- An augmented assignment evaluates its index once, and extends in place
--  1  def f():
--  2      print("f")
--  3      return 0
--  4  l = [1]
--  5  l[f()] += 2
--  6  m = l
--  7  m += (5,)
--  8  print(l)
augmented_once : written (run_in (alone (
    line 1 (T.def (codes "f") [] (items []) false (T.suite 1 1 false (
    line 2 (T.expr (call (var "print") ((quote "f") ∷ []))) (
    line 3 (T.return (Some (num 0))) (
    end))))) (
    line 4 (T.assign (items ((var "l") ∷ [])) (list ((num 1) ∷ []))) (
    line 5 (T.aug_assign (T.index (var "l") (call (var "f") [])) Add (num 2)) (
    line 6 (T.assign (items ((var "m") ∷ [])) (var "l")) (
    line 7 (T.aug_assign (var "m") Add (T.paren (T.tuple (items ((num 5) ∷ [])) true))) (
    line 8 (T.expr (call (var "print") ((var "l") ∷ []))) (
    end)))))))) 1000) ≡ (printed ("f" ∷ "[3, 5]" ∷ []), [], 0)
unfolding runs
augmented_once = refl

-- A chain stops at the first false comparison
--  1  def f(n):
--  2      print(n)
--  3      return n
--  4  print(f(2) < f(1) < f(3), not f(0), f(0) if 1 else f(5))
chain_stops : written (run_in (alone (
    line 1 (T.def (codes "f") (codes "n" ∷ []) (items []) false (T.suite 1 1 false (
    line 2 (T.expr (call (var "print") ((var "n") ∷ []))) (
    line 3 (T.return (Some (var "n"))) (
    end))))) (
    line 4 (T.expr (call (var "print") ((T.compare (call (var "f") ((num 2) ∷ [])) (T.link (Op Lt) (call (var "f") ((num 1) ∷ [])) (T.link (Op Lt) (call (var "f") ((num 3) ∷ [])) T.no_links))) ∷ (T.not' (call (var "f") ((num 0) ∷ []))) ∷ (T.cond (call (var "f") ((num 0) ∷ [])) (num 1) (call (var "f") ((num 5) ∷ []))) ∷ []))) (
    end)))) 1000) ≡ (printed ("2" ∷ "1" ∷ "0" ∷ "0" ∷ "False True 0" ∷ []), [], 0)
unfolding runs
chain_stops = refl

-- Methods, and an unknown one before its arguments
--  1  l = []
--  2  l.append(1)
--  3  print("a b".split(), {"k": l}.get("k"), ",".join(("a", "b")))
--  4  l.push(print(1))
methods : written (run_in (alone (
    line 1 (T.assign (items ((var "l") ∷ [])) (list [])) (
    line 2 (T.expr (call (attr (var "l") "append") ((num 1) ∷ []))) (
    line 3 (T.expr (call (var "print") ((call (attr (quote "a b") "split") []) ∷ (call (attr (T.dict (T.pair (quote "k") (var "l") T.no_pairs) false) "get") ((quote "k") ∷ [])) ∷ (call (attr (quote ",") "join") ((T.paren (T.tuple (items ((quote "a") ∷ (quote "b") ∷ [])) false)) ∷ [])) ∷ []))) (
    line 4 (T.expr (call (attr (var "l") "push") ((call (var "print") ((num 1) ∷ [])) ∷ []))) (
    end)))))) 1000) ≡ (printed ("['a', 'b'] [1] a,b" ∷ []), printed ("AttributeError: no attribute 'push'" ∷ []), 1)
unfolding runs
methods = refl

-- A dict that grows while it is walked
--  1  d = {1: 2}
--  2  for k in d:
--  3      d[k + 1] = 0
dict_of_another_length : written (run_in (alone (
    line 1 (T.assign (items ((var "d") ∷ [])) (T.dict (T.pair (num 1) (num 2) T.no_pairs) false)) (
    line 2 (T.for (var "k") (var "d") (T.suite 2 2 false (
    line 3 (T.assign (items ((T.index (var "d") (T.binary Add (var "k") (num 1))) ∷ [])) (num 0)) (
    end))) T.no_suite) (
    end)))) 1000) ≡ ([], printed ("RuntimeError: dictionary changed size during iteration" ∷ []), 1)
unfolding runs
dict_of_another_length = refl

-- A list that grows while it is walked
--  1  l = [1]
--  2  for x in l:
--  3      if x < 3:
--  4          l.append(x + 1)
--  5  print(l)
list_that_grows : written (run_in (alone (
    line 1 (T.assign (items ((var "l") ∷ [])) (list ((num 1) ∷ []))) (
    line 2 (T.for (var "x") (var "l") (T.suite 2 2 false (
    line 3 (T.if' (T.arm (T.compare (var "x") (T.link (Op Lt) (num 3) T.no_links)) (T.suite 3 3 false (
    line 4 (T.expr (call (attr (var "l") "append") ((T.binary Add (var "x") (num 1)) ∷ []))) (
    end))) T.no_arms) T.no_suite) (
    end))) T.no_suite) (
    line 5 (T.expr (call (var "print") ((var "l") ∷ []))) (
    end))))) 1000) ≡ (printed ("[1, 2, 3]" ∷ []), [], 0)
unfolding runs
list_that_grows = refl

-- Global and local names
--  1  x = 1
--  2  def f():
--  3      global x
--  4      x = 2
--  5  def g():
--  6      x = x
--  7  f()
--  8  print(x)
--  9  g()
globals_and_locals : written (run_in (alone (
    line 1 (T.assign (items ((var "x") ∷ [])) (num 1)) (
    line 2 (T.def (codes "f") [] (items []) false (T.suite 2 2 false (
    line 3 (T.global (codes "x" ∷ [])) (
    line 4 (T.assign (items ((var "x") ∷ [])) (num 2)) (
    end))))) (
    line 5 (T.def (codes "g") [] (items []) false (T.suite 5 5 false (
    line 6 (T.assign (items ((var "x") ∷ [])) (var "x")) (
    end)))) (
    line 7 (T.expr (call (var "f") [])) (
    line 8 (T.expr (call (var "print") ((var "x") ∷ []))) (
    line 9 (T.expr (call (var "g") [])) (
    end)))))))) 1000) ≡ (printed ("2" ∷ []), printed ("UnboundLocalError: local variable 'x' is not set" ∷ []), 1)
unfolding runs
globals_and_locals = refl

-- Names of built-ins
--  1  len = 3
--  2  print(len, str, ValueError)
names_of_built_ins : written (run_in (alone (
    line 1 (T.assign (items ((var "len") ∷ [])) (num 3)) (
    line 2 (T.expr (call (var "print") ((var "len") ∷ (var "str") ∷ (var "ValueError") ∷ []))) (
    end)))) 1000) ≡ (printed ("3 <built-in function str> <class 'ValueError'>" ∷ []), [], 0)
unfolding runs
names_of_built_ins = refl

-- Ranges
--  1  print(range(5), range(3, 0, -1))
ranges : written (run_in (alone (
    line 1 (T.expr (call (var "print") ((call (var "range") ((num 5) ∷ [])) ∷ (call (var "range") ((num 3) ∷ (num 0) ∷ (T.unary Minus (num 1)) ∷ [])) ∷ []))) (
    end))) 1000) ≡ (printed ("[0, 1, 2, 3, 4] [3, 2, 1]" ∷ []), [], 0)
unfolding runs
ranges = refl

-- A range of too many items
--  1  print(range(1048577))
range_of_too_many_items : written (run_in (alone (
    line 1 (T.expr (call (var "print") ((call (var "range") ((num 1048577) ∷ [])) ∷ []))) (
    end))) 1000) ≡ ([], printed ("MemoryError" ∷ []), 1)
unfolding runs
range_of_too_many_items = refl
