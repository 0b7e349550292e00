-- Rows of compiled code: the machine does what the source means.
use Rattle.std.proofs.Common.{true, false, [], ◌∷◌, Some, None, refl}
use Rattle.std.specs.Prelude.{codes}
use Rattle.py_operator.specs.declared.operator.BinOp.TheVariants.{Add, Mul, Floor, Mod}
use Rattle.py_operator.specs.declared.operator.CmpOp.TheVariants.{Eq, Lt}
use Rattle.py_syntax.specs.declared.expr.Comparison.TheVariants.{Op}
use Rattle.py_syntax.specs.declared.expr.Sign.TheVariants.{Minus}
use Rattle.py_syntax.specs.Tree as T
use Rattle.py_syntax.specs.Tree.{Stmts}
use Rattle.py_meaning.proofs.Sources.{runs, var, num, quote, items, call, attr, list, line, end, alone}
use Rattle.py_meaning.proofs.ValueRows.{reading_source}
use Rattle.py_code.proofs.Rows.{runs as machine_runs}
use Rattle.py_compile.proofs.Agreement.{Agrees}

reading : Agrees (alone reading_source) [] (codes "ab\ncd\n") 1000
unfolding runs machine_runs
reading = refl

values_of_division : Agrees (alone (
    line 1 (T.expr (call (var "print") ((T.binary Floor (T.unary Minus (num 7)) (num 2)) ∷ (T.binary Mod (T.unary Minus (num 7)) (num 2)) ∷ (T.binary Floor (num 7) (T.unary Minus (num 2))) ∷ (T.binary Mod (num 7) (T.unary Minus (num 2))) ∷ []))) (
    end))) ("a.py" ∷ []) [] 1000
unfolding runs machine_runs
values_of_division = refl

values_of_tests : Agrees (alone (
    line 1 (T.expr (call (var "print") ((T.compare (num 1) (T.link (Op Lt) (num 2) (T.link (Op Lt) (num 3) T.no_links))) ∷ (T.or (num 0) (quote "a")) ∷ (T.and (list []) (num 1)) ∷ []))) (
    end))) ("a.py" ∷ []) [] 1000
unfolding runs machine_runs
values_of_tests = refl

values_in_displays : Agrees (alone (
    line 1 (T.expr (call (var "print") ((list ((num 1) ∷ (quote "b") ∷ T.none ∷ [])) ∷ (T.paren (T.tuple (items ((num 1) ∷ [])) true)) ∷ (T.dict (T.pair (quote "k") (num 2) T.no_pairs) false) ∷ []))) (
    end))) ("a.py" ∷ []) [] 1000
unfolding runs machine_runs
values_in_displays = refl

values_of_slices : Agrees (alone (
    line 1 (T.expr (call (var "print") ((T.slice (quote "abcd") (T.present (num 1)) (T.present (num 3))) ∷ (T.index (quote "abcd") (T.unary Minus (num 1))) ∷ []))) (
    end))) ("a.py" ∷ []) [] 1000
unfolding runs machine_runs
values_of_slices = refl

values_too_large : Agrees (alone (
    line 1 (T.expr (T.binary Add (num 9223372036854775807) (num 1))) (
    end))) ("a.py" ∷ []) [] 1000
unfolding runs machine_runs
values_too_large = refl

exit_by_a_number : Agrees (alone (
    line 1 (T.import (record { name = codes "sys"; bound = None } ∷ [])) (
    line 2 (T.expr (call (attr (var "sys") "exit") ((num 258) ∷ []))) (
    end)))) ("a.py" ∷ []) [] 1000
unfolding runs machine_runs
exit_by_a_number = refl

exit_by_itself : Agrees (alone (
    line 1 (T.raise (Some (var "SystemExit"))) (
    end))) ("a.py" ∷ []) [] 1000
unfolding runs machine_runs
exit_by_itself = refl

exit_by_a_text : Agrees (alone (
    line 1 (T.import (record { name = codes "sys"; bound = None } ∷ [])) (
    line 2 (T.expr (call (attr (var "sys") "exit") ((quote "x") ∷ []))) (
    end)))) ("a.py" ∷ []) [] 1000
unfolding runs machine_runs
exit_by_a_text = refl

no_input : Agrees (alone (
    line 1 (T.expr (call (var "input") [])) (
    end))) ("a.py" ∷ []) [] 1000
unfolding runs machine_runs
no_input = refl

an_fstring_alone : Agrees (alone (
    line 1 (T.assign (items ((var "x") ∷ [])) (T.fstr (T.format (T.text (codes "a") T.no_parts) T.no_fragments))) (
    end))) ("a.py" ∷ []) [] 1000
unfolding runs machine_runs
an_fstring_alone = refl

fields_and_braces : Agrees (alone (
    line 1 (T.assign (items ((var "x") ∷ [])) (num 3)) (
    line 2 (T.expr (call (var "print") ((T.fstr (T.format (T.field (var "x") (T.text (codes "+") (T.field (T.binary Add (var "x") (num 1)) (T.text (codes "={") (T.field (T.binary Add (T.binary Mul (var "x") (num 2)) (num 1)) (T.text (codes "}") T.no_parts)))))) T.no_fragments)) ∷ []))) (
    end)))) ("a.py" ∷ []) [] 1000
unfolding runs machine_runs
fields_and_braces = refl

neighbours_of_an_fstring : Agrees (alone (
    line 1 (T.assign (items ((var "d") ∷ [])) (T.dict (T.pair (quote "k") (list ((num 1) ∷ [])) T.no_pairs) false)) (
    line 2 (T.expr (call (var "print") ((T.fstr (T.plain (codes "<") (T.format (T.field (T.index (var "d") (quote "k")) T.no_parts) (T.plain (codes ">") T.no_fragments)))) ∷ []))) (
    end)))) ("a.py" ∷ []) [] 1000
unfolding runs machine_runs
neighbours_of_an_fstring = refl

targets : Agrees (alone (
    line 1 (T.assign (items ((T.tuple (items ((var "a") ∷ (T.paren (T.tuple (items ((var "b") ∷ (var "c") ∷ [])) false)) ∷ [])) false) ∷ [])) (T.tuple (items ((num 1) ∷ (quote "xy") ∷ [])) false)) (
    line 2 (T.assign (items ((var "l") ∷ [])) (list ((num 0) ∷ (num 0) ∷ []))) (
    line 3 (T.assign (items ((T.tuple (items ((T.index (var "l") (T.compare (var "b") (T.link (Op Eq) (quote "x") T.no_links))) ∷ (var "d") ∷ [])) false) ∷ [])) (T.tuple (items ((var "c") ∷ (var "l") ∷ [])) false)) (
    line 4 (T.expr (call (var "print") ((var "a") ∷ (var "b") ∷ (var "d") ∷ []))) (
    end)))))) ("a.py" ∷ []) [] 1000
unfolding runs machine_runs
targets = refl

wrong_count : Agrees (alone (
    line 1 (T.assign (items ((T.tuple (items ((var "a") ∷ (var "b") ∷ [])) false) ∷ [])) (list ((num 1) ∷ []))) (
    end))) ("a.py" ∷ []) [] 1000
unfolding runs machine_runs
wrong_count = refl

augmented_once : Agrees (alone (
    line 1 (T.def (codes "f") [] (items []) false (T.suite 1 1 false (
    line 2 (T.expr (call (var "print") ((quote "f") ∷ []))) (
    line 3 (T.return (Some (num 0))) (
    end))))) (
    line 4 (T.assign (items ((var "l") ∷ [])) (list ((num 1) ∷ []))) (
    line 5 (T.aug_assign (T.index (var "l") (call (var "f") [])) Add (num 2)) (
    line 6 (T.assign (items ((var "m") ∷ [])) (var "l")) (
    line 7 (T.aug_assign (var "m") Add (T.paren (T.tuple (items ((num 5) ∷ [])) true))) (
    line 8 (T.expr (call (var "print") ((var "l") ∷ []))) (
    end)))))))) ("a.py" ∷ []) [] 1000
unfolding runs machine_runs
augmented_once = refl

chain_stops : Agrees (alone (
    line 1 (T.def (codes "f") (codes "n" ∷ []) (items []) false (T.suite 1 1 false (
    line 2 (T.expr (call (var "print") ((var "n") ∷ []))) (
    line 3 (T.return (Some (var "n"))) (
    end))))) (
    line 4 (T.expr (call (var "print") ((T.compare (call (var "f") ((num 2) ∷ [])) (T.link (Op Lt) (call (var "f") ((num 1) ∷ [])) (T.link (Op Lt) (call (var "f") ((num 3) ∷ [])) T.no_links))) ∷ (T.not' (call (var "f") ((num 0) ∷ []))) ∷ (T.cond (call (var "f") ((num 0) ∷ [])) (num 1) (call (var "f") ((num 5) ∷ []))) ∷ []))) (
    end)))) ("a.py" ∷ []) [] 1000
unfolding runs machine_runs
chain_stops = refl

methods : Agrees (alone (
    line 1 (T.assign (items ((var "l") ∷ [])) (list [])) (
    line 2 (T.expr (call (attr (var "l") "append") ((num 1) ∷ []))) (
    line 3 (T.expr (call (var "print") ((call (attr (quote "a b") "split") []) ∷ (call (attr (T.dict (T.pair (quote "k") (var "l") T.no_pairs) false) "get") ((quote "k") ∷ [])) ∷ (call (attr (quote ",") "join") ((T.paren (T.tuple (items ((quote "a") ∷ (quote "b") ∷ [])) false)) ∷ [])) ∷ []))) (
    line 4 (T.expr (call (attr (var "l") "push") ((call (var "print") ((num 1) ∷ [])) ∷ []))) (
    end)))))) ("a.py" ∷ []) [] 1000
unfolding runs machine_runs
methods = refl

dict_of_another_length : Agrees (alone (
    line 1 (T.assign (items ((var "d") ∷ [])) (T.dict (T.pair (num 1) (num 2) T.no_pairs) false)) (
    line 2 (T.for (var "k") (var "d") (T.suite 2 2 false (
    line 3 (T.assign (items ((T.index (var "d") (T.binary Add (var "k") (num 1))) ∷ [])) (num 0)) (
    end))) T.no_suite) (
    end)))) ("a.py" ∷ []) [] 1000
unfolding runs machine_runs
dict_of_another_length = refl

list_that_grows : Agrees (alone (
    line 1 (T.assign (items ((var "l") ∷ [])) (list ((num 1) ∷ []))) (
    line 2 (T.for (var "x") (var "l") (T.suite 2 2 false (
    line 3 (T.if' (T.arm (T.compare (var "x") (T.link (Op Lt) (num 3) T.no_links)) (T.suite 3 3 false (
    line 4 (T.expr (call (attr (var "l") "append") ((T.binary Add (var "x") (num 1)) ∷ []))) (
    end))) T.no_arms) T.no_suite) (
    end))) T.no_suite) (
    line 5 (T.expr (call (var "print") ((var "l") ∷ []))) (
    end))))) ("a.py" ∷ []) [] 1000
unfolding runs machine_runs
list_that_grows = refl

globals_and_locals : Agrees (alone (
    line 1 (T.assign (items ((var "x") ∷ [])) (num 1)) (
    line 2 (T.def (codes "f") [] (items []) false (T.suite 2 2 false (
    line 3 (T.global (codes "x" ∷ [])) (
    line 4 (T.assign (items ((var "x") ∷ [])) (num 2)) (
    end))))) (
    line 5 (T.def (codes "g") [] (items []) false (T.suite 5 5 false (
    line 6 (T.assign (items ((var "x") ∷ [])) (var "x")) (
    end)))) (
    line 7 (T.expr (call (var "f") [])) (
    line 8 (T.expr (call (var "print") ((var "x") ∷ []))) (
    line 9 (T.expr (call (var "g") [])) (
    end)))))))) ("a.py" ∷ []) [] 1000
unfolding runs machine_runs
globals_and_locals = refl

names_of_built_ins : Agrees (alone (
    line 1 (T.assign (items ((var "len") ∷ [])) (num 3)) (
    line 2 (T.expr (call (var "print") ((var "len") ∷ (var "str") ∷ (var "ValueError") ∷ []))) (
    end)))) ("a.py" ∷ []) [] 1000
unfolding runs machine_runs
names_of_built_ins = refl
