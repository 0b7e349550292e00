-- The lines of tests, put together test by test, and their counts.
use Rattle.std.proofs.Common.{◌≡◌, ℕ, suc, ◌<◌, ◌≤◌, Bool, true, false, cond, List, [], ◌∷◌, ◌++◌, filter, drop, length, get_or, codes, encode_utf8_all, String, string_bytes, Result, Ok, Err, IfOk, refl, sym, ap, ◌∙◌, append_assoc}
use Rattle.std.specs.Global.{Global}
use Rattle.std.specs.List.{flat_map}
use Rattle.std.specs.Str.{IsUtf8}
use Rattle.std.specs.declared.alloc.AllocError.{AllocError as NoMemory}
use Rattle.std.proofs.lemmas.List.{append-nil}
use Rattle.std.proofs.lemmas.Str.{encodes-chars}
use Rattle.std.proofs.Math.ListN.{drop_of_length-le}
use Rattle.std.proofs.Math.Seq.{drop-cons}
use Rattle.py_value.specs.declared.exception.ExcKind.{ExcKind}
use Rattle.py_builtins.specs.Displays.{kind_name}
use Rattle.py_builtins.specs.Outcomes.{uncaught}
use Rattle.cov_runs.proofs.KindNames.{kind-encoded}
use Rattle.cov_step.specs.Calls.{TestEnd}
use Rattle.cov_step.specs.Testing.{count_of, end_text, test_line}
use Rattle.cov_streams.specs.Suites.{end_of}
use Rattle.cov_suite.specs.declared.results.TestResult.{TestResult as RawResult}
use Rattle.cov_suites.specs.Views.{named, result_view, results_view}

pub text-is : (r : Result (String Global) NoMemory) (x y : List ℕ) → IfOk r (λ t. string_bytes t ≡ x) → x ≡ y → IfOk r (λ t. string_bytes t ≡ y)
text-is (Ok t) x y h e = h ∙ e
text-is (Err e) x y h is = tt

-- ---- counts

pub counted : (ends : TestEnd → Bool) (tests : List RawResult) → length (filter (λ t. ends (end_of t.end)) tests) ≡ count_of ends (results_view tests)
counted ends [] = refl
counted ends (t ∷ ts) = by (ends (end_of t.end)) (counted ends ts)
  where
    by : (b : Bool) → length (filter (λ t. ends (end_of t.end)) ts) ≡ count_of ends (results_view ts)
        → length (cond b (t ∷ filter (λ t. ends (end_of t.end)) ts) (filter (λ t. ends (end_of t.end)) ts)) ≡ length (cond b (result_view t ∷ filter (λ t. ends t.end) (results_view ts)) (filter (λ t. ends t.end) (results_view ts)))
    by true h = ap suc h
    by false h = h

-- ---- one line

-- a name in bytes
pub line-is : (name : List ℕ) (end : TestEnd) → IsUtf8 name → name ++ (codes " " ++ (end_text end ++ codes "\n")) ≡ test_line (named name end)
line-is name end u = ap (λ n. n ++ (codes " " ++ (end_text end ++ codes "\n"))) (sym (encodes-chars name u))

-- an exception without a text
pub bare-is : (k : ExcKind) (x : List ℕ) → x ≡ [] → kind_name k ≡ encode_utf8_all (uncaught k x)
bare-is k x e = sym (ap (λ t. encode_utf8_all (uncaught k t)) e ∙ kind-encoded k)

-- ---- all lines

pub tests-step : (tests : List RawResult) (i : ℕ) (d : RawResult) (old line new : List ℕ) → i < length tests → d ≡ get_or tests i d → line ≡ test_line (result_view d) → new ≡ old ++ line
    → old ++ flat_map test_line (results_view (drop i tests)) ≡ flat_map test_line (results_view tests)
    → new ++ flat_map test_line (results_view (drop (suc i) tests)) ≡ flat_map test_line (results_view tests)
tests-step tests i d old line new h at is more e =
    ap (λ w. w ++ flat_map test_line (results_view (drop (suc i) tests))) (more ∙ ap (λ l. old ++ l) (is ∙ ap (λ t. test_line (result_view t)) at))
    ∙ append_assoc old (test_line (result_view (get_or tests i d))) (flat_map test_line (results_view (drop (suc i) tests)))
    ∙ ap (λ ts. old ++ flat_map test_line (results_view ts)) (sym (drop-cons tests i d h)) ∙ e

pub tests-end : (tests : List RawResult) (i : ℕ) (text : List ℕ) → length tests ≤ i → text ++ flat_map test_line (results_view (drop i tests)) ≡ flat_map test_line (results_view tests) → text ≡ flat_map test_line (results_view tests)
tests-end tests i text h e = sym (append-nil text) ∙ ap (λ ts. text ++ flat_map test_line (results_view ts)) (sym (drop_of_length-le tests h)) ∙ e
