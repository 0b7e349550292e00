-- What `suite` writes of tests that ended so, and how it ends.
use Rattle.std.proofs.Common.{◌≡◌, ℕ, List, [], ◌∷◌, Ok, refl, codes}
use Rattle.std.specs.Fmt.{digits}
use Rattle.py_value.specs.declared.exception.ExcKind.TheVariants as kind
use Rattle.cov_why.specs.Answers as why
use Rattle.cov_why.specs.Statuses.{status_of}
use Rattle.cov_step.specs.Calls.{TestEnd, passed, failed, cut, TestResult}
use Rattle.cov_step.specs.Testing.{suite_lines, suite_answered}

abbrev test : List ℕ → TestEnd → TestResult
test name end = record { name = name; end = end }

-- one that passed
abbrev one : List TestResult
one = test (codes "test_div") passed ∷ []

-- two that passed, and an assertion that failed
abbrev three : List TestResult
three = test (codes "test_a") passed ∷ test (codes "test_b") passed ∷ test (codes "test_c") (failed kind.AssertionError (codes "no")) ∷ []

-- an exception without a text, and a test that was cut
abbrev bare : List TestResult
bare = test (codes "test_e") (failed kind.ValueError []) ∷ test (codes "test_f") cut ∷ []

one-written : suite_lines one ≡ codes "test_div passed\n1 passed, 0 failed, 0 cut\n"
unfolding lib.Utf8.encode digits
one-written = refl

three-written : suite_lines three ≡ codes "test_a passed\ntest_b passed\ntest_c failed AssertionError: no\n2 passed, 1 failed, 0 cut\n"
unfolding lib.Utf8.encode digits
three-written = refl

bare-written : suite_lines bare ≡ codes "test_e failed ValueError\ntest_f cut\n0 passed, 1 failed, 1 cut\n"
unfolding lib.Utf8.encode digits
bare-written = refl

three-answered : (suite_answered three).ended ≡ why.tests 2 1 0
three-answered = refl

one-status : status_of (Ok (suite_answered one).ended) ≡ 0
one-status = refl

three-status : status_of (Ok (suite_answered three).ended) ≡ 1
three-status = refl
