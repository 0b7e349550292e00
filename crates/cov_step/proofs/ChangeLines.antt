-- What `select` and `mutate` write.
use Rattle.std.proofs.Common.{◌≡◌, List, [], ◌∷◌, refl, codes}
use Rattle.std.specs.Fmt.{digits}
use Rattle.cov_step.specs.Calls.{Selection, killed, survived, unreached, Judged}
use Rattle.cov_step.specs.Mutating.{mutation_lines}
use Rattle.cov_step.specs.Selecting.{selection_lines}

-- two tests of three
abbrev two : Selection
two = record { names = codes "test_a" ∷ codes "test_c" ∷ []; count = 3 }

-- none of one
abbrev no : Selection
no = record { names = []; count = 1 }

two-written : selection_lines two ≡ codes "test_a\ntest_c\n2 of 3 selected\n"
unfolding lib.Utf8.encode digits
two-written = refl

none-written : selection_lines no ≡ codes "0 of 1 selected\n"
unfolding lib.Utf8.encode digits
none-written = refl

-- a mutant for each verdict
abbrev three : List Judged
three =
    record { path = codes "calc.py"; line = 2; old = codes "+"; new = codes "-"; verdict = killed }
    ∷ record { path = codes "calc.py"; line = 5; old = codes "<"; new = codes "<="; verdict = survived }
    ∷ record { path = codes "more.py"; line = 11; old = codes "and"; new = codes "or"; verdict = unreached }
    ∷ []

three-written : mutation_lines three ≡ codes "1 calc.py:2 + -> - killed\n2 calc.py:5 < -> <= survived\n3 more.py:11 and -> or unreached\n1 killed, 1 survived, 1 unreached\n"
unfolding lib.Utf8.encode digits
three-written = refl

nothing-written : mutation_lines [] ≡ codes "0 killed, 0 survived, 0 unreached\n"
unfolding lib.Utf8.encode digits
nothing-written = refl
