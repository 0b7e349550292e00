-- Names of tests, worked out.
use Rattle.std.proofs.Common.{◌≡◌, [], ◌∷◌, refl}
use Rattle.std.specs.Prelude.{codes}
use Rattle.cov_suite.specs.Tests.{test_names}

-- each once, where it first stands
some-names : test_names (codes "f" ∷ codes "test_b" ∷ codes "a_test" ∷ codes "test" ∷ codes "test_b" ∷ []) ≡ codes "test_b" ∷ codes "test" ∷ []
unfolding lib.Utf8.encode
some-names = refl
