use Rattle.py_changes.proofs.Law.{unchanged_test}
use Rattle.py_changes.proofs.unchanged_tests.Goals as goal

pub returns : goal.returns
returns c = unchanged_test
