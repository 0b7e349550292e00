use Rattle.std.proofs.Common.{Result, Ok, Err, IfOk, ◌∙◌}
use Rattle.py_code.specs.Loaded.{modules_of}
use Rattle.cov_suite.proofs.TestNames.{same-tests}
use Rattle.cov_suite.proofs.names.tests_of_script.Goals as goal

-- what holds of a value where there is one
if_ok : {X E : Type 0} {P Q : X → Type 0} → ((x : X) → P x → Q x) → (r : Result X E) → IfOk r P → IfOk r Q
if_ok f (Ok x) h = f x h
if_ok f (Err e) h = h

pub returns-clause-meant : goal.returns-clause-meant
returns-clause-meant c =
    if_ok (λ names e ms faithful. e ∙ same-tests c.units_are_faithful.ensures (modules_of c.args.programs.now) ms faithful) c.script_tests.result c.script_tests.ensures
