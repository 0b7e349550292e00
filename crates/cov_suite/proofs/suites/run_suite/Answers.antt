use Rattle.std.proofs.Common.{refl, subst}
use Rattle.cov_measure_laws.proofs.Leaving.{as-before}
use Rattle.cov_recorder.specs.Plan.{Plan}
use Rattle.py_code.specs.Loaded.{modules_of}
use Rattle.cov_suite.specs.Recorded.{WasRecorded}
use Rattle.cov_suite.specs.Results.{suite_of_code}
use Rattle.cov_suite.specs.Suites.{IsSuiteOf}
use Rattle.cov_suite.specs.Views.{plain_answer}
use Rattle.cov_suite.proofs.Ending.{no-memory}
use Rattle.cov_suite.proofs.suites.run_suite.Goals as goal

pub returns-in_default : goal.returns-in_default
returns-in_default g c = no-memory g.P.Plugin _ _ c.args.plugins.now.items c.args.plugins.now.items _ refl (as-before g.P.Plugin c.args.plugins.now.items)

pub returns : goal.returns
returns g c =
    subst (λ (p : Plan). IsSuiteOf g.P.Plugin (WasRecorded g.P.Plugin p) (suite_of_code (modules_of c.args.programs.now) c.args.budget) c.args.plugins.now.items (plain_answer c.run_planned.result) c.run_planned.new.plugins.items)
    c.in-Ok.ensures c.run_planned.ensures
