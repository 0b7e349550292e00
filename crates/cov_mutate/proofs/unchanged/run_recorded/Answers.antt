use Rattle.cov_suite.specs.Views.{plain_answer}
use Rattle.cov_mutate.proofs.Ran.{has-run}
use Rattle.cov_mutate.proofs.unchanged.run_recorded.Goals as goal

pub returns : goal.returns
returns c = λ ms are. has-run _ c.told_arcs_of_modules.ensures c.told_arcs_of_call.ensures c.args.budget ms _ _ _ _ (plain_answer c.suite.result) (c.suite.ensures.meant ms are)
