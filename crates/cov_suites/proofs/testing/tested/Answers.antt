use Rattle.cov_programs.proofs.Composing.{asks, on-nobody}
use Rattle.cov_run.specs.Loads.{loaded_modules}
use Rattle.cov_streams.specs.Suites.{on_plugins, tested_by}
use Rattle.cov_suite.specs.Views.{plain_answer}
use Rattle.cov_suites.specs.Views.{asked_view}
use Rattle.cov_suites.proofs.TestCalls.{tested-so}
use Rattle.cov_suites.proofs.testing.tested.Goals as goal

pub returns : goal.returns
returns g c =
    asks (tested_by (plain_answer c.loaded_suite-answer.result)) c.loaded_suite-answer.new.plugins.items
    (tested-so g.P.Plugin (asked_view c.args.request.now) (loaded_modules c.args.loaded.now) c.args.plugins.now.items (plain_answer c.loaded_suite-answer.result) c.loaded_suite-answer.new.plugins.items c.as_str-fixed.result.now c.as_str-fixed.ensures.value
    c.loaded_suite-answer.ensures)
    (on-nobody (on_plugins g.P.Plugin) _ c.ran.ensures)
