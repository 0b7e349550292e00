use Rattle.cov_run.specs.Loads.{loaded_modules}
use Rattle.cov_selects.proofs.Selected.{all-selected, none-selected}
use Rattle.cov_selects.proofs.choosing.chosen_tests.Goals as goal

pub returns-in-Ok : goal.returns-in-Ok
returns-in-Ok c =
    all-selected _ c.chosen_in_suite.ensures (loaded_modules c.args.before.now) (loaded_modules c.args.after.now) _ _ c.args.most _ _ c.in-Ok.run' c.requires.regular c.in-Ok.ensures c.selection_of.result c.selection_of.ensures

pub returns : goal.returns
returns c = none-selected _ (loaded_modules c.args.before.now) (loaded_modules c.args.after.now) _ _ c.args.most _ _ c.in-Err.error c.in-Err.ensures
