use Rattle.cov_recorder.specs.Names.{names_of}
use Rattle.cov_recorder.specs.Plan.{plan_of}
use Rattle.py_code.specs.Loaded.{modules_of}
use Rattle.cov_suite.specs.Views.{plain_answer}
use Rattle.cov_suite.proofs.Meaning.{suite-told, suite-meant}
use Rattle.cov_suite.proofs.suites.suite.Goals as goal

pub returns-clause-code : goal.returns-clause-code
returns-clause-code g c =
    suite-told g.P.Plugin c.recorded_rows.ensures (plan_of (names_of c.args.units.now) c.args.places.now c.args.arcs c.args.fixed.now) (modules_of c.args.programs.now) c.args.budget c.args.plugins.now.items (plain_answer c.run_suite.result) c.run_suite.new.plugins.items c.run_suite.ensures

pub returns-clause-meant : goal.returns-clause-meant
returns-clause-meant g c = λ ms are.
    suite-meant g.P.Plugin c.units_are_faithful.ensures c.traces_kept.ensures c.units_of_programs.ensures c.whole_plans.ensures c.meant_data_of_modules.ensures c.meant_data_of_call.ensures c.whole_data_of_modules.ensures c.whole_data_of_call.ensures
    c.foreseen_data_of_modules.ensures c.foreseen_data_of_call.ensures c.args.programs.now (names_of c.args.units.now) c.args.places.now c.requires.some ms are c.args.arcs c.args.fixed.now c.args.budget
    c.args.plugins.now.items (plain_answer c.run_suite.result) c.run_suite.new.plugins.items c.run_suite.ensures
