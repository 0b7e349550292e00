use Rattle.std.proofs.Common.{map, refl, subst, ◌∙◌}
use Rattle.cov_measure_laws.proofs.Leaving.{one-after}
use Rattle.cov_recorder.specs.Plan.{Plan}
use Rattle.py_code.specs.Loaded.{modules_of}
use Rattle.py_world.specs.Stores.{world_of}
use Rattle.cov_suite.specs.Recorded.{AllTests}
use Rattle.cov_suite.specs.Results.{result_of_code}
use Rattle.cov_suite.specs.Views.{test_view, reached_lines}
use Rattle.cov_suite.proofs.Ending.{no-memory, not-imported, has-run}
use Rattle.cov_suite.proofs.suites.run_planned.Goals as goal

pub returns-then-not-imported : goal.returns-then-not-imported
returns-then-not-imported g c =
    let i = c.in_ok-ran.ran.0 in
    not-imported g.P.Plugin c.args.plan (modules_of c.args.programs.now) c.args.budget c.args.plugins.now.items i.finished (world_of i.store) i.rows c.import_script.new.plugins.items c.in_ok-ran.ensures.imports
    c.if-not-imported.true c.import_script.ensures.plugins

pub returns-in_default : goal.returns-in_default
returns-in_default g c =
    no-memory g.P.Plugin _ _ c.args.plugins.now.items c.run_tests.new.plugins.items _ refl (one-after g.P.Plugin c.args.plugins.now.items c.import_script.new.plugins.items c.run_tests.new.plugins.items c.import_script.ensures.plugins c.run_tests.ensures.plugins)

pub returns : goal.returns
returns g c =
    let i = c.in_ok-ran.ran.0 in
    let ms = modules_of c.args.programs.now in
    has-run g.P.Plugin c.args.plan ms c.args.budget c.args.plugins.now.items i.finished (world_of i.store) i.rows c.import_script.new.plugins.items c.in_ok-ran.ensures.imports
    c.if-not-imported.false c.run_tests.new.plugins.items (one-after g.P.Plugin c.args.plugins.now.items c.import_script.new.plugins.items c.run_tests.new.plugins.items c.import_script.ensures.plugins c.run_tests.ensures.plugins)
    c.deref-2.result.now (c.deref-2.ensures.value ∙ c.in_ok-names.ensures.code) (record { tests = c.in-Ok.tests; imported = c.in_ok-lines.lines; rows = c.in-Ok.rows })
    (subst (λ (p : Plan). AllTests g.P.Plugin p i.rows c.import_script.new.plugins.items (map (result_of_code ms (world_of i.store) c.args.budget) c.deref-2.result.now) (map test_view c.in-Ok.tests.items) (map reached_lines c.in-Ok.tests.items) i.rows c.in-Ok.rows
    c.run_tests.new.plugins.items) c.in_ok-ran.ensures.next c.in-Ok.ensures.tests)
    c.in_ok-lines.ensures
