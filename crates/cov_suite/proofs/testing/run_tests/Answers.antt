use Rattle.std.proofs.Common.{◌≡◌, [], map, refl, ap, sym, subst, ◌∙◌}
use Rattle.cov_data.specs.DataSet.{DataSet, union}
use Rattle.cov_measure_laws.proofs.Leaving.{as-before, one-after}
use Rattle.cov_recorder.specs.Plan.{Plan}
use Rattle.py_code.specs.Loaded.{modules_of}
use Rattle.py_world.specs.Stores.{world_of}
use Rattle.cov_suite.specs.Merging.{merged}
use Rattle.cov_suite.specs.Recorded.{WasRecorded, AllTests}
use Rattle.cov_suite.specs.Results.{result_of_code}
use Rattle.cov_suite.specs.Rows.{lines_in}
use Rattle.cov_suite.specs.Views.{test_view, reached_lines}
use Rattle.cov_suite.proofs.Calling.{from-nothing, no-tests, next-test}
use Rattle.cov_suite.proofs.UnionLines.{lines_in-union}
use Rattle.cov_suite.proofs.testing.run_tests.Goals as goal

pub returns-in_err-all-clause-plugins : goal.returns-in_err-all-clause-plugins
returns-in_err-all-clause-plugins g c = as-before g.P.Plugin c.args.plugins.now.items

pub loop-name-init : goal.loop-name-init
loop-name-init g c =
    let rows = c.args.imported.now.rows in
    let same : c.in_ok-all.all ≡ rows = c.in_ok-all.ensures ∙ ap (λ (d : DataSet). union d rows) c.new.ensures ∙ from-nothing c.is_arcs-arcs.result rows (sym c.is_arcs-arcs.ensures.flag) in
    let begun : (plan : Plan) → AllTests g.P.Plugin plan rows c.args.plugins.now.items [] (map test_view c.new-results.result.items) (map reached_lines c.new-results.result.items) rows c.in_ok-all.all c.args.plugins.now.items =
    λ plan. subst (λ rs. AllTests g.P.Plugin plan rows c.args.plugins.now.items [] (map test_view rs) (map reached_lines rs) rows c.in_ok-all.all c.args.plugins.now.items) (sym c.new-results.ensures.items)
    (no-tests g.P.Plugin plan rows c.args.plugins.now.items rows c.in_ok-all.all same) in
    record {
      so_far = begun _;
      left = as-before g.P.Plugin c.args.plugins.now.items;
      kind = ap (λ (d : DataSet). d.arcs) same ∙ c.requires.kind ∙ ap (λ (p : Plan). p.arcs) (sym c.plan.view_is);
      next = refl;
    }

pub loop-name-preserved : goal.loop-name-preserved
loop-name-preserved g c =
    let rows = c.args.imported.now.rows in
    let own = c.in_ok-ended.ended.0.rows in
    let met : reached_lines c.in_ok-result.result ≡ lines_in (union own rows) =
    c.in_ok-result.ensures.reached ∙ ap (λ ls. merged ls (lines_in own)) c.requires.lines ∙ sym (lines_in-union own rows) in
    record {
      so_far = next-test g.P.Plugin _ rows c.args.plugins.now.items rows (result_of_code (modules_of c.args.programs.now) (world_of c.args.imported.now.store) c.args.budget) c.args.names.now c.loop-name.name-index c.name-item.result c.loop-name-test.true c.name-item.is
          c.loop-name.plugins.items c.run_test.new.plugins.items c.loop-name.results.items c.push.new.self.items c.in_ok-result.result c.in_ok-push.ensures.items c.loop-name.all c.in_ok-ended.ended.0.rows c.in_ok-all-2.all
          c.loop-name.invariant.so_far
          (subst (λ (p : Plan). WasRecorded g.P.Plugin p c.loop-name.plugins.items (result_of_code (modules_of c.args.programs.now) (world_of c.args.imported.now.store) c.args.budget c.name-item.result).1 c.in_ok-ended.ended.0.rows c.run_test.new.plugins.items) c.loop-name.invariant.next c.in_ok-ended.ensures.tests.recorded)
          (c.in_ok-result.ensures.view ∙ c.in_ok-ended.ensures.tests.result) met c.in_ok-all-2.ensures;
      left = one-after g.P.Plugin c.args.plugins.now.items c.loop-name.plugins.items c.run_test.new.plugins.items c.loop-name.invariant.left c.run_test.ensures.plugins;
      kind = ap (λ (d : DataSet). d.arcs) c.in_ok-all-2.ensures ∙ c.loop-name.invariant.kind;
      next = c.in_ok-ended.ensures.next ∙ c.loop-name.invariant.next;
    }

pub returns-in_err-ended-clause-plugins : goal.returns-in_err-ended-clause-plugins
returns-in_err-ended-clause-plugins g c = one-after g.P.Plugin c.args.plugins.now.items c.loop-name.plugins.items c.run_test.new.plugins.items c.loop-name.invariant.left c.run_test.ensures.plugins

pub returns-in_err-all-2-clause-plugins : goal.returns-in_err-all-2-clause-plugins
returns-in_err-all-2-clause-plugins g c = one-after g.P.Plugin c.args.plugins.now.items c.loop-name.plugins.items c.run_test.new.plugins.items c.loop-name.invariant.left c.run_test.ensures.plugins

pub returns-in_err-result-clause-plugins : goal.returns-in_err-result-clause-plugins
returns-in_err-result-clause-plugins g c = one-after g.P.Plugin c.args.plugins.now.items c.loop-name.plugins.items c.run_test.new.plugins.items c.loop-name.invariant.left c.run_test.ensures.plugins

pub returns-in_err-push-clause-plugins : goal.returns-in_err-push-clause-plugins
returns-in_err-push-clause-plugins g c = one-after g.P.Plugin c.args.plugins.now.items c.loop-name.plugins.items c.run_test.new.plugins.items c.loop-name.invariant.left c.run_test.ensures.plugins
