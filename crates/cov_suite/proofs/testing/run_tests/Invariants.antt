use Rattle.std.proofs.Common.{◌≡◌, map, take}
use Rattle.cov_measure_laws.specs.Leaving.{AreLeft}
use Rattle.py_code.specs.Loaded.{modules_of}
use Rattle.py_world.specs.Stores.{world_of}
use Rattle.cov_suite.specs.Recorded.{AllTests}
use Rattle.cov_suite.specs.Results.{result_of_code}
use Rattle.cov_suite.specs.Views.{test_view, reached_lines}
use Rattle.cov_suite.proofs.testing.run_tests.Given as goal

abbrev pub invariant-loop-name : goal.invariant-loop-name
invariant-loop-name g l = record {
  so_far : AllTests g.P.Plugin l.initial.next l.imported.rows l.initial.plugins.items (map (result_of_code (modules_of l.programs) (world_of l.imported.store) l.budget) (take l.name-index l.names))
      (map test_view l.results.items) (map reached_lines l.results.items) l.imported.rows l.all l.plugins.items;
  left : AreLeft g.P.Plugin l.initial.plugins.items l.plugins.items;
  kind : l.all.arcs ≡ l.initial.next.arcs;
  next : l.next ≡ l.initial.next;
}
