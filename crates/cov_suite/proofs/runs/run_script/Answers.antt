use Rattle.std.proofs.Common.{◌∙◌}
use Rattle.py_code.specs.Loaded.{modules_of}
use Rattle.py_world.specs.Stores.{world_of}
use Rattle.cov_suite.proofs.Recording.{import-ran}
use Rattle.cov_suite.proofs.runs.run_script.Goals as goal

pub returns-in-Ok-clause-ran : goal.returns-in-Ok-clause-ran
returns-in-Ok-clause-ran g c =
    import-ran g.T.Tracer.moves (modules_of c.args.programs.now) c.args.budget (world_of c.args.store.now) (world_of c.run.new.store) c.args.tracer.now c.run.new.tracer
    _ _ _ tt (c.new-input.ensures ∙ c.new.ensures.items) _ c.in-Ok.ran c.is_finished.result c.is_finished.ensures c.in-Ok.ensures.ok
