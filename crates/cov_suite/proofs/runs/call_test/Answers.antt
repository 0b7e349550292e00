use Rattle.std.proofs.Common.{refl, ◌∙◌}
use Rattle.py_code.specs.Loaded.{modules_of}
use Rattle.py_world.specs.Stores.{world_of}
use Rattle.cov_suite.proofs.Recording.{test-ran}
use Rattle.cov_suite.proofs.runs.call_test.Goals as goal

pub returns-in-Ok-clause-ran : goal.returns-in-Ok-clause-ran
returns-in-Ok-clause-ran g c =
    test-ran g.T.Tracer.moves (modules_of c.args.programs.now) c.args.budget (world_of c.args.store.now) (world_of c.call.new.store) c.args.tracer.now c.call.new.tracer
    _ _ _ tt (c.new-input.ensures ∙ c.new.ensures.items) _ _ _ tt (c.new-out.ensures ∙ c.new-2.ensures.items)
    _ c.args.name.now c.as_str-name.ensures.characters c.in-Ok.answer _ c.end_of.ensures c.into_bytes.ensures refl c.in-Ok.ensures.ok
