use Rattle.cov_suite.proofs.runs.record_test.Goals as goal

pub returns-clause-plugins : goal.returns-clause-plugins
returns-clause-plugins g c = c.left_plugins.ensures c.args.recorder.now c.call_test.new.tracer c.call_test.ensures.calls.0 c.call_test.ensures.calls.1
