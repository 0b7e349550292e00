use Rattle.cov_suite.proofs.runs.record_script.Goals as goal

pub returns-clause-plugins : goal.returns-clause-plugins
returns-clause-plugins g c = c.left_plugins.ensures c.args.recorder.now c.run_script.new.tracer c.run_script.ensures.calls.0 c.run_script.ensures.calls.1
