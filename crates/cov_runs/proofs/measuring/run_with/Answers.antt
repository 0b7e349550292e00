use Rattle.cov_measure.specs.Measures.{streams}
use Rattle.cov_programs.proofs.Composing.{asks, on-nobody}
use Rattle.cov_streams.specs.Objects.{on_run}
use Rattle.cov_runs.specs.Measured.{ran_answer}
use Rattle.cov_runs.proofs.MeasureCalls.{measure-run}
use Rattle.cov_runs.proofs.measuring.run_with.Goals as goal

pub returns : goal.returns
returns g c = λ asked files named script r h.
    asks (ran_answer c.measure.result) (streams c.measure.new.input c.measure.new.out c.measure.new.plugins.items c.measure.new.engine)
    (measure-run g.I.Source g.O.Sink g.P.Plugin g.G.Engine _ _ c.args.request.now asked named script r c.args.loaded.now c.requires.measurable c.args.sets.items c.requires.sets c.args.hook files h c.measure.result c.measure.ensures.measured c.measure.ensures.told c.measure.ensures.refused)
    (on-nobody (on_run g.I.Source g.O.Sink g.P.Plugin g.G.Engine) _ c.ran.ensures)
