use Rattle.cov_measure.specs.Measures.{streams}
use Rattle.cov_programs.proofs.Composing.{asks, on-nobody}
use Rattle.cov_streams.specs.Objects.{on_run}
use Rattle.cov_runs.specs.Measured.{ran_answer}
use Rattle.cov_runs.proofs.MeasureCalls.{cross-run}
use Rattle.cov_runs.proofs.crossings.cross.Goals as goal

pub returns : goal.returns
returns g c = λ words budget e.
    asks (ran_answer c.measure.result) (streams c.measure.new.input c.measure.new.out c.args.plugins.now.items c.measure.new.engine)
    (cross-run g.I.Source g.O.Sink g.P.Plugin g.G.Engine _ _ _ _ c.new-none.result.items c.measure.new.plugins.items c.args.plugins.now.items _ _ c.args.request.now words budget e c.new-none.ensures.items
    c.args.loaded.now c.requires.measurable c.args.sets.items c.requires.sets c.measure.result c.measure.ensures.measured c.measure.ensures.told c.measure.ensures.refused)
    (on-nobody (on_run g.I.Source g.O.Sink g.P.Plugin g.G.Engine) _ c.ran.ensures)
