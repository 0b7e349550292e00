use Rattle.cov_programs.proofs.Composing.{asks, on-nobody}
use Rattle.cov_step.specs.Objects.{on_sink}
use Rattle.cov_calls.specs.Views.{sink_refusal_of}
use Rattle.cov_calls.proofs.Told.{write_refused, written_so}
use Rattle.cov_calls.proofs.lasts.write.Goals as goal

pub returns : goal.returns
returns g c =
    asks (sink_refusal_of c.write.result) c.write.new.self (record {
      told = λ t. written_so _ _ _ c.write.result (c.write.ensures.ok t) (c.write.ensures.err t);
      count = c.write.ensures.count;
      failed = λ h. c.write.ensures.failed (write_refused _ _ h);
    })
    (on-nobody (on_sink g.O.Sink) _ c.noted.ensures)
