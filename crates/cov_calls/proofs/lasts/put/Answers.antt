use Rattle.cov_outside.specs.Reads.{refusal_of}
use Rattle.cov_programs.proofs.Composing.{asks, on-nobody}
use Rattle.cov_step.specs.Objects.{on_shelf}
use Rattle.cov_calls.proofs.Told.{put_refused}
use Rattle.cov_calls.proofs.lasts.put.Goals as goal

pub returns : goal.returns
returns g c =
    asks (refusal_of c.put.result) c.put.new.self (record {
      moved = c.put.ensures.moved;
      not_absent = λ h. c.put.ensures.not_absent (put_refused _ _ h);
      not_too_large = λ h. c.put.ensures.not_too_large (put_refused _ _ h);
      count = c.put.ensures.count;
      failed = λ h. c.put.ensures.failed (put_refused _ _ h);
    })
    (on-nobody (on_shelf g.H.Shelf) _ c.put_so.ensures)
