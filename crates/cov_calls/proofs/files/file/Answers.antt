use Rattle.cov_outside.specs.Reads.{bytes_read}
use Rattle.cov_programs.proofs.Composing.{asks, on-nobody}
use Rattle.cov_step.specs.Objects.{on_shelf}
use Rattle.cov_calls.proofs.Told.{read_refused}
use Rattle.cov_calls.proofs.files.file.Goals as goal

pub returns : goal.returns
returns g c =
    asks (bytes_read c.read.result) c.read.new.self (record { moved = c.read.ensures.moved; count = c.read.ensures.count; failed = λ h. c.read.ensures.failed (read_refused _ _ h) })
    (on-nobody (on_shelf g.H.Shelf) _ c.bytes_of.ensures)
