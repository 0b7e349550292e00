use Rattle.cov_outside.specs.Reads.{bytes_read}
use Rattle.cov_programs.proofs.Composing.{asks, on-nobody}
use Rattle.cov_step.specs.Objects.{on_shelf}
use Rattle.cov_calls.proofs.Told.{read_refused}
use Rattle.cov_app.proofs.script_files.script_text.Goals as goal

pub returns : goal.returns
returns g c =
    asks (bytes_read c.read-answer.result) c.read-answer.new.self (record { moved = c.read-answer.ensures.moved; count = c.read-answer.ensures.count; failed = λ h. c.read-answer.ensures.failed (read_refused _ _ h) })
    (on-nobody (on_shelf g.H.Shelf) _ c.text_read.ensures)
