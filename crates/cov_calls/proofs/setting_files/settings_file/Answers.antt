use Rattle.std.proofs.Common.{refl, sym, ap}
use Rattle.std.specs.Option.{option_copied}
use Rattle.cov_outside.specs.Reads.{bytes_read}
use Rattle.cov_programs.proofs.Composing.{asks, followed-so, on-nobody}
use Rattle.cov_step.specs.Objects.{on_shelf}
use Rattle.cov_step.specs.Phases.{settings_file}
use Rattle.cov_calls.proofs.Told.{read_refused}
use Rattle.cov_calls.proofs.setting_files.settings_file.Goals as goal

pub returns-in-None : goal.returns-in-None
returns-in-None g c =
    followed-so (on_shelf g.H.Shelf) (ap (λ o. settings_file (option_copied o)) (sym c.in-None.is)) refl
    (asks (bytes_read c.read.result) c.read.new.self (record { moved = c.read.ensures.moved; count = c.read.ensures.count; failed = λ h. c.read.ensures.failed (read_refused _ _ h) })
    (on-nobody (on_shelf g.H.Shelf) _ c.bytes_if_any.ensures))
