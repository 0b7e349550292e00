use Rattle.std.proofs.Common.{ℕ, List, refl, ap}
use Rattle.cov_config.specs.Plain.{settings_view}
use Rattle.cov_config.specs.Settings.{meaning_of}
use Rattle.cov_programs.specs.Objects.{nobody}
use Rattle.cov_programs.proofs.Composing.{followed-so, goes-on, on-nobody}
use Rattle.cov_step.specs.Answers.{given_or}
use Rattle.cov_step.specs.Calls.{Call, Answer}
use Rattle.cov_step.specs.Objects.{on_shelf}
use Rattle.cov_why.specs.Answers.{bad_config}
use Rattle.cov_calls.proofs.Handing.{given-open, hands-on-why}
use Rattle.cov_calls.proofs.setting_files.settings.Goals as goal

pub returns-in_err-bytes : goal.returns-in_err-bytes
returns-in_err-bytes g c =
    hands-on-why _ (λ (bytes : List ℕ). given_or bad_config (meaning_of bytes)) settings_view c.in_err-bytes.ensures (λ bytes. given-open bad_config (meaning_of bytes)) _ c.from_residual.ensures

pub returns : goal.returns
returns g c =
    goes-on (λ (bytes : List ℕ). given_or bad_config (meaning_of bytes)) c.in_ok-bytes.ensures
    (on-nobody (on_shelf g.H.Shelf) _
    (followed-so (nobody Call Answer) (ap (λ (bytes : List ℕ). given_or bad_config (meaning_of bytes)) c.as_slice.ensures.value) refl c.settings_of.ensures))
