use Rattle.cov_programs.proofs.Composing.{asks, on-nobody}
use Rattle.cov_step.specs.Objects.{on_vault}
use Rattle.cov_vault.specs.Answers.{refusal_of}
use Rattle.cov_calls.proofs.Told.{vault_refused}
use Rattle.cov_calls.proofs.vaults.save.Goals as goal

pub returns : goal.returns
returns g c =
    asks (refusal_of c.save.result) c.save.new.self (record {
      moved = c.save.ensures.moved;
      not_absent = λ h. c.save.ensures.not_absent (vault_refused _ _ h);
      not_bad_row = λ i h. c.save.ensures.not_bad_row i (vault_refused _ _ h);
      count = c.save.ensures.count;
      failed = λ h. c.save.ensures.failed (vault_refused _ _ h);
    })
    (on-nobody (on_vault g.V.Vault) _ c.saved.ensures)
