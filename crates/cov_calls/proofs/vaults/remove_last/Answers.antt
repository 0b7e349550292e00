use Rattle.cov_programs.proofs.Composing.{asks, on-nobody}
use Rattle.cov_step.specs.Objects.{on_vault}
use Rattle.cov_vault.specs.Answers.{refusal_of}
use Rattle.cov_calls.proofs.Told.{vault_refused}
use Rattle.cov_calls.proofs.vaults.remove_last.Goals as goal

pub returns : goal.returns
returns g c =
    asks (refusal_of c.remove.result) c.remove.new.self (record {
      moved = c.remove.ensures.moved;
      not_schema = λ h. c.remove.ensures.not_schema (vault_refused _ _ h);
      not_bad_row = λ i h. c.remove.ensures.not_bad_row i (vault_refused _ _ h);
      count = c.remove.ensures.count;
      failed = λ h. c.remove.ensures.failed (vault_refused _ _ h);
    })
    (on-nobody (on_vault g.V.Vault) _ c.removed_last.ensures)
