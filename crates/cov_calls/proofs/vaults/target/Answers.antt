use Rattle.cov_programs.proofs.Composing.{asks, on-nobody}
use Rattle.cov_step.specs.Objects.{on_vault}
use Rattle.cov_calls.proofs.vaults.target.Goals as goal

pub returns : goal.returns
returns g c =
    asks c.load.result c.load.new.self (record { moved = c.load.ensures.moved; count = c.load.ensures.count; failed = c.load.ensures.failed })
    (on-nobody (on_vault g.V.Vault) _ c.target_of.ensures)
