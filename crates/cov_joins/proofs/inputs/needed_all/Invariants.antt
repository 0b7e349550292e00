use Rattle.std.proofs.Common.{◌≡◌, drop, length, string_bytes}
use Rattle.cov_programs.proofs.Each.{IsDone}
use Rattle.cov_step.specs.Calls.{IsNoMemory}
use Rattle.cov_step.specs.Objects.{on_vault}
use Rattle.cov_step.specs.Phases.{needed}
use Rattle.cov_joins.proofs.inputs.needed_all.Given as goal

abbrev pub invariant-loop-name : goal.invariant-loop-name
invariant-loop-name g l = IsDone (on_vault g.V.Vault) IsNoMemory (λ name. needed (string_bytes name)) l.fn.names (drop l.name-index l.fn.names) l.all.items l.fn.vault l.vault × (length l.all.items ≡ l.name-index)
