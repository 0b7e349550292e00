use Rattle.std.proofs.Common.{ℕ, List, Bor, drop}
use Rattle.cov_programs.proofs.Each.{IsDone}
use Rattle.cov_step.specs.Calls.{IsNoMemory}
use Rattle.cov_step.specs.Objects.{on_vault}
use Rattle.cov_step.specs.Phases.{removing}
use Rattle.cov_joins.proofs.removing.remove_each.Given as goal

abbrev pub invariant-loop-name : goal.invariant-loop-name
invariant-loop-name g l = (ys : List (Unit {0})) × IsDone (on_vault g.V.Vault) IsNoMemory (λ (name : Bor (List ℕ)). removing name.now) l.fn.names (drop l.name-index l.fn.names) ys l.fn.vault l.vault
