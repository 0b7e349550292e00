-- How a call on a folder fails: so that it counts, or for want of memory.
use Rattle.std.specs.Prelude.{◌≡◌, ◌⊎◌}
use Rattle.cov_vault.specs.declared.vault.VaultError.{VaultError}
use Rattle.cov_vault.specs.declared.vault.VaultError.TheVariants as vault

-- the call failed so that it counts, or for want of memory
abbrev pub IsFailure : VaultError → Type 0
IsFailure e = (e ≡ vault.Failed) ⊎ (e ≡ vault.NoMemory)
