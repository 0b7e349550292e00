-- What the vaults in memory hold, and which of their calls fail.
--     vault_contents, vault_calls, vault_faults    a vault that fails at chosen calls
--     CountsCall                                   what each of its calls does to its count
--     ListsMemory, LoadsMemory, SavesMemory,       what its calls do
--     RemovesMemory
--     sure_contents                                a vault that never fails
--     ListsSure, LoadsSure, SavesSure,             what its calls do
--     RemovesSure
use Rattle.std.specs.Prelude.{◌≡◌, ◌≢◌, ◌↔◌, ℕ, List, Option, Some, Result, Err}
use Rattle.std.specs.FinMap.{get}
use Rattle.cov_outside.specs.Calls.{Calls, FailsNext, after_call}
use Rattle.cov_outside.specs.Memory.{calls_of, faults_of}
use Rattle.cov_data.specs.DataSet.{Text, DataSet}
use Rattle.cov_vault.specs.declared.vault.VaultError.{VaultError}
use Rattle.cov_vault.specs.declared.vault.VaultError.TheVariants.{Failed}
use Rattle.cov_vault.specs.Contents.{Contents, contents_of}
use Rattle.cov_vault.specs.Answers.{IsListed, IsLoaded, IsSaved, IsRemoved}
use Rattle.cov_vault.specs.declared.memory.MemVault.{MemVault}
use Rattle.cov_vault.specs.declared.sure.SureVault.{SureVault}

-- what the names of a vault in memory hold
abbrev pub vault_contents : MemVault → Contents
vault_contents vault = contents_of vault.entries.pairs.items

-- which calls of it are to fail
abbrev pub vault_calls : MemVault → Calls
vault_calls vault = calls_of vault.failing

-- how many of its calls have failed
abbrev pub vault_faults : MemVault → ℕ
vault_faults vault = faults_of vault.failing

-- a call fails exactly where the list names it, and is counted; only one that fails is a fault
pub record CountsCall (failed : Type 0) (old new : MemVault) : Type 0 where
  pub fails : failed ↔ FailsNext (vault_calls old)
  pub counted : vault_calls new ≡ after_call (vault_calls old)
  pub stays : (failed → ⊥) → vault_faults new ≡ vault_faults old

-- its names are those of the contents, which stay
pub record ListsMemory (old : MemVault) (answer : Result (List Text) VaultError) (new : MemVault)
    : Type 0 where
  pub told : IsListed (vault_contents old) answer
  pub kept : vault_contents new ≡ vault_contents old
  pub call : CountsCall (answer ≡ Err Failed) old new

-- a load is answered by what the name holds, and leaves the contents
pub record LoadsMemory (old : MemVault) (name : Text) (answer : Result DataSet VaultError)
    (new : MemVault) : Type 0 where
  pub told : IsLoaded (get (vault_contents old) name) answer
  pub kept : vault_contents new ≡ vault_contents old
  pub call : CountsCall (answer ≡ Err Failed) old new

-- a save sets its name where it isn't refused
pub record SavesMemory (old : MemVault) (name : Text) (data_set : DataSet)
    (refusal : Option VaultError) (new : MemVault) : Type 0 where
  pub saved : IsSaved (vault_contents old) name data_set refusal (vault_contents new)
  pub call : CountsCall (refusal ≡ Some Failed) old new

-- a removal takes its name away where it isn't refused
pub record RemovesMemory (old : MemVault) (name : Text) (refusal : Option VaultError)
    (new : MemVault) : Type 0 where
  pub removed : IsRemoved (vault_contents old) name refusal (vault_contents new)
  pub call : CountsCall (refusal ≡ Some Failed) old new

-- what the names of a vault that never fails hold
abbrev pub sure_contents : SureVault → Contents
sure_contents vault = contents_of vault.entries.pairs.items

-- its names are those of the contents, which stay, and it doesn't fail
pub record ListsSure (old : SureVault) (answer : Result (List Text) VaultError) (new : SureVault)
    : Type 0 where
  pub told : IsListed (sure_contents old) answer
  pub kept : sure_contents new ≡ sure_contents old
  pub sure : answer ≢ Err Failed

-- a load is answered by what the name holds, leaves the contents, and doesn't fail
pub record LoadsSure (old : SureVault) (name : Text) (answer : Result DataSet VaultError)
    (new : SureVault) : Type 0 where
  pub told : IsLoaded (get (sure_contents old) name) answer
  pub kept : sure_contents new ≡ sure_contents old
  pub sure : answer ≢ Err Failed

-- a save sets its name where it isn't refused, and doesn't fail
pub record SavesSure (old : SureVault) (name : Text) (data_set : DataSet)
    (refusal : Option VaultError) (new : SureVault) : Type 0 where
  pub saved : IsSaved (sure_contents old) name data_set refusal (sure_contents new)
  pub sure : refusal ≢ Some Failed

-- a removal takes its name away where it isn't refused, and doesn't fail
pub record RemovesSure (old : SureVault) (name : Text) (refusal : Option VaultError)
    (new : SureVault) : Type 0 where
  pub removed : IsRemoved (sure_contents old) name refusal (sure_contents new)
  pub sure : refusal ≢ Some Failed
