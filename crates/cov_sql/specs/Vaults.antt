-- What the calls of the vaults over data files do.
--     bases_of, told_in        the bases of a vault in memory, and what their names hold
--     CountsRefusal            its count rises with a failure
--     ListsBases, LoadsBases, SavesBases, RemovesBases         its calls
--     folder_of                the name of the folder of a vault
--     CountsFault              its count rises with a failure, and the folder stays
--     ListsFolder, LoadsFolder, SavesFolder, RemovesFolder     its calls
use Rattle.std.specs.Prelude.{◌≡◌, ◌≢◌, ℕ, List, Option, Some, Result, Err, IfOk, string_bytes}
use Rattle.std.specs.List.Sorted.{IsSorted}
use Rattle.std.specs.FinMap.{get}
use Rattle.cov_data.specs.DataSet.{Text, text_cmp, DataSet}
use Rattle.cov_vault.specs.declared.vault.VaultError.{VaultError}
use Rattle.cov_vault.specs.declared.vault.VaultError.TheVariants.{Absent, NotSchema7, BadRow, Failed}
use Rattle.cov_vault.specs.Contents.{Contents}
use Rattle.cov_vault.specs.Answers.{IsListed, IsLoaded, IsSaved, IsRemoved}
use Rattle.cov_sql.specs.Calls.{Counts}
use Rattle.cov_sql.specs.Bases.{Base, AreAsDeclared, bases_contents}
use Rattle.cov_sql.specs.declared.memory.SqlVault.{SqlVault}
use Rattle.cov_sql.specs.declared.folder.FolderVault.{FolderVault}

-- ---- bases in memory

-- the bases with their names
abbrev pub bases_of : SqlVault → List Base
bases_of vault = vault.bases.items

-- what its names hold
abbrev pub told_in : SqlVault → Contents
told_in vault = bases_contents (bases_of vault)

-- it tells its contents
abbrev pub TellsBases : SqlVault → Type 0
TellsBases vault = AreAsDeclared (bases_of vault)

-- its count never falls, and rises where a call failed
abbrev pub CountsRefusal : Type 0 → SqlVault → SqlVault → Type 0
CountsRefusal failed old new = Counts old.by.refusals new.by.refusals failed

-- its names are those of the contents, which stay
pub record ListsBases (old : SqlVault) (answer : Result (List Text) VaultError) (new : SqlVault)
    : Type 0 where
  pub told : IsListed (told_in old) answer
  pub kept : told_in new ≡ told_in old
  pub tells : TellsBases old → TellsBases new
  pub call : CountsRefusal (answer ≡ Err Failed) old new

-- where it tells its contents, a load is answered by what the name holds, and leaves them
pub record LoadsBases (old : SqlVault) (name : Text) (answer : Result DataSet VaultError)
    (new : SqlVault) : Type 0 where
  pub told : TellsBases old → IsLoaded (get (told_in old) name) answer
  pub kept : TellsBases old → told_in new ≡ told_in old
  pub tells : TellsBases old → TellsBases new
  pub call : CountsRefusal (answer ≡ Err Failed) old new

-- where it tells its contents, a save sets its name, if it isn't refused
pub record SavesBases (old : SqlVault) (name : Text) (data_set : DataSet)
    (refusal : Option VaultError) (new : SqlVault) : Type 0 where
  pub saved : TellsBases old → IsSaved (told_in old) name data_set refusal (told_in new)
  pub tells : TellsBases old → TellsBases new
  pub call : CountsRefusal (refusal ≡ Some Failed) old new

-- a removal takes its name away, if it isn't refused
pub record RemovesBases (old : SqlVault) (name : Text) (refusal : Option VaultError)
    (new : SqlVault) : Type 0 where
  pub removed : IsRemoved (told_in old) name refusal (told_in new)
  pub tells : TellsBases old → TellsBases new
  pub call : CountsRefusal (refusal ≡ Some Failed) old new

-- ---- files of a folder

-- the name of its folder
abbrev pub folder_of : FolderVault → Text
folder_of vault = string_bytes vault.folder

-- a call of a folder keeps its name, and a call that fails is counted
pub record CountsFault (failed : Type 0) (old new : FolderVault) : Type 0 where
  pub same : folder_of new ≡ folder_of old
  pub counts : Counts old.by.refusals new.by.refusals failed

-- names are given in order, and a refusal says nothing of a data file
pub record ListsFolder (old : FolderVault) (answer : Result (List Text) VaultError)
    (new : FolderVault) : Type 0 where
  pub in_order : IfOk answer (IsSorted text_cmp)
  pub not_absent : answer ≢ Err Absent
  pub not_schema : answer ≢ Err NotSchema7
  pub not_bad_row : (row : ℕ) → answer ≢ Err (BadRow row)
  pub call : CountsFault (answer ≡ Err Failed) old new

-- a load
pub record LoadsFolder (old : FolderVault) (name : Text) (answer : Result DataSet VaultError)
    (new : FolderVault) : Type 0 where
  pub call : CountsFault (answer ≡ Err Failed) old new

-- a save answers nothing that only a load can tell
pub record SavesFolder (old : FolderVault) (name : Text) (data_set : DataSet)
    (refusal : Option VaultError) (new : FolderVault) : Type 0 where
  pub not_absent : refusal ≢ Some Absent
  pub not_bad_row : (row : ℕ) → refusal ≢ Some (BadRow row)
  pub call : CountsFault (refusal ≡ Some Failed) old new

-- a removal answers nothing that a data file can tell
pub record RemovesFolder (old : FolderVault) (name : Text) (refusal : Option VaultError)
    (new : FolderVault) : Type 0 where
  pub not_schema : refusal ≢ Some NotSchema7
  pub not_bad_row : (row : ℕ) → refusal ≢ Some (BadRow row)
  pub call : CountsFault (refusal ≡ Some Failed) old new
