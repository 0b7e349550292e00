-- What contents say of the answer to a call of a vault, and of what they are afterwards.
--     names_listed, refusal_of    answers of the code, seen plainly
--     IsListed, IsLoaded          an answer with names; with the data of a name
--     IsSaved, IsRemoved          data saved under a name; a name removed
use Rattle.std.specs.Prelude.{◌≡◌, ◌≢◌, List, map, Option, Some, None, Result, Ok, Err, String, Vec, string_bytes}
use Rattle.std.specs.declared.alloc.Global.{Global}
use Rattle.std.specs.FinMap.{get, insert, keys, remove}
use Rattle.cov_data.specs.DataSet.{Text, DataSet}
use Rattle.cov_vault.specs.declared.vault.Content.{Content}
use Rattle.cov_vault.specs.declared.vault.Content.TheVariants as content
use Rattle.cov_vault.specs.declared.vault.VaultError.{VaultError}
use Rattle.cov_vault.specs.declared.vault.VaultError.TheVariants.{Absent, NotSchema7, BadRow, Failed, NoMemory}
use Rattle.cov_vault.specs.Contents.{Contents}

-- the names that were answered, by their bytes
abbrev pub names_listed : Result (Vec (String Global) Global) VaultError
    → Result (List Text) VaultError
names_listed (Ok names) = Ok (map string_bytes names.items)
names_listed (Err error) = Err error

-- why a call was refused, where it was
abbrev pub refusal_of : {A : Type 0} → Result A VaultError → Option VaultError
refusal_of (Ok a) = None
refusal_of (Err error) = Some error

-- the names are answered in byte order; a fault and want of memory say nothing
abbrev pub IsListed : Contents → Result (List Text) VaultError → Type 0
IsListed contents (Ok names) = names ≡ keys contents
IsListed contents (Err Absent) = ⊥
IsListed contents (Err NotSchema7) = ⊥
IsListed contents (Err (BadRow row)) = ⊥
IsListed contents (Err Failed) = Unit {0}
IsListed contents (Err NoMemory) = Unit {0}

-- A name that holds this, or isn't there, is loaded. Its data are answered, or that it isn't there,
-- or what it holds in place of data; a fault and want of memory say nothing of it.
abbrev pub IsLoaded : Option Content → Result DataSet VaultError → Type 0
IsLoaded held (Ok data_set) = held ≡ Some (content.Good data_set)
IsLoaded held (Err Absent) = held ≡ None
IsLoaded held (Err NotSchema7) = held ≡ Some content.NotSchema7
IsLoaded held (Err (BadRow row)) = held ≡ Some (content.BadRow row)
IsLoaded held (Err Failed) = Unit {0}
IsLoaded held (Err NoMemory) = Unit {0}

-- Data are saved under a name: it holds them afterwards, unless it held no data file of schema 7,
-- and a refusal changes nothing.
abbrev pub IsSaved : Contents → Text → DataSet → Option VaultError → Contents → Type 0
IsSaved old name data_set None new =
    (get old name ≢ Some content.NotSchema7) × (new ≡ insert old name (content.Good data_set))
IsSaved old name data_set (Some Absent) new = ⊥
IsSaved old name data_set (Some NotSchema7) new =
    (get old name ≡ Some content.NotSchema7) × (new ≡ old)
IsSaved old name data_set (Some (BadRow row)) new = ⊥
IsSaved old name data_set (Some Failed) new = new ≡ old
IsSaved old name data_set (Some NoMemory) new = new ≡ old

-- A name is removed: it is gone afterwards, unless it wasn't there, and a refusal changes nothing.
abbrev pub IsRemoved : Contents → Text → Option VaultError → Contents → Type 0
IsRemoved old name None new = (get old name ≢ None) × (new ≡ remove old name)
IsRemoved old name (Some Absent) new = (get old name ≡ None) × (new ≡ old)
IsRemoved old name (Some NotSchema7) new = ⊥
IsRemoved old name (Some (BadRow row)) new = ⊥
IsRemoved old name (Some Failed) new = new ≡ old
IsRemoved old name (Some NoMemory) new = new ≡ old
